-- Laws of a frame: its length, the check byte that brings it to the total, and the stores that write it. Assumes nothing.
use mathlib.Core.Path.{◌≡◌, refl, ◌∙◌}
use mathlib.Core.List.{List, [], ◌∷◌, ◌++◌, append_assoc}
use Prim.Native.Nat.{ℕ, suc, ◌+◌, ◌*◌, ◌%◌, ◌≤◌, ◌<◌}
use native.Mathlib.Omega.{arith}
use lib.ListN.{length, set, length-append}
use lib.Seq.{sets}
use Rattle.laws.specs.Lists.{sum_of}
use Rattle.laws.specs.Promise.{overlaid}
use Rattle.laws.proofs.Lists.{sets_append}
use Rattle.laws.proofs.Promise.{overlaid_sets}
use Rattle.wire.specs.Digits.{digit}
use Rattle.paper.specs.Numbers.{colon, newline, frame_total}
use Rattle.wire.specs.Frame.{check, digits_of, body, frame}
use Rattle.wire.proofs.Bytes.{length_digits_of}

-- "Command, data bytes and check sum to 0x55 modulo 256", and no other byte does
pub check_sums : (command : ℕ) (bytes : List ℕ) → (command + sum_of bytes + check command bytes) % 256 ≡ frame_total
unfolding check
check_sums command bytes = omega arith

pub check_only : (command : ℕ) (bytes : List ℕ) (k : ℕ) → k < 256 → (command + sum_of bytes + k) % 256 ≡ frame_total → k ≡ check command bytes
unfolding check
check_only command bytes k h e = omega arith

pub check_byte : (command : ℕ) (bytes : List ℕ) → check command bytes < 256
unfolding check
check_byte command bytes = omega arith

pub digits_of_append : (xs ys : List ℕ) → digits_of (xs ++ ys) ≡ digits_of xs ++ digits_of ys
digits_of_append [] ys = refl
digits_of_append (x ∷ xs) ys = rw (digits_of_append xs ys)

pub length_body : (command : ℕ) (bytes : List ℕ) → length (body command bytes) ≡ 2 * length bytes + 3
unfolding body
length_body command bytes = simp (length_digits_of, length-append) (omega arith)

pub length_frame : (command : ℕ) (bytes : List ℕ) → length (frame command bytes) ≡ 2 * length bytes + 5
unfolding frame
length_frame command bytes = simp (length-append, length_body) (omega arith)

-- what the writer's stores leave
stores_tail : (l bytes : List ℕ) (k n : ℕ)
    → set (sets (sets l 2 (digits_of bytes)) (2 + 2 * length bytes) (digits_of (k ∷ []))) (2 + 2 * length bytes + 2) n
    ≡ sets l 2 (digits_of (bytes ++ k ∷ []) ++ n ∷ [])
stores_tail l bytes k n =
    let end : 2 + 2 * length bytes + 2 ≡ suc (suc (2 + 2 * length bytes)) = omega arith in
    rw (digits_of_append bytes (k ∷ []), append_assoc, sets_append, length_digits_of bytes, end)

pub frame_stores : (command : ℕ) (bytes out : List ℕ) → 2 * length bytes + 5 ≤ length out
    → set (sets (sets (set (set out 0 colon) 1 (digit command)) 2 (digits_of bytes)) (2 + 2 * length bytes) (digits_of (check command bytes ∷ []))) (2 + 2 * length bytes + 2) newline
    ≡ overlaid (frame command bytes) out
unfolding frame body
frame_stores command bytes out h =
    stores_tail (set (set out 0 colon) 1 (digit command)) bytes (check command bytes) newline
    ∙ overlaid_sets (frame command bytes) out (rw length_frame h)
