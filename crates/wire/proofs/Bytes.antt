-- Two digits for each byte: lengths, and the parts of an array with the payload at its front. Assumes nothing.
use mathlib.Core.Path.{◌≡◌, refl, sym, ◌∙◌}
use mathlib.Core.Bool.{false}
use mathlib.Core.List.{List, [], ◌∷◌}
use Prim.Native.Nat.{ℕ, ◌+◌, ◌*◌, ◌/◌, ◌%◌, ◌≤◌, ◌<◌, ◌-◌}
use native.Mathlib.Nat.{not-suc-le-zero, le_of_suc-le-suc}
use native.Mathlib.Omega.{arith}
use lib.ListN.{length, take, drop, replicate, length-take, length-drop}
use lib.Seq.{sets, take-take}
use borrow.Author.Tests.{ltb-false, eqb-false}
use lib.Dec.{ltb, eqb}
use Rattle.laws.proofs.Bools.{nor_left, nor_right}
use Rattle.laws.proofs.Promise.{sets_front}
use Rattle.wire.specs.Frame.{digits_of}
use Rattle.wire.specs.Parsing.{bytes_of, payload_of, data_of, bad_count}

pub length_digits_of : (bytes : List ℕ) → length (digits_of bytes) ≡ 2 * length bytes
length_digits_of [] = refl
length_digits_of (b ∷ bs) = omega (arith, length_digits_of bs)

pub length_bytes_of : (chars : List ℕ) → length (bytes_of chars) ≡ length chars / 2
length_bytes_of [] = refl
length_bytes_of (x ∷ []) = refl
length_bytes_of (x ∷ y ∷ rest) = omega (arith, length_bytes_of rest)

-- fewer than two characters are no byte
pub bytes_of_short : (chars : List ℕ) → length chars < 2 → bytes_of chars ≡ []
bytes_of_short [] h = refl
bytes_of_short (x ∷ []) h = refl
bytes_of_short (x ∷ y ∷ rest) h = absurd (not-suc-le-zero (le_of_suc-le-suc (le_of_suc-le-suc h)))

-- at the end of the loop nothing is left to read
pub payload_front : (chars : List ℕ) (i : ℕ) → length chars ≤ 2 * i + 2 → length chars ≤ 73 → (payload : List ℕ)
    → sets payload i (bytes_of (drop (2 * i + 1) chars)) ≡ sets (replicate 36 0) 0 (payload_of chars)
    → take (length (payload_of chars)) payload ≡ payload_of chars
payload_front chars i h k payload e =
    let few : length (drop (2 * i + 1) chars) < 2 = rw length-drop (omega arith) in
    let fits : length (payload_of chars) ≤ 36 = rw (length_bytes_of (drop 1 chars), length-drop) (omega arith) in
    let same : payload ≡ sets (replicate 36 0) 0 (payload_of chars) = rw (bytes_of_short (drop (2 * i + 1) chars) few) at e in
    rw same (sets_front (payload_of chars) (replicate 36 0) fits)

-- an odd count of at least 3: the command's digit, and two for each byte of the payload
pub odd_count : (n : ℕ) → bad_count n ≡ false → (3 ≤ n) × (n % 2 ≡ 1)
odd_count n e =
    let many : 3 ≤ n = ltb-false n 3 (nor_left (ltb n 3) (eqb (n % 2) 0) e) in
    let odd : n % 2 ≡ 0 → ⊥ = eqb-false (n % 2) 0 (nor_right (ltb n 3) (eqb (n % 2) 0) e) in
    (many, omega arith)

pub length_payload : (chars : List ℕ) → bad_count (length chars) ≡ false → length (payload_of chars) ≡ length chars / 2
length_payload chars e = let odd = odd_count (length chars) e in rw (length_bytes_of (drop 1 chars), length-drop) (omega arith)

pub length_data : (chars : List ℕ) → bad_count (length chars) ≡ false → length (data_of chars) ≡ length chars / 2 - 1
length_data chars e = rw (length-take, length_payload chars e) (omega arith)

-- the parts of an array that has the payload at its front
module _ (chars payload : List ℕ) (count : bad_count (length chars) ≡ false) (front : take (length (payload_of chars)) payload ≡ payload_of chars) where
  pub payload_part : take (length chars / 2) payload ≡ payload_of chars
  payload_part = rw (← length_payload chars count) front

  pub data_part : take (length chars / 2 - 1) payload ≡ data_of chars
  data_part =
      let less : length chars / 2 - 1 ≤ length chars / 2 = omega arith in
      sym (take-take (length chars / 2 - 1) (length chars / 2) payload less) ∙ rw (payload_part, ← length_payload chars count)
