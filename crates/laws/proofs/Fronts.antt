-- Bytes at the front of an array, zeros after them. Assumes nothing.
use mathlib.Core.Path.{◌≡◌, sym, ap, ◌∙◌}
use mathlib.Core.Bool.{true}
use mathlib.Core.List.{List, [], ◌∷◌, ◌++◌, append_assoc, append-nil}
use Prim.Native.Nat.{ℕ, zero, suc, ◌+◌, ◌-◌, ◌≤◌, min}
use native.Mathlib.Omega.{arith}
use lib.ListN.{length, take, drop, replicate, length-take, length-drop, length-append, length-replicate, take-append-drop, drop_of_length-le}
use lib.Seq.{drop-append_seam, length-take-le, take-append-add}
use lib.Dec.{eqb}
use Rattle.laws.specs.Lists.{every}
use Rattle.laws.specs.Promise.{overlaid, front_of}
use Rattle.laws.proofs.Promise.{overlaid_front}
use Rattle.laws.proofs.Lists.{every_zero, every_replicate, padded, take_replicate}

pub drop_replicate : (k n a : ℕ) → drop k (replicate n a) ≡ replicate (n - k) a
drop_replicate zero n a = let same : n ≡ n - 0 = omega arith in ap (λ (m : ℕ). replicate m a) same
drop_replicate (suc k) zero a = let none : 0 ≡ 0 - suc k = omega arith in ap (λ (m : ℕ). replicate m a) none
drop_replicate (suc k) (suc n) a = let same : n - k ≡ suc n - suc k = omega arith in drop_replicate k n a ∙ ap (λ (m : ℕ). replicate m a) same

module _ (n : ℕ) (bytes : List ℕ) where
  pub front_is : front_of n bytes ≡ bytes ++ replicate (n - length bytes) 0
  unfolding front_of overlaid
  front_is = ap (λ (t : List ℕ). bytes ++ t) (drop_replicate (length bytes) n 0)

  pub front_taken : take (length bytes) (front_of n bytes) ≡ bytes
  unfolding front_of
  front_taken = overlaid_front bytes (replicate n 0)

  pub front_zeros : every (eqb 0) (drop (length bytes) (front_of n bytes)) ≡ true
  front_zeros = rw (front_is, drop-append_seam) (every_replicate (n - length bytes))

-- an array that is 0 from a place on has what is before it at its front
pub front_again : (n k : ℕ) (l : List ℕ) → length l ≡ n → k ≤ n → every (eqb 0) (drop k l) ≡ true → front_of n (take k l) ≡ l
front_again n k l long few e =
    let size : length (take k l) ≡ k = length-take k l ∙ omega arith in
    let zeros : drop k l ≡ replicate (n - k) 0 = every_zero (drop k l) e ∙ ap (λ (m : ℕ). replicate m 0) (length-drop k l ∙ ap (λ (m : ℕ). m - k) long) in
    front_is n (take k l) ∙ ap (λ (m : ℕ). take k l ++ replicate (n - m) 0) size ∙ ap (λ (t : List ℕ). take k l ++ t) (sym zeros) ∙ take-append-drop k l

-- and a zero more, where there is room for one
pub front_zero : (n : ℕ) (bytes : List ℕ) → suc (length bytes) ≤ n → front_of n (bytes ++ 0 ∷ []) ≡ front_of n bytes
front_zero n bytes h =
    let more : length (bytes ++ 0 ∷ []) ≡ suc (length bytes) = length-append bytes (0 ∷ []) ∙ omega arith in
    let one : suc (n - suc (length bytes)) ≡ n - length bytes = omega arith in
    front_is n (bytes ++ 0 ∷ [])
    ∙ ap (λ (m : ℕ). (bytes ++ 0 ∷ []) ++ replicate (n - m) 0) more
    ∙ append_assoc bytes (0 ∷ []) (replicate (n - suc (length bytes)) 0)
    ∙ ap (λ (m : ℕ). bytes ++ replicate m 0) one
    ∙ sym (front_is n bytes)

-- bytes in front, more after them as far as there is room, and zeros up to it
pub padded_behind : (front more zeros last : List ℕ) (k m : ℕ) → zeros ≡ replicate k 0 → k ≤ m → last ≡ overlaid (take (min (length more) k) more) (take k zeros)
    → front ++ (last ++ drop k zeros) ≡ take (length front + k) ((front ++ more) ++ replicate m 0)
unfolding overlaid
padded_behind front more zeros last k m z h e =
    let n : length (take (min (length more) k) more) ≡ min (length more) k = length-take-le _ more (omega arith) in
    let zs : List ℕ = replicate k 0 in
    let none : drop k zs ≡ [] = drop_of_length-le zs {i = k} (rw length-replicate (omega arith)) in
    rw (append_assoc front more (replicate m 0), take-append-add, ← padded more k m h, e, n, z, take_replicate k k 0 (omega arith), none, append-nil)
