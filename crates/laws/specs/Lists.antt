-- Words about lists. Assumes nothing.
use Rattle.std.specs.Prelude.{ℕ, zero, suc, ◌+◌, Bool, true, false, cond, ◌&&◌, List, [], ◌∷◌, ◌≡◌, ltb, eqb}

-- the test p holds of every entry
abbrev pub every : (ℕ → Bool) → List ℕ → Bool
every p [] = true
every p (x ∷ xs) = p x && every p xs

-- numbers below 256
abbrev pub byte : ℕ → Bool
byte b = ltb b 256

pub record Bytes (bytes : List ℕ) : Type 0 where
  pub below : every byte bytes ≡ true

-- how many entries come before the first of which the test p holds: its place, or the length where there is none
abbrev pub before : (ℕ → Bool) → List ℕ → ℕ
before p [] = zero
before p (x ∷ xs) = cond (p x) zero (suc (before p xs))

-- the same entries
abbrev pub same : List ℕ → List ℕ → Bool
same [] [] = true
same [] (y ∷ ys) = false
same (x ∷ xs) [] = false
same (x ∷ xs) (y ∷ ys) = eqb x y && same xs ys

abbrev pub sum_of : List ℕ → ℕ
sum_of [] = zero
sum_of (x ∷ xs) = x + sum_of xs

-- the test p holds of every number below n
abbrev pub up_to : ℕ → (ℕ → Bool) → Bool
up_to zero p = true
up_to (suc n) p = up_to n p && p n
