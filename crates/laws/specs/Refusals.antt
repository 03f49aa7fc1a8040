-- Which refusal is given, where a paper lists them in their order. Assumes nothing.
use Rattle.std.specs.Prelude.{ℕ, Bool, cond, List, [], ◌∷◌}
use Rattle.std.proofs.Math.Option.{Option, none, some}

-- a row of the table: its number, and whether its condition holds
pub record Row : Type 0 where
  pub number : ℕ
  pub holds : Bool

abbrev pub row : ℕ → Bool → Row
row number holds = record { number = number; holds = holds }

-- "Given exactly when": the number whose condition holds while that of no row before it does; none where no condition holds
abbrev pub first_of : List Row → Option ℕ
first_of [] = none
first_of (r ∷ more) = cond r.holds (some r.number) (first_of more)
