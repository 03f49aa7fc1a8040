-- What the reader and the judge answer: a row, or the refusal. Assumes nothing.
use Rattle.std.specs.Prelude.{ℕ, Result, Ok}
use Rattle.paper.specs.declared.Refusal.{Refusal}
use Rattle.rows.specs.declared.Row.{Row}
use Rattle.rows.specs.declared.Judged.{Judged}

abbrev pub Read : Type 0
Read = Result Row Refusal

abbrev pub Judgement : Type 0
Judgement = Result Judged Refusal

-- by their parts
abbrev pub row_is : ℕ → ℕ → ℕ → Read
row_is id n len = Ok (record { id = id; number = n; len = len })

abbrev pub number_is : ℕ → ℕ → Judgement
number_is n len = Ok (record { number = n; len = len })
