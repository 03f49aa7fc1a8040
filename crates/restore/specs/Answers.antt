-- What the public calls answer with. Assumes nothing.
use Rattle.std.specs.Prelude.{ℕ, Option, Result}
use Rattle.paper.specs.declared.Refusal.{Refusal}
use Rattle.requests.specs.declared.Wanted.{Wanted}
use Rattle.restore.specs.declared.Size.{Size}

-- the size of the list that was written, or the refusal
abbrev pub Listed : Type 0
Listed = Result Size Refusal

-- how many Sets there are, or the refusal
abbrev pub Sets : Type 0
Sets = Result ℕ Refusal

-- the Set that is due, or none after the last; or the refusal
abbrev pub Due : Type 0
Due = Result (Option Wanted) Refusal
