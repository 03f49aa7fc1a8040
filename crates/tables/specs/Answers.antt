-- What a Set is answered with. Assumes nothing.
use Rattle.std.specs.Prelude.{ℕ, Result, ⊤}
use Rattle.paper.specs.declared.Refusal.{Refusal}
use Rattle.tables.specs.declared.Denied.{Denied}

-- accepted, or why not
abbrev pub Answer : Type 0
Answer = Result ⊤ Denied

abbrev pub denied : Refusal → ℕ → Denied
denied r n = record { refusal = r; nearest = n }
