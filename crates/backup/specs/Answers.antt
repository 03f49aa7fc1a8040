-- What a text is answered with. Assumes nothing.
use Rattle.std.specs.Prelude.{ℕ, Result, ⊤}
use Rattle.paper.specs.declared.Refusal.{Refusal}
use Rattle.backup.specs.declared.BadText.{BadText}

-- accepted, or why not and in which line
abbrev pub Checked : Type 0
Checked = Result ⊤ BadText

abbrev pub bad : Refusal → ℕ → BadText
bad refusal line = record { refusal = refusal; line = line }
