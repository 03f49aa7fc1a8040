-- What the public calls answer with. Assumes nothing.
use Rattle.std.specs.Prelude.{ℕ, Option, Result}
use Rattle.paper.specs.declared.Refusal.{Refusal}
use Rattle.settings.specs.declared.Setting.{Setting}

-- what a look-up finds: the setting, or none
abbrev pub Found : Type 0
Found = Option Setting

-- a number, or the refusal
abbrev pub Number : Type 0
Number = Result ℕ Refusal
