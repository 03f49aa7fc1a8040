-- What the calls answer. Assumes nothing.
use Rattle.std.specs.Prelude.{Result}
use Rattle.paper.specs.Numbers.{most_serial}
use Rattle.paper.specs.declared.Refusal.{Refusal}
use Rattle.spans.specs.declared.Few.{Few}

-- that something was accepted, or the refusal
abbrev pub Verdict : Type 0
Verdict = Result Unit Refusal

-- a read-only value of up to 32 bytes
abbrev pub Value : Type 0
Value = Few most_serial

-- what an id reads out: its value, or the refusal
abbrev pub Looked : Type 0
Looked = Result Value Refusal
