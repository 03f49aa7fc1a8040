-- What the calls answer: a result, or the refusal. Assumes nothing.
use Rattle.std.specs.Prelude.{ℕ, Result}
use Rattle.paper.specs.declared.Refusal.{Refusal}
use Rattle.wire.specs.declared.Frame.{Frame}

-- a writer's: the length of what it wrote
abbrev pub Written : Type 0
Written = Result ℕ Refusal

-- a reader's: the frame's command, and how many data bytes it has
abbrev pub Read : Type 0
Read = Result Frame Refusal
