-- What happened in a call on the stream. Assumes nothing.
use Rattle.std.specs.Prelude.{Option, Result}
use Rattle.paper.specs.declared.Refusal.{Refusal}
use Rattle.wire.specs.declared.Frame.{Frame}

-- no frame ended, or one with its command and the number of its data bytes; or a refusal, 1 to 4 of the frame that ended, 11 or 12 of the call
abbrev pub Event : Type 0
Event = Result (Option Frame) Refusal
