-- What the public calls give, by short names. Assumes nothing.
use Rattle.std.specs.Prelude.{Option, Result}
use Rattle.paper.specs.declared.Refusal.{Refusal}
use Rattle.reply.specs.declared.Status.{Status}
use Rattle.reply.specs.declared.Reply.{Reply}
use Rattle.reply.specs.declared.Shown.{Shown}

-- a reply, or the refusal of a frame that is none
abbrev pub Parsed : Type 0
Parsed = Result Reply Refusal

-- the status in which a frame answers the request that is due; none where the box waits on
abbrev pub Heeded : Type 0
Heeded = Option Status

-- a reading in its unit, or the refusal of a value that is none
abbrev pub Showed : Type 0
Showed = Result Shown Refusal
