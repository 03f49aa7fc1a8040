-- The box's hearing: what its call on a piece of the stream answers, wherever the box is meant. It is the stream's own today: "The stream is
-- read by the same frame rule, bytes taken and refusals 1 to 4, with no reply." Assumes nothing.
use Rattle.std.specs.Prelude.{ℕ, List}
use Rattle.laws.specs.Promise.{Given}
use Rattle.laws.specs.Cutting.{Step}
use Rattle.wire.specs.Parsing.{Ended}
use Rattle.stream.specs.Calls.{hearing}
use Rattle.stream.specs.Laws.{step_of}
use Rattle.stream.specs.declared.Held.{Held}
use Rattle.stream.specs.declared.Heard.{Heard}

unfoldable pub box_hearing : Held → List ℕ → ℕ → Given Heard
box_hearing = hearing

-- and as a step of a row of calls
abbrev pub box_hears : Held → ℕ → List ℕ → Step Held Ended
box_hears held room piece = step_of (box_hearing held piece room)
