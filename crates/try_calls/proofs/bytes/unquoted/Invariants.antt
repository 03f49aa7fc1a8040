-- Measure: the characters left.
use Rattle.std.proofs.Common.{length}
use Rattle.try_calls.proofs.bytes.unquoted.Given as goal

abbrev pub decreases-loop-left : goal.decreases-loop-left
decreases-loop-left l = length l.left
