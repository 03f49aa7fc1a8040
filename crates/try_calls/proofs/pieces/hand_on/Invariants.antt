-- Measure: the bytes left.
use Rattle.std.proofs.Common.{length}
use Rattle.try_calls.proofs.pieces.hand_on.Given as goal

abbrev pub decreases-loop-call : goal.decreases-loop-call
decreases-loop-call g l = length l.left
