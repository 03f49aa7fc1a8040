-- Measure: the characters left.
use Rattle.std.proofs.Common.{length}
use Rattle.try_calls.proofs.listens.listens.Given as goal

abbrev pub decreases-loop-time : goal.decreases-loop-time
decreases-loop-time g l = length l.events.rest.now
