-- No more agree than were tried.
use Rattle.std.proofs.Common.{◌≤◌}
use Rattle.try_settings.proofs.sweep.Case.agreeing.Given as goal

abbrev pub invariant-loop-wished : goal.invariant-loop-wished
invariant-loop-wished g l = l.agreed ≤ l.wished-counter
