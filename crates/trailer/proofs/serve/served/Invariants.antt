use Rattle.std.proofs.Common.{◌≤◌}
use Rattle.trailer.proofs.serve.served.Given as goal

abbrev pub invariant-loop : goal.invariant-loop
invariant-loop l = l.quiet ≤ l.counter
