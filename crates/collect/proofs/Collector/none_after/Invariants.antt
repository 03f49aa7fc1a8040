-- `collect::Collector::none_after` by its loop: what is seen and what is left to see decide alike. Assumes nothing.
use Rattle.std.proofs.Common.{◌≡◌, ◌&&◌, drop, eqb}
use Rattle.laws.specs.Lists.{every}
use Rattle.collect.proofs.Collector.none_after.Given as goal

abbrev pub invariant-loop-n : goal.invariant-loop-n
invariant-loop-n l = (l.all && every (eqb 0) (drop l.n-index l.rest)) ≡ every (eqb 0) l.rest
