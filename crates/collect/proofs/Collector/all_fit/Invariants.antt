-- `collect::Collector::all_fit` by its loop: what is seen so far fits. Assumes nothing.
use Rattle.std.proofs.Common.{◌≡◌, get_or}
use Rattle.laws.specs.Lists.{up_to}
use Rattle.collect.specs.Collecting.{fits}
use Rattle.collect.proofs.Collector.all_fit.Given as goal

abbrev pub invariant-loop-index : goal.invariant-loop-index
invariant-loop-index l = l.all ≡ up_to l.index (λ k. fits l.numbers k (get_or l.numbers k 0))
