-- `bench::run` meets its contract. Assumes nothing.
use Rattle.bench.proofs.Running.{Going}
use Rattle.bench.proofs.run.Given as goal

abbrev pub invariant-loop-size : goal.invariant-loop-size
invariant-loop-size l = Going l.bytes l.sizes l.initial.out l.initial.board l.out l.board l.left l.len l.size-index
