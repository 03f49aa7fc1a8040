-- `bench::reedsatchel_bench_stream` meets its contract. Assumes nothing.
use Rattle.bench.proofs.Streaming.{Going}
use Rattle.bench.proofs.reedsatchel_bench_stream.Given as goal

abbrev pub invariant-loop-size : goal.invariant-loop-size
invariant-loop-size l = Going l.bytes l.sizes l.initial.into l.into l.held l.left l.count l.size-index
