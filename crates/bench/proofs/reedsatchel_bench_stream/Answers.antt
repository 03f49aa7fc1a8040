-- `bench::reedsatchel_bench_stream` meets its contract. Assumes nothing.
use Rattle.std.proofs.Common.{refl, rules}
use Rattle.laws.proofs.Lists.{part_to_end}
use Rattle.bench.proofs.Streaming.{going_turn, going_end, turn_within}
use Rattle.bench.proofs.reedsatchel_bench_stream.Goals as goal

pub slice_bounds-left-count : goal.slice_bounds-left-count
slice_bounds-left-count c = turn_within c.loop-size-test.true c.piece_of.ensures c.hear-heard.ensures c.loop-size.invariant

pub slice_bounds-left-start : goal.slice_bounds-left-start
slice_bounds-left-start c = let within = turn_within c.loop-size-test.true c.piece_of.ensures c.hear-heard.ensures c.loop-size.invariant in search rules

pub loop-size-preserved : goal.loop-size-preserved
loop-size-preserved c =
    rw (part_to_end c.loop-size.left.now _ c.hear-heard.result.taken refl)
    (going_turn c.loop-size-test.true c.piece_of.ensures c.hear-heard.ensures c.loop-size.invariant c.hear-heard.auto.into c.good_in-count.ensures)

pub returns : goal.returns
returns c = going_end c.loop-size-test.false c.loop-size.invariant
