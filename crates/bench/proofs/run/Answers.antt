-- `bench::run` meets its contract. Assumes nothing.
use Rattle.std.proofs.Common.{◌<◌, length, refl, rules, arith}
use Rattle.laws.proofs.Lists.{part_to_end}
use Rattle.bench.proofs.Running.{going_turn, going_end, turn_within, turn_room}
use Rattle.bench.proofs.run.Goals as goal

pub slice_bounds-left-count : goal.slice_bounds-left-count
slice_bounds-left-count c = turn_within c.loop-size-test.true c.piece_of.ensures c.answer-answered.ensures c.loop-size.invariant

pub slice_bounds-left-start : goal.slice_bounds-left-start
slice_bounds-left-start c = let within = turn_within c.loop-size-test.true c.piece_of.ensures c.answer-answered.ensures c.loop-size.invariant in search rules

pub overflow_add-len : goal.overflow_add-len
overflow_add-len c =
    let short : length c.args.out.now < 0x8000000000000000 = search rules in
    record { fits = omega (arith, turn_room c.loop-size-test.true c.piece_of.ensures c.answer-answered.ensures c.loop-size.invariant) }

pub loop-size-preserved : goal.loop-size-preserved
loop-size-preserved c =
    rw (part_to_end c.loop-size.left.now _ c.answer-answered.result.taken refl)
    (going_turn c.loop-size-test.true c.piece_of.ensures c.answer-answered.ensures c.loop-size.invariant)

pub returns : goal.returns
returns c = going_end c.loop-size-test.false c.loop-size.invariant
