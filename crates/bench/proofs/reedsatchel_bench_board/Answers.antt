-- `bench::reedsatchel_bench_board` meets its contract. Assumes nothing.
use Rattle.std.proofs.Common.{ap, ◌∙◌}
use Rattle.bench.specs.Calls.{begun_board}
use Rattle.bench.proofs.Running.{given_kept, same_board}
use Rattle.bench.proofs.reedsatchel_bench_board.Goals as goal

pub returns : goal.returns
returns c =
    same_board _ _ _
    (c.begun-board.ensures ∙ ap (begun_board _ _ _) (given_kept _ _ _ _ _ c.ranges.voltage c.ranges.current c.ranges.fine c.ranges.consumed c.ranges.charge))
    c.run.ensures
