-- `backup::reader::table_in` meets its contract. Assumes nothing.
use Rattle.std.proofs.Common.{◌≡◌, Ok, arith}
use Rattle.std.proofs.lemmas.Grind.{common_steps}
use Rattle.rows.specs.Calls.{judging}
use Rattle.backup.specs.Text.{end_says}
use Rattle.backup.proofs.Calls.{first_other}
use Rattle.backup.proofs.Lining.{lined_start, lined_turn, lined_end}
use Rattle.backup.proofs.reader.table_in.Goals as goal

pub returns-in_default : goal.returns-in_default
returns-in_default c = first_other _ c.in_default.ensures.cases

pub loop-index-init : goal.loop-index-init
loop-index-init c = rw (c.factory-table.ensures, c.in-Some.ensures.cases.1) (lined_start _ c.in-Some.ensures.cases.0)

pub loop-index-preserved : goal.loop-index-preserved
loop-index-preserved c =
    let e : Ok c.in_ok-row.row ≡ judging c.loop-index.index c.loop-index.rest.now = grind (arith, common_steps) in
    lined_turn c.loop-index.invariant c.loop-index-test.true c.in_ok-row.row e

pub returns : goal.returns
unfolding end_says
returns c = let e = lined_end c.loop-index.invariant c.loop-index-test.false in grind (arith, common_steps)

pub returns-then-not-is_empty : goal.returns-then-not-is_empty
unfolding end_says
returns-then-not-is_empty c = let e = lined_end c.loop-index.invariant c.loop-index-test.false in grind (arith, common_steps)

pub returns-then-not-is_allowed : goal.returns-then-not-is_allowed
unfolding end_says
returns-then-not-is_allowed c = let e = lined_end c.loop-index.invariant c.loop-index-test.false in grind (arith, common_steps)
