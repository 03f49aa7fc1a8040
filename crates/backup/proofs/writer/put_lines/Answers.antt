-- `backup::writer::put_lines` meets its contract. Assumes nothing.
use mathlib.Core.Path.{◌≡◌, ap}
use Rattle.std.proofs.Common.{arith, rules}
use Prim.Native.Nat.{◌<◌}
use lib.ListN.{length}
use Rattle.settings.specs.Columns.{id_at}
use Rattle.settings.specs.declared.Setting.{Setting}
use Rattle.tables.specs.Rules.{number_at}
use Rattle.backup.proofs.Listing.{line_answered, line_more, listing_end}
use Rattle.backup.proofs.writer.put_lines.Goals as goal
use Rattle.backup.proofs.writer.put_lines.Goals.{Start, After-write}

id_is : (c : After-write) → c.setting_at-id.result.id ≡ id_at c.loop-index.index
id_is c = ap (λ (s : Setting). s.id) c.setting_at-id.ensures

small : (c : After-write) → number_at c.args.table c.loop-index.index < 65536
small c = search rules

short : (c : Start) → length c.args.out.now < 0x8000000000000000
short c = search rules

pub unwrap-at-requires : goal.unwrap-at-requires
unwrap-at-requires c =
    let given = (goal.at.unwrap-at-requires c).After-write in
    rw (line_answered c.loop-index-test.true c.loop-index.invariant _ (id_is given) (small given) c.write.ensures) (search rules)

pub loop-index-preserved : goal.loop-index-preserved
loop-index-preserved c =
    let given = (goal.at.loop-index-preserved c).After-write in
    line_more c.loop-index-test.true c.loop-index.invariant _ (id_is given) (small given) c.write.ensures _ c.unwrap-at.ensures

pub overflow_add-at : goal.overflow_add-at
overflow_add-at c =
    let given = (goal.at.overflow_add-at c).After-write in
    let next = line_more c.loop-index-test.true c.loop-index.invariant _ (id_is given) (small given) c.write.ensures _ c.unwrap-at.ensures in
    omega (arith, next.room, next.long, short (goal.at.overflow_add-at c).Start)

pub returns-clause-place : goal.returns-clause-place
returns-clause-place c = (listing_end c.loop-index-test.false c.loop-index.invariant).0

pub returns-clause-stored : goal.returns-clause-stored
returns-clause-stored c = (listing_end c.loop-index-test.false c.loop-index.invariant).1
