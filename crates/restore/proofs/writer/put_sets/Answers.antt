-- `restore::writer::put_sets` meets its contract. Assumes nothing.
use Rattle.std.proofs.Common.{arith, sym}
use Rattle.restore.proofs.Rows.{set_kept}
use Rattle.restore.proofs.Putting.{putting_start, putting_room, putting_few, putting_none, putting_some, putting_end}
use Rattle.restore.proofs.writer.put_sets.Goals.{in-Some, in_default}
use Rattle.restore.proofs.writer.put_sets.Goals as goal

pub loop-place-init : goal.loop-place-init
loop-place-init c = putting_start _ _ _ c.requires

pub put_set-len-requires : goal.put_set-len-requires
put_set-len-requires c =
    let kept = set_kept c.args.restore.now.from c.args.restore.now.to c.args.restore.now.allowed c.loop-place.place c.loop-place-test.true _ (sym c.in-Some.ensures) in
    (putting_room _ _ c.loop-place-test.true c.loop-place.invariant, kept.0, kept.1)

pub overflow_add-sets : goal.overflow_add-sets
overflow_add-sets c =
    let few = putting_few _ _ c.loop-place-test.true c.loop-place.invariant in
    omega arith

pub loop-place-preserved : goal.loop-place-preserved
loop-place-preserved c = elim c.match-set_at.branch [
  | in-Some w ↦
      let is = sym w.in-Some.ensures in
      let kept = set_kept c.args.restore.now.from c.args.restore.now.to c.args.restore.now.allowed c.loop-place.place c.loop-place-test.true _ is in
      rw (w.len-is, w.sets-is, w.out-is) (putting_some _ _ c.loop-place-test.true c.loop-place.invariant _ is kept.0 w.put_set-len.ensures.0 w.put_set-len.ensures.1)
  | in_default w ↦ rw (w.len-is, w.sets-is, w.out-is) (putting_none _ _ c.loop-place-test.true c.loop-place.invariant (sym w.in_default.ensures))
]

pub shape_of-out : goal.shape_of-out
shape_of-out c = c.loop-place.invariant.long

pub returns : goal.returns
returns c = putting_end _ _ (omega arith) c.requires c.loop-place.invariant
