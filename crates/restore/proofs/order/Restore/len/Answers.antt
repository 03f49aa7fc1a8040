-- `restore::order::Restore::len` meets its contract. Assumes nothing.
use Rattle.std.proofs.Common.{arith, ◌≤◌, ◌∙◌, ap, length, true, false, is_some}
use Rattle.settings.specs.Columns.{count}
use Rattle.restore.specs.Order.{due_sets}
use Rattle.restore.proofs.Rows.{all_sets, no_sets, one_counted, sets_few}
use Rattle.restore.proofs.order.Restore.len.Goals.{then-is_some, else-is_some}
use Rattle.restore.proofs.order.Restore.len.Goals as goal

pub loop-place-init : goal.loop-place-init
loop-place-init c = rw (all_sets c.args.self.now.from c.args.self.now.to) (omega arith)

pub overflow_add-len : goal.overflow_add-len
overflow_add-len c =
    let few : length (due_sets c.args.self.now.from c.args.self.now.to) ≤ count = sets_few c.args.self.now.from c.args.self.now.to in
    omega arith

pub loop-place-preserved : goal.loop-place-preserved
loop-place-preserved c = elim c.if-is_some.branch [
  | then-is_some w ↦
      let one = one_counted c.args.self.now.from c.args.self.now.to c.loop-place.place c.loop-place-test.true true (w.if-is_some.ensures ∙ ap is_some c.set_at.ensures) in
      omega (arith, w.len-is, one)
  | else-is_some w ↦
      let one = one_counted c.args.self.now.from c.args.self.now.to c.loop-place.place c.loop-place-test.true false (w.if-is_some.ensures ∙ ap is_some c.set_at.ensures) in
      omega (arith, w.len-is, one)
]

pub returns : goal.returns
returns c = omega (arith, c.loop-place.invariant, ap length (no_sets c.args.self.now.from c.args.self.now.to c.loop-place.place (omega arith)))
