-- `restore::order::Restore::after` meets its contract. Assumes nothing.
use Rattle.std.proofs.Common.{arith, ◌∙◌, sym}
use Rattle.restore.proofs.Rows.{all_sets, no_sets, next_none, next_some, after_next}
use Rattle.restore.proofs.order.Restore.after.Goals.{in-Some+else-left-eq0, in_default}
use Rattle.restore.proofs.order.Restore.after.Goals as goal

pub loop-place-init : goal.loop-place-init
loop-place-init c = rw (all_sets c.args.self.now.from c.args.self.now.to)

pub returns-then-left-eq0 : goal.returns-then-left-eq0
returns-then-left-eq0 c =
    let next = next_some c.args.self.now.from c.args.self.now.to c.loop-place.place c.loop-place-test.true c.in-Some.set (sym c.in-Some.ensures) in
    rw (next, c.if-left-eq0.true) at c.loop-place.invariant

pub loop-place-preserved : goal.loop-place-preserved
loop-place-preserved c = elim c.match-set_at.branch [
  | in-Some+else-left-eq0 w ↦
      let next = next_some c.args.self.now.from c.args.self.now.to c.loop-place.place c.loop-place-test.true w.in-Some.set (sym w.in-Some.ensures) in
      rw w.left-is (sym (after_next w.in-Some.set _ c.loop-place.left w.if-left-eq0.false) ∙ rw next at c.loop-place.invariant)
  | in_default w ↦
      let next = next_none c.args.self.now.from c.args.self.now.to c.loop-place.place c.loop-place-test.true (sym w.in_default.ensures) in
      rw w.left-is (rw next at c.loop-place.invariant)
]

pub returns : goal.returns
returns c = rw (no_sets c.args.self.now.from c.args.self.now.to c.loop-place.place (omega arith)) at c.loop-place.invariant
