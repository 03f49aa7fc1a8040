-- `restore::order::Restore::after` meets its contract. Assumes nothing.
use Rattle.std.proofs.Common.{◌≡◌}
use Rattle.restore.specs.Order.{due_sets}
use Rattle.restore.specs.Calls.{set_after}
use Rattle.restore.proofs.Rows.{sets_from}
use Rattle.restore.proofs.order.Restore.after.Given as goal

abbrev pub invariant-loop-place : goal.invariant-loop-place
invariant-loop-place l = set_after (sets_from l.self.from l.self.to l.place) l.left ≡ set_after (due_sets l.self.from l.self.to) l.fn.done
