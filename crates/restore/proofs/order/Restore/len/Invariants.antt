-- `restore::order::Restore::len` meets its contract. Assumes nothing.
use Rattle.std.proofs.Common.{◌≡◌, ◌+◌, length}
use Rattle.restore.specs.Order.{due_sets}
use Rattle.restore.proofs.Rows.{sets_from}
use Rattle.restore.proofs.order.Restore.len.Given as goal

abbrev pub invariant-loop-place : goal.invariant-loop-place
invariant-loop-place l = l.len + length (sets_from l.self.from l.self.to l.place) ≡ length (due_sets l.self.from l.self.to)
