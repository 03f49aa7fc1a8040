-- `restore::writer::put_sets` meets its contract. Assumes nothing.
use Rattle.restore.proofs.Putting.{Putting}
use Rattle.restore.proofs.writer.put_sets.Given as goal

abbrev pub invariant-loop-place : goal.invariant-loop-place
invariant-loop-place l = Putting l.restore.from l.restore.to l.initial.out l.out l.len l.sets l.place
