-- `backup::writer::put_lines` meets its contract. Assumes nothing.
use Rattle.backup.proofs.Listing.{Listing}
use Rattle.backup.proofs.writer.put_lines.Given as goal

abbrev pub invariant-loop-index : goal.invariant-loop-index
invariant-loop-index l = Listing l.initial.out l.start l.fn.table l.out l.at l.index
