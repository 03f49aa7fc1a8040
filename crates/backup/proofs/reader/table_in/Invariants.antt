-- `backup::reader::table_in` meets its contract. Assumes nothing.
use Rattle.backup.proofs.Lining.{Lined}
use Rattle.backup.proofs.reader.table_in.Given as goal

abbrev pub invariant-loop-index : goal.invariant-loop-index
invariant-loop-index l = Lined l.fn.text l.table l.rest l.index
