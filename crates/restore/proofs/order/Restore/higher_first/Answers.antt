-- `restore::order::Restore::higher_first` meets its contract. Assumes nothing.
use Rattle.laws.proofs.Bools.{and_right}
use Rattle.tables.specs.Rules.{allowed}
use Rattle.restore.proofs.Rows.{turned_is}
use Rattle.restore.proofs.order.Restore.higher_first.Goals as goal

pub returns : goal.returns
returns c =
    let restore = c.args.self.now in
    rw (c.differs.ensures, c.differs-2.ensures, c.allows.ensures)
    (turned_is restore.from restore.to (and_right (allowed restore.from) _ restore.allowed) c.args.lower c.args.higher c.requires.0)
