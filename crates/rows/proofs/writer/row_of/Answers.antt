-- `rows::writer::row_of` meets its contract. Assumes nothing.
use Rattle.lines.proofs.Adding.{further, from_start}
use Rattle.rows.specs.Row.{row_of}
use Rattle.rows.proofs.writer.row_of.Goals as goal

pub returns : goal.returns
unfolding row_of
returns c =
    from_start _ c.start.ensures (further _ _ _ (further _ _ _ (rw (c.pair_of-high.ensures, c.pair_of-low.ensures) at c.put.ensures) c.put_number.ensures) c.put-2.ensures)
