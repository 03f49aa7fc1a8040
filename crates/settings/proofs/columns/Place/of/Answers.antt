-- `settings::columns::Place::of` meets its contract. Assumes nothing.
use Rattle.settings.proofs.Rows.{looked_none, looked_some}
use Rattle.settings.proofs.columns.Place.of.Goals as goal

pub returns-in_err-index : goal.returns-in_err-index
returns-in_err-index c = rw c.from_residual.ensures (looked_none c.args.id c.in_err-index.ensures)

pub returns : goal.returns
returns c = looked_some c.args.id _ c.in_ok-index.ensures
