-- `who::Readings::nothing` meets its contract. Assumes nothing.
use mathlib.Core.Path.{refl}
use Rattle.who.proofs.Readings.nothing.Goals as goal

pub returns : goal.returns
returns c = refl
