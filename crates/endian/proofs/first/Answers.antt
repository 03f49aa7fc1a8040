-- `endian::first` meets its contract. Assumes nothing.
use lib.ListN.{length-replicate}
use Rattle.laws.specs.Promise.{front_of}
use Rattle.endian.proofs.first.Goals as goal

pub returns : goal.returns
unfolding front_of
returns g c = rw length-replicate at c.copy.ensures.copied
