-- `spans::Few::of` meets its contract. Assumes nothing.
use lib.ListN.{length-replicate}
use Rattle.spans.proofs.Fews.{few_copied}
use Rattle.spans.proofs.Few.of.Goals as goal

pub returns : goal.returns
returns g c = few_copied g.row.N _ _ _ (rw length-replicate at c.copy-len.ensures.count) (rw length-replicate at c.copy-len.ensures.copied)
