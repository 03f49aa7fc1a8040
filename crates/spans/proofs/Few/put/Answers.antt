-- `spans::Few::put` meets its contract. Assumes nothing.
use Rattle.std.proofs.Common.{ap, ◌∙◌, ℕ, List, ◌++◌, take}
use lib.ListN.{length-replicate}
use Rattle.spans.specs.Few.{few}
use Rattle.spans.proofs.Fews.{put_behind}
use Rattle.spans.proofs.Few.put.Goals as goal

pub returns : goal.returns
returns g c =
    put_behind g.row.N _ _ _ _ _ _ (rw length-replicate at c.copy-len.ensures.count) (rw length-replicate at c.copy-len.ensures.copied)
    c.copy-more.ensures.count c.copy-more.ensures.copied
    ∙ ap (λ (l : List ℕ). few g.row.N (take g.row.N (l ++ c.args.more.now))) c.as_slice.ensures
