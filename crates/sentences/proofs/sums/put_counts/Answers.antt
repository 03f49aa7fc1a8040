-- `sentences::sums::put_counts` meets its contract. Assumes nothing.
use Rattle.lines.proofs.Adding.{further}
use Rattle.sentences.specs.Texts.{counts_text}
use Rattle.sentences.proofs.sums.put_counts.Goals as goal

pub returns : goal.returns
unfolding counts_text
returns c =
    further _ _ _ (further _ _ _ (further _ _ _ c.put_ended-line.ensures c.put_between-line.ensures) c.put_between-line-2.ensures) c.put_of.ensures
