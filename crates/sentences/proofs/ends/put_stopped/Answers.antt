-- `sentences::ends::put_stopped` meets its contract. Assumes nothing.
use Rattle.lines.proofs.Adding.{further}
use Rattle.sentences.specs.Texts.{stopped_text}
use Rattle.sentences.proofs.ends.put_stopped.Goals as goal

pub returns : goal.returns
unfolding stopped_text
returns c = further _ _ _ c.put_of-counted.ensures (rw c.saturating_sub.ensures at c.put_between.ensures)
