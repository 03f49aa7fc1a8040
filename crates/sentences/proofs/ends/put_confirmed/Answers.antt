-- `sentences::ends::put_confirmed` meets its contract. Assumes nothing.
use mathlib.Core.Path.{sym, ap, ◌∙◌}
use Rattle.follow.specs.declared.Followed.{Followed}
use Rattle.lines.specs.Lines.{adding}
use Rattle.sentences.proofs.Ending.{progress_refused}
use Rattle.sentences.proofs.ends.put_confirmed.Goals as goal

pub returns-in-Refused : goal.returns-in-Refused
returns-in-Refused c =
    c.put_refused.ensures ∙ ap (adding _) (progress_refused _ _ (sym (ap (λ (f : Followed). f.standing) c.told.ensures) ∙ c.in-Refused.is))
