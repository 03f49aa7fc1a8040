-- `answers::Sound::set_other` meets its contract. Assumes nothing.
use mathlib.Core.Path.{sym, ap, ◌∙◌}
use Rattle.who.proofs.ReadOut.{read_given}
use Rattle.answers.specs.AsHeld.{decided_of}
use Rattle.answers.proofs.Deciding.{sets_none, sets_some}
use Rattle.answers.proofs.Sound.set_other.Goals as goal

pub returns-in-Ok : goal.returns-in-Ok
unfolding decided_of
returns-in-Ok c =
    c.sends.ensures ∙ rw c.saying.ensures (ap decided_of (sets_some _ _ _ (read_given _ _ _ c.args.self.sound ∙ sym c.in-Ok.ensures)))

pub returns-in-Err : goal.returns-in-Err
returns-in-Err c = c.unknown_id.ensures ∙ ap decided_of (sets_none _ _ _ (read_given _ _ _ c.args.self.sound ∙ sym c.in-Err.ensures))
