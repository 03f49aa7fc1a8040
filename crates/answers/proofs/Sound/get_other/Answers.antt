-- `answers::Sound::get_other` meets its contract. Assumes nothing.
use mathlib.Core.Path.{sym, ap, ◌∙◌}
use Rattle.who.proofs.ReadOut.{read_given}
use Rattle.answers.specs.AsHeld.{decided_of}
use Rattle.answers.proofs.Deciding.{gets_none, gets_some}
use Rattle.answers.proofs.Sound.get_other.Goals as goal

pub returns-in-Ok : goal.returns-in-Ok
unfolding decided_of
returns-in-Ok c =
    c.sends.ensures ∙ rw (c.saying.ensures, c.as_slice.ensures) (ap decided_of (gets_some _ _ _ (read_given _ _ _ c.args.self.sound ∙ sym c.in-Ok.ensures)))

pub returns-in-Err : goal.returns-in-Err
returns-in-Err c = c.unknown_id.ensures ∙ ap decided_of (gets_none _ _ _ (read_given _ _ _ c.args.self.sound ∙ sym c.in-Err.ensures))
