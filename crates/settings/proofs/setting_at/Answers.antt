-- `settings::setting_at` meets its contract. Assumes nothing.
use Rattle.settings.proofs.Rows.{setting_past}
use Rattle.settings.proofs.setting_at.Goals as goal

pub returns : goal.returns
returns c = rw (c.unwrap_or.ensures, c.at.ensures) (setting_past c.args.index)
