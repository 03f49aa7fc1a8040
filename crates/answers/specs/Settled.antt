-- A setting that a look-up can find. Assumes nothing.
use Rattle.std.specs.Prelude.{◌≤◌, ◌<◌}
use Rattle.settings.specs.Columns.{count}
use Rattle.settings.specs.declared.Setting.{Setting}

-- within the table, one byte wide or two
pub record Settled (s : Setting) : Type 0 where
  pub within : s.index < count
  pub wide : 1 ≤ s.width
  pub narrow : s.width ≤ 2
