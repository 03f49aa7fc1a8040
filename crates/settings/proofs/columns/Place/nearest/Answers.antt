-- `settings::columns::Place::nearest` meets its contract. Assumes nothing.
use Rattle.std.proofs.Common.{arith, ◌∙◌}
use Rattle.settings.proofs.Nearness.{window_some, nearest_one, nearest_same}
use Rattle.settings.proofs.Windows.{allowed_some, nearest_found}
use Rattle.settings.proofs.columns.Place.nearest.Goals as goal

pub nearest-requires : goal.nearest-requires
nearest-requires c =
    let some = allowed_some _ _ c.args.self.inside c.requires in
    window_some c.allowed.result.zero c.allowed.result.low c.allowed.result.high some.0 (c.allowed.ensures some.0 ∙ some.1)

pub returns : goal.returns
returns c =
    nearest_one _ _ _ _ (nearest_same _ _ c.allowed.ensures _ _ c.nearest.ensures) (nearest_found _ _ _ c.args.self.inside c.requires (omega arith))
