-- `settings::rules::all_in_range` meets its contract. Assumes nothing.
use Rattle.std.proofs.Common.{arith, ◌≡◌, ◌∙◌, ap₂, ◌&&◌, add-one}
use Rattle.settings.specs.Columns.{count}
use Rattle.settings.proofs.Windows.{window_at}
use Rattle.settings.proofs.rules.all_in_range.Goals as goal

pub loop-i-preserved : goal.loop-i-preserved
loop-i-preserved c =
    rw add-one (ap₂ ◌&&◌ c.loop-i.invariant (c.holds-all.ensures ∙ window_at c.zeros-zeros.ensures c.lows-lows.ensures c.highs-highs.ensures _ _))

pub returns : goal.returns
returns c = let all : c.loop-i.i ≡ count = omega arith in rw all at c.loop-i.invariant
