-- `settings::rules::all_in_range` meets its contract. Assumes nothing.
use mathlib.Core.Path.{◌≡◌}
use lib.ListN.{get_or}
use Rattle.laws.specs.Lists.{up_to}
use Rattle.settings.specs.Rules.{in_range}
use Rattle.settings.proofs.rules.all_in_range.Given as goal

abbrev pub invariant-loop-i : goal.invariant-loop-i
invariant-loop-i l = l.all ≡ up_to l.i (λ k. in_range k (get_or l.numbers k 0))
