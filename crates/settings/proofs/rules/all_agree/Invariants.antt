-- `settings::rules::all_agree` meets its contract. Assumes nothing.
use mathlib.Core.Path.{◌≡◌}
use Rattle.laws.specs.Lists.{up_to}
use Rattle.settings.proofs.Neighbours.{asked}
use Rattle.settings.proofs.rules.all_agree.Given as goal

abbrev pub invariant-loop-i : goal.invariant-loop-i
invariant-loop-i l = l.all ≡ up_to l.i (asked l.numbers)
