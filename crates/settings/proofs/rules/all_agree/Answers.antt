-- `settings::rules::all_agree` meets its contract. Assumes nothing.
use Rattle.std.proofs.Common.{arith, ◌≡◌, ◌∙◌, ◌-◌, add-one}
use Rattle.settings.specs.Columns.{count}
use Rattle.settings.proofs.Neighbours.{neighbours_suffice}
use Rattle.settings.proofs.rules.all_agree.Goals as goal

pub loop-i-preserved : goal.loop-i-preserved
loop-i-preserved c = rw (c.agrees_next-all.ensures, c.roles-roles.ensures, c.loop-i.invariant, add-one)

pub returns : goal.returns
returns c = let all : c.loop-i.i ≡ count - 1 = omega arith in rw all at c.loop-i.invariant ∙ neighbours_suffice c.args.numbers
