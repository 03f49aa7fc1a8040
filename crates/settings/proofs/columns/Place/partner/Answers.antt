-- `settings::columns::Place::partner` meets its contract: the partner is at a neighbouring place, by its id. Assumes nothing.
use Rattle.std.proofs.Common.{arith, rules, ◌<◌, ◌≡◌}
use Rattle.settings.specs.Columns.{id_at}
use Rattle.settings.proofs.Rows.{partner_id, partner_after, partner_before, partner_self}
use Rattle.settings.proofs.columns.Place.partner.Goals.{in-Greater, in-Less, in-Equal}
use Rattle.settings.proofs.columns.Place.partner.Goals as goal

pub returns : goal.returns
returns c = elim c.match-cmp.branch [
  | in-Greater w ↦ let more : id_at c.args.self.index < partner_id c.args.self.index = search rules in omega (arith, partner_after _ c.args.self.inside more)
  | in-Less w ↦ let less : partner_id c.args.self.index < id_at c.args.self.index = search rules in omega (arith, partner_before _ c.args.self.inside less)
  | in-Equal w ↦ let same : partner_id c.args.self.index ≡ id_at c.args.self.index = search rules in omega (arith, partner_self _ c.args.self.inside same)
]
