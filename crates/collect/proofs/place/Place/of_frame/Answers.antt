-- `collect::place::Place::of_frame` meets its contract. Assumes nothing.
use Rattle.std.proofs.Common.{◌≡◌, refl, sym, ap, ◌∙◌, length, Some}
use Rattle.laws.proofs.Lists.{part_to_end}
use Rattle.paper.specs.Numbers.{get_code}
use Rattle.settings.specs.Columns.{id_at}
use Rattle.settings.specs.declared.Setting.{Setting}
use Rattle.reply.specs.Calls.{heeding}
use Rattle.reply.specs.declared.Status.{Status}
use Rattle.collect.specs.Collecting.{valued}
use Rattle.collect.proofs.Deciding.{heeded_is}
use Rattle.collect.proofs.place.Place.of_frame.Goals as goal

pub returns-in-Some-Good : goal.returns-in-Some-Good
returns-in-Some-Good c =
    let bytes = c.args.bytes.now in
    let said : heeding get_code (id_at c.args.self.index) c.args.command bytes ≡ Some Status.Good =
    ap (λ (due : Setting). heeding get_code due.id c.args.command bytes) (sym c.setting_at-id.ensures)
    ∙ sym c.heed.ensures ∙ c.in-Some-Good.is ∙ ap Some c.in-Some-Good.field-0-is in
    c.of_value.ensures ∙ ap (valued _ _) (part_to_end bytes (length bytes) 3 refl) ∙ heeded_is _ _ _ bytes _ said
