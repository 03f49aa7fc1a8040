-- `settings::all_allowed` meets its contract. Assumes nothing.
use lib.ListN.{get_or}
use Rattle.laws.proofs.Lists.{up_to_both}
use Rattle.settings.specs.Columns.{count, partner_at, role_at}
use Rattle.settings.specs.Rules.{in_range, agrees, allowed_for, all_allowed}
use Rattle.settings.proofs.all_allowed.Goals as goal

pub returns : goal.returns
unfolding all_allowed allowed_for
returns c =
    let numbers = c.args.numbers in
    rw (c.all_in_range.ensures, c.all_agree.ensures)
    (up_to_both count (λ k. in_range k (get_or numbers k 0)) (λ k. agrees (role_at k) (get_or numbers k 0) (get_or numbers (partner_at k) 0)))
