-- `requests::set` meets its contract. Assumes nothing.
use Rattle.std.proofs.Common.{sym, ◌∙◌}
use Rattle.requests.proofs.Asking.{found_again}
use Rattle.requests.proofs.set.Goals as goal

pub set_found-requires : goal.set_found-requires
set_found-requires c = λ s e. found_again _ s (sym c.at.ensures ∙ e)
