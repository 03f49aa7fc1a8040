-- `requests::write` meets its contract. Assumes nothing.
use Rattle.std.proofs.Common.{sym, ◌∙◌}
use Rattle.requests.proofs.Asking.{named_again}
use Rattle.requests.proofs.write.Goals as goal

pub set_found-requires : goal.set_found-requires
set_found-requires c = λ s e. named_again _ s (sym c.named.ensures ∙ e)
