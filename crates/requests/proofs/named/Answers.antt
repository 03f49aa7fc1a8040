-- `requests::named` meets its contract. Assumes nothing.
use Rattle.std.proofs.Common.{rules, sym}
use Rattle.requests.proofs.Asking.{named_none, named_some}
use Rattle.requests.proofs.named.Goals as goal

pub returns-in_err-here : goal.returns-in_err-here
returns-in_err-here c = rw (named_none c.args.setting (sym c.in_err-here.ensures)) (search rules)

pub returns : goal.returns
returns c = rw (named_some c.args.setting _ (sym c.in_ok-here.ensures)) (search rules)
