-- `restore::sets_due` meets its contract. Assumes nothing.
use Rattle.std.proofs.Common.{rules, sym, ◌≡◌, true}
use Rattle.restore.specs.Calls.{both_allowed, sets_due}
use Rattle.restore.proofs.sets_due.Goals as goal

pub returns-in_err-between : goal.returns-in_err-between
unfolding sets_due
returns-in_err-between c = rw c.in_err-between.ensures.1 (search rules)

pub returns : goal.returns
unfolding sets_due
returns c =
    let ok : both_allowed c.args.from c.args.to ≡ true = rw (sym c.in_ok-between.ensures.0, sym c.in_ok-between.ensures.1) c.in_ok-between.field-0.allowed in
    rw (ok, c.len.ensures, c.in_ok-between.ensures.0, c.in_ok-between.ensures.1)
