-- `restore::list` meets its contract. Assumes nothing.
use Rattle.std.proofs.Common.{rules, sym, ◌≡◌, true, Err}
use Rattle.paper.specs.Numbers.{not_allowed}
use Rattle.laws.proofs.Promise.{gives_none, gives_bytes}
use Rattle.restore.specs.Calls.{both_allowed}
use Rattle.restore.proofs.Rows.{list_short, list_stray, list_made}
use Rattle.restore.proofs.list.Goals as goal

pub returns-then-out-lt-LIST_ROOM : goal.returns-then-out-lt-LIST_ROOM
returns-then-out-lt-LIST_ROOM c = gives_none _ (list_short _ _ _ c.if-out-lt-LIST_ROOM.true)

pub returns-in_err-restore : goal.returns-in_err-restore
returns-in_err-restore c =
    let is : c.from_residual.result ≡ Err not_allowed = search rules in
    rw is (gives_none _ (list_stray _ _ _ c.if-out-lt-LIST_ROOM.false c.in_err-restore.ensures.1))

pub returns : goal.returns
returns c =
    let from = c.in_ok-restore.ensures.0 in
    let to = c.in_ok-restore.ensures.1 in
    let ok : both_allowed c.args.from c.args.to ≡ true = rw (sym from, sym to) c.in_ok-restore.restore.allowed in
    rw (c.put_sets.ensures.0, from, to) (gives_bytes _ _ _ (list_made _ _ _ c.if-out-lt-LIST_ROOM.false ok) (rw (from, to) at c.put_sets.ensures.1))
