-- `rows::write` meets its contract. Assumes nothing.
use mathlib.Core.Path.{◌≡◌, ap, ◌∙◌}
use mathlib.Core.List.{List}
use Prim.Native.Nat.{ℕ, ◌<◌, ◌≤◌, min}
use native.Mathlib.Omega.{arith}
use borrow.Author.Rules.{rules}
use lib.ListN.{length}
use Rattle.rows.specs.Row.{row_of}
use Rattle.laws.specs.Promise.{overlaid}
use Rattle.laws.proofs.Promise.{gives_none, gives_bytes}
use Rattle.laws.proofs.Promise.{copied}
use Rattle.rows.proofs.Rows.{write_short, write_made, row_short, line_text}
use Rattle.rows.proofs.write.Goals as goal
use Rattle.rows.proofs.write.Goals.{Start}

small : (c : Start) → c.args.number < 65536
small c = search rules

pub returns-then-out-lt-ROW_ROOM : goal.returns-then-out-lt-ROW_ROOM
returns-then-out-lt-ROW_ROOM c = gives_none _ (write_short _ _ _ c.if-out-lt-ROW_ROOM.true)

pub returns : goal.returns
returns c =
    let few = small (goal.at.returns c).Start in
    let text : c.as_slice.result.now ≡ row_of c.args.id c.args.number = c.as_slice.ensures ∙ line_text _ _ few _ c.row_of-row.ensures in
    let short = row_short c.args.id c.args.number (omega (arith, few)) in
    let fits : length c.as_slice.result.now ≤ length c.args.out.now = rw text (omega (arith, short, c.if-out-lt-ROW_ROOM.false)) in
    let count : min (length c.as_slice.result.now) (length c.args.out.now) ≡ length (row_of c.args.id c.args.number) = rw text (omega (arith, short, c.if-out-lt-ROW_ROOM.false)) in
    rw (c.copy.ensures.count ∙ count)
    (gives_bytes _ _ _ (write_made _ _ _ c.if-out-lt-ROW_ROOM.false) (copied _ _ fits c.copy.ensures.copied ∙ ap (λ (l : List ℕ). overlaid l c.args.out.now) text))
