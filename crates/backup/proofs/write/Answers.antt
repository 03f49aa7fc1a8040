-- `backup::write` meets its contract. Assumes nothing.
use mathlib.Core.List.{List}
use mathlib.Core.Path.{◌≡◌, sym, ap, ◌∙◌}
use Prim.Native.Nat.{ℕ, ◌+◌, ◌≤◌}
use native.Mathlib.Omega.{arith}
use lib.ListN.{length}
use Rattle.laws.specs.Promise.{overlaid}
use Rattle.laws.proofs.Promise.{gives_none, gives_bytes}
use Rattle.laws.proofs.Promise.{copied}
use Rattle.backup.specs.Text.{header, places, lines_for, text_of}
use Rattle.backup.proofs.Places.{header_long}
use Rattle.backup.proofs.Calls.{first, first_is, write_short, write_stray, write_made}
use Rattle.backup.proofs.Listing.{text_stores, text_length, overlaid_length}
use Rattle.backup.proofs.write.Goals as goal
use Rattle.backup.proofs.write.Goals.{After-copy-at}

-- the header at the front
front : (c : After-copy-at) → c.copy-at.new.to ≡ overlaid header c.args.out.now
front c =
    copied first _ (omega (arith, c.if-out-lt-TEXT_ROOM.false)) c.copy-at.ensures.copied ∙ ap (λ (l : List ℕ). overlaid l c.args.out.now) first_is

front_end : (c : After-copy-at) → c.copy-at.result ≡ length header
front_end c = rw header_long (omega (arith, c.copy-at.ensures.count, c.if-out-lt-TEXT_ROOM.false))

pub returns-then-out-lt-TEXT_ROOM : goal.returns-then-out-lt-TEXT_ROOM
returns-then-out-lt-TEXT_ROOM c = gives_none _ (write_short _ _ c.if-out-lt-TEXT_ROOM.true)

pub returns-then-not-is_allowed : goal.returns-then-not-is_allowed
returns-then-not-is_allowed c = gives_none _ (write_stray _ _ c.if-out-lt-TEXT_ROOM.false (sym c.is_allowed.ensures ∙ c.if-not-is_allowed.true))

pub returns : goal.returns
returns c =
    let lines = c.put_lines.ensures in
    let size : length c.copy-at.new.to ≡ length c.args.out.now =
    ap length (front (goal.at.returns c).After-copy-at) ∙ overlaid_length header _ (omega (arith, header_long, c.if-out-lt-TEXT_ROOM.false)) in
    let room : length header + length (lines_for places c.args.table) ≤ length c.args.out.now = omega (arith, lines.place, lines.room, front_end (goal.at.returns c).After-copy-at) in
    let made : c.put_lines.result ≡ length (text_of c.args.table) = lines.place ∙ rw (front_end (goal.at.returns c).After-copy-at) (text_length c.args.table) in
    let stores : c.put_lines.new.out ≡ overlaid (text_of c.args.table) c.args.out.now =
    lines.stored ∙ rw (front_end (goal.at.returns c).After-copy-at, front (goal.at.returns c).After-copy-at) (text_stores c.args.table c.args.out.now room) in
    rw made
    (gives_bytes _ _ _ (write_made _ _ c.if-out-lt-TEXT_ROOM.false (sym c.is_allowed.ensures ∙ c.if-not-is_allowed.false)) stores)
