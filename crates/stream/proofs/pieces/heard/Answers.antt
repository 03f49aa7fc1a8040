-- `stream::pieces::heard` meets its contract. Assumes nothing.
use Prim.Native.Nat.{◌≤◌, ◌<◌, ◌+◌}
use mathlib.Core.Path.{◌≡◌, refl}
use mathlib.Core.List.{[]}
use native.Mathlib.Omega.{arith}
use borrow.Author.Rules.{rules}
use lib.ListN.{length, drop, length-drop}
use Rattle.laws.proofs.Lists.{part_to_end}
use Rattle.laws.specs.Promise.{Gives}
use Rattle.laws.proofs.Promise.{gives_none}
use Rattle.stream.specs.Stream.{inside}
use Rattle.stream.specs.Calls.{heard_of}
use Rattle.stream.specs.declared.Heard.{Heard}
use Rattle.stream.proofs.Streams.{taken_within}
use Rattle.stream.proofs.Hearing.{call_skipped, call_begun, gives_behind}
use Rattle.stream.proofs.pieces.heard.Goals as goal
use Rattle.stream.proofs.pieces.heard.Goals.{After-fresh-found}

-- what is found in the frame that the colon begins
found : (c : After-fresh-found) → Gives Heard (heard_of (inside []) (drop (c.find-skipped.result + 1) c.args.piece.now)) c.args.into.now c.fresh-found.result c.fresh-found.new.into
found c = rw (part_to_end c.args.piece.now _ (c.find-skipped.result + 1) refl) at c.fresh-found.ensures

pub returns-then-skipped-piece : goal.returns-then-skipped-piece
returns-then-skipped-piece c =
    let long : length c.args.held.chars.bytes ≡ 74 = search rules in
    gives_none _ (call_skipped _ c.requires.0 long c.if-held.false _ _ c.find-skipped.ensures.first c.if-skipped-piece.true)

pub returns : goal.returns
returns c =
    let long : length c.args.held.chars.bytes ≡ 74 = search rules in
    let some : c.find-skipped.result < length c.args.piece.now = omega arith in
    rw (call_begun _ c.requires.0 long c.if-held.false _ _ c.find-skipped.ensures.first some) (gives_behind _ _ _ _ _ (found (goal.at.returns c).After-fresh-found))

pub overflow_add-result : goal.overflow_add-result
overflow_add-result c =
    let here = (goal.at.overflow_add-result c).After-fresh-found in
    let within : c.fresh-found.result.taken ≤ length (drop (c.find-skipped.result + 1) c.args.piece.now) = rw (found here).answered (taken_within (inside []) _) in
    omega (arith, rw length-drop at within)
