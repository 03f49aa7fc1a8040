-- `stream::pieces::in_frame` meets its contract. Assumes nothing.
use Prim.Native.Nat.{◌<◌}
use native.Mathlib.Omega.{arith}
use lib.ListN.{length}
use Rattle.laws.proofs.Promise.{gives_none}
use Rattle.spans.specs.Few.{those}
use Rattle.stream.proofs.Hearing.{call_nothing, call_ended, end_there}
use Rattle.stream.proofs.pieces.in_frame.Goals as goal

pub returns-then-end-piece : goal.returns-then-end-piece
returns-then-end-piece c = gives_none _ (call_nothing _ c.requires.1 _ _ c.first-end.ensures.first _ c.with_more-whole.ensures c.if-end-piece.true)

pub ended-requires : goal.ended-requires
ended-requires c = (end_there (those c.args.held.chars) c.args.piece.now _ c.first-end.ensures.first (omega arith), c.requires.2)

pub returns : goal.returns
returns c =
    let some : c.first-end.result < length c.args.piece.now = omega arith in
    rw (call_ended _ c.requires.1 c.args.piece.now _ c.first-end.ensures.first _ c.with_more-whole.ensures some) (rw c.as_slice.ensures at c.ended.ensures)
