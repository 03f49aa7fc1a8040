-- `stream::pieces::fresh` meets its contract. Assumes nothing.
use Prim.Native.Nat.{◌<◌}
use mathlib.Core.Path.{refl}
use mathlib.Core.List.{[]}
use native.Mathlib.Omega.{arith}
use lib.ListN.{length}
use Rattle.laws.proofs.Promise.{gives_none}
use Rattle.stream.specs.Calls.{held_of}
use Rattle.stream.proofs.Helds.{allowed_inside}
use Rattle.stream.proofs.Hearing.{begun_more, inside_nothing, inside_ended, end_there}
use Rattle.stream.proofs.pieces.fresh.Goals as goal

pub with_more-requires : goal.with_more-requires
with_more-requires c = rw c.begun.ensures (allowed_inside [] refl, unfold held_of in refl)

pub returns-then-end-piece : goal.returns-then-end-piece
returns-then-end-piece c =
    rw (begun_more _ _ _ c.begun.ensures c.with_more.ensures) (gives_none _ (inside_nothing [] _ _ c.first-end.ensures.first c.if-end-piece.true))

pub ended-requires : goal.ended-requires
ended-requires c = (end_there [] c.args.piece.now _ c.first-end.ensures.first (omega arith), c.requires)

pub returns : goal.returns
returns c =
    let some : c.first-end.result < length c.args.piece.now = omega arith in
    rw (inside_ended [] c.args.piece.now _ c.first-end.ensures.first some) c.ended.ensures
