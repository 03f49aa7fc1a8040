-- `wire::reader::payload_of` meets its contract. Assumes nothing.
use native.Mathlib.Omega.{arith}
use lib.ListN.{length}
use Rattle.wire.proofs.Bytes.{odd_count, payload_front}
use Rattle.wire.proofs.reader.payload_of.Goals as goal

pub returns : goal.returns
returns c =
    let odd = odd_count (length c.args.chars.now) c.requires.2 in
    (c.loop-i.invariant.0, payload_front _ _ (omega arith) c.requires.0 _ c.loop-i.invariant.1)
