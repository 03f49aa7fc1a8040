-- `endian::signed_32` meets its contract. Assumes nothing.
use mathlib.Core.Path.{refl}
use borrow.Author.Rules.{rules}
use mir.Syntax.{w32}
use mir.Val.{Fits}
use Rattle.endian.proofs.Decoding.{cast_is}
use Rattle.endian.proofs.signed_32.Goals as goal
use Rattle.endian.proofs.signed_32.Goals.{Start}

fits : (c : Start) → Fits w32 c.args.n
fits s = search rules

pub returns : goal.returns
returns c = rw c.cast_signed.ensures (cast_is w32 4 refl c.args.n (fits (goal.at.returns c).Start))
