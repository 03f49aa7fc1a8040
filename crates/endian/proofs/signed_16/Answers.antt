-- `endian::signed_16` meets its contract. Assumes nothing.
use mathlib.Core.Path.{refl}
use borrow.Author.Rules.{rules}
use mir.Syntax.{w16}
use mir.Val.{Fits}
use Rattle.endian.proofs.Decoding.{cast_is}
use Rattle.endian.proofs.signed_16.Goals as goal
use Rattle.endian.proofs.signed_16.Goals.{Start}

fits : (c : Start) → Fits w16 c.args.n
fits s = search rules

pub returns : goal.returns
returns c = rw c.cast_signed.ensures (cast_is w16 2 refl c.args.n (fits (goal.at.returns c).Start))
