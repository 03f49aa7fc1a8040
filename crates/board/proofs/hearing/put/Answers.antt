-- `board::hearing::put` meets its contract. Assumes nothing.
use mathlib.Core.Path.{refl}
use Prim.Native.Nat.{◌≤◌}
use native.Mathlib.Omega.{arith}
use lib.ListN.{length, length-take}
use Rattle.laws.proofs.Promise.{gives_none}
use Rattle.spans.specs.Few.{those}
use Rattle.board.proofs.Sending.{made_is, made_whole}
use Rattle.board.proofs.hearing.put.Goals as goal
use Rattle.board.proofs.hearing.put.Goals.{In-Frame}

fits : (c : In-Frame) → (c.in-Frame.message.command ≤ 15) × (c.in-Frame.message.bytes.len ≤ 35)
fits c = rw c.in-Frame.is at c.requires.fits

few : (c : In-Frame) → length (those c.in-Frame.message.bytes) ≤ 35
few c = rw length-take (omega (arith, (fits c).1))

pub unwrap-requires : goal.unwrap-requires
unwrap-requires c =
    let f = (goal.at.unwrap-requires c).In-Frame in
    rw (made_is _ _ c.requires.room (fits f).0 (few f) (rw c.as_slice.ensures at c.write_frame.ensures))

pub returns-in-Nothing : goal.returns-in-Nothing
returns-in-Nothing c = rw c.in-Nothing.is (gives_none _ refl)

pub returns-in-Frame : goal.returns-in-Frame
returns-in-Frame c =
    let f = (goal.at.returns-in-Frame c).In-Frame in
    rw c.in-Frame.is (made_whole _ _ c.requires.room (fits f).0 (few f) (rw c.as_slice.ensures at c.write_frame.ensures) _ c.unwrap.ensures)
