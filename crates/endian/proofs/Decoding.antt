-- Two's complement, as the bits of a width. Assumes nothing.
use mathlib.Core.Path.{◌≡◌, refl, ap, ◌∙◌}
use mathlib.Core.Bool.{Bool, true, false}
use Prim.Native.Nat.{ℕ, ◌*◌, ◌^◌, ◌≤◌, ◌<◌}
use native.Mathlib.Omega.{arith}
use borrow.Author.Tests.{ltb-true, ltb-false, lt-ltb, le-ltb}
use lib.Dec.{ltb}
use mir.Val.{Fits, to_z, of_z, bits, hbits}
use mir.ValLaws.{to_z_pos, pow-bits, of_z-to_z}
use mir.Syntax.{Width}
use Rattle.endian.specs.Numbers.{signed}

module _ (w : Width) (width : ℕ) (same : 256 ^ width ≡ 2 ^ bits w) (n : ℕ) where
  -- below the half a number is itself, and from it on it is negative
  signed_is : to_z w n ≡ signed width n
  unfolding signed
  signed_is = by (ltb n (2 ^ hbits w)) refl
    where
      by : (b : Bool) → ltb n (2 ^ hbits w) ≡ b → to_z w n ≡ signed width n
      by true e =
          let h : n < 2 ^ hbits w = ltb-true n (2 ^ hbits w) e in
          let twice : 2 * n < 256 ^ width = rw (same, pow-bits w) (omega arith) in
          unfold signed in rw (lt-ltb (2 * n) (256 ^ width) twice, to_z_pos w n h)
      by false e =
          let h : 2 ^ hbits w ≤ n = ltb-false n (2 ^ hbits w) e in
          let twice : 256 ^ width ≤ 2 * n = rw (same, pow-bits w) (omega arith) in
          unfold signed in rw (le-ltb (2 * n) (256 ^ width) twice, le-ltb n (2 ^ hbits w) h, same)

  pub cast_is : Fits w n → to_z w (of_z w (to_z w n)) ≡ signed width n
  cast_is fits = ap (to_z w) (of_z-to_z w n fits) ∙ signed_is
