-- Which values are understood, and how wide they are. Assumes nothing.
use mathlib.Core.Path.{◌≡◌, refl, ap, ap₂}
use mathlib.Core.Logic.{◌≢◌}
use mathlib.Core.Bool.{true, ◌&&◌, false≢true}
use mathlib.Core.List.{List, [], ◌∷◌}
use Prim.Native.Nat.{ℕ}
use native.Mathlib.Omega.{arith}
use borrow.Author.Tests.{eq-eqb, ne_eqb, eqb-true}
use lib.ListN.{length, get_or}
use lib.Dec.{eqb}
use Rattle.laws.proofs.Bools.{and_left, and_right}
use Rattle.view.specs.Values.{product_fits, width_of, is_understood}
use Rattle.view.specs.Laws.{ProductIsRead, VersionIsRead}

module _ (id : ℕ) (value : List ℕ) (ok : is_understood id value ≡ true) where
  pub product_wide : id ≡ 0x0100 → length value ≡ 4
  unfolding is_understood product_fits
  product_wide is =
      eqb-true (length value) 4 (and_left (eqb (length value) 4) (eqb (get_or value 0 0) 0 && eqb (get_or value 3 0) 0xFF) (rw (eq-eqb id 0x0100 is) at ok))

  pub reading_wide : id ≢ 0x0100 → id ≢ 0x010A → length value ≡ width_of id
  unfolding is_understood
  reading_wide h k = eqb-true (length value) (width_of id) (rw (ne_eqb id 0x0100 h, ne_eqb id 0x010A k) at ok)

pub width_two : (id : ℕ) → id ≢ 0xED8C → id ≢ 0xEEFF → width_of id ≡ 2
width_two id h k = rw (ne_eqb id 0xED8C h, ne_eqb id 0xEEFF k)

pub product_is_read : ProductIsRead
unfolding is_understood product_fits
product_is_read value = (there value, λ some. ap product_fits some.2)
  where
    there : (value : List ℕ) → product_fits value ≡ true → (low : ℕ) × (high : ℕ) × (value ≡ 0x00 ∷ low ∷ high ∷ 0xFF ∷ [])
    there [] ok = absurd (false≢true ok)
    there (a ∷ []) ok = absurd (false≢true ok)
    there (a ∷ b ∷ []) ok = absurd (false≢true ok)
    there (a ∷ b ∷ c ∷ []) ok = absurd (false≢true ok)
    there (a ∷ b ∷ c ∷ d ∷ []) ok =
        (b, c, ap₂ (λ (x y : ℕ). x ∷ b ∷ c ∷ y ∷ []) (eqb-true a 0 (and_left (eqb a 0) (eqb d 0xFF) ok)) (eqb-true d 0xFF (and_right (eqb a 0) (eqb d 0xFF) ok)))
    there (a ∷ b ∷ c ∷ d ∷ e ∷ more) ok =
        let four : length (a ∷ b ∷ c ∷ d ∷ e ∷ more) ≡ 4 = product_wide 0x0100 (a ∷ b ∷ c ∷ d ∷ e ∷ more) ok refl in
        absurd (omega arith)

pub version_is_read : VersionIsRead
unfolding is_understood
version_is_read value = (eqb-true (length value) 2, eq-eqb (length value) 2)
