-- One division of whole numbers is one rounding of their exact quotient. Assumes nothing.
use mathlib.Core.Path.{◌≡◌, refl, sym, ap, ◌∙◌}
use mathlib.Core.Bool.{Bool, true, false}
use Prim.Native.Nat.{ℕ, zero, suc, ◌*◌, ◌^◌, ◌≤◌, ◌<◌}
use native.Mathlib.Nat.{mul-one, mul_comm, mul_assoc, mul_right_comm, mul-pos}
use native.Mathlib.Omega.{arith}
use borrow.Author.Tests.{ne_eqb}
use lib.IntN.{ℤ, pos, negsuc, nat_abs}
use lib.Dec.{eqb}
use lib.Ieee.{Float, nan, inf, fin, Format, binary64, up, down, unlike, round, div, of_int}
use lib.Ieee.Fits.{down_pos}
use lib.Ieee.Exact.{HasValue}
use lib.Ieee.Scale.{round_same}
use lib.Ieee.Back.{round_whole}
use Rattle.reply.specs.Units.{over}
use Rattle.reply.specs.Laws.{quotient}

-- m / e is a, and n / g is b: (m * g) / (n * e) is a / b
crossed : (m e n g a b : ℕ) → m * 1 ≡ a * e → n * 1 ≡ b * g → m * g * b ≡ a * (n * e)
crossed m e n g a b p q =
    let m-is : m ≡ a * e = sym (mul-one m) ∙ p in
    let n-is : n ≡ b * g = sym (mul-one n) ∙ q in
    ap (λ (z : ℕ). z * g * b) m-is ∙ mul_assoc (a * e) g b ∙ ap (λ (z : ℕ). a * e * z) (mul_comm g b ∙ sym n-is) ∙ mul_right_comm a e n ∙ mul_assoc a n e

some_size : (n u : ℕ) → 0 < n * u → 0 < n
some_size zero u h = absurd (omega arith)
some_size (suc n) u h = omega arith

plain_sign : (s : Bool) → unlike s false ≡ s
plain_sign true = refl
plain_sign false = refl

-- a quotient of whole numbers is rounded from the fraction itself
div_at : (f : Format) (x y : Float) (s : Bool) (a b : ℕ) → 0 < b → HasValue x s a 1 → HasValue y false b 1 → div f x y ≡ round f s a b
unfolding div
div_at f nan y s a b some h k = absurd h
div_at f (inf t) y s a b some h k = absurd h
div_at f (fin t m e) nan s a b some h k = absurd k
div_at f (fin t m e) (inf u) s a b some h k = absurd k
div_at f (fin t m e) (fin u n g) s a b some h k =
    let size : n * up g ≡ b * down g = sym (mul-one (n * up g)) ∙ k.1 in
    let full : 0 < n * up g = rw size (mul-pos some (down_pos g)) in
    let other : eqb n 0 ≡ false = ne_eqb n 0 (λ none. let z : n ≡ 0 = none in let more : 0 < n = some_size n (up g) full in absurd (omega arith)) in
    let sign : unlike t u ≡ s = ap (unlike t) k.0 ∙ plain_sign t ∙ h.0 in
    rw (other, sign) (round_same f s (m * up e * down g) (n * up g * down e) a b (mul-pos full (down_pos e)) some (crossed (m * up e) (down e) (n * up g) (down g) a b h.1 k.1))

pub over_rounded : (x : ℤ) (steps : ℕ) → nat_abs x ≤ 2 ^ 53 → 0 < steps → steps ≤ 2 ^ 53 → over x steps ≡ quotient x steps
unfolding over of_int
over_rounded (pos n) steps few some most =
    div_at binary64 (round binary64 false n 1) (round binary64 false steps 1) false n steps some (round_whole binary64 false n few) (round_whole binary64 false steps most)
over_rounded (negsuc n) steps few some most =
    div_at binary64 (round binary64 true (suc n) 1) (round binary64 false steps 1) true (suc n) steps some (round_whole binary64 true (suc n) few) (round_whole binary64 false steps most)
