-- The fraction as the program puts it, `last_digits`, is the one of specs/Numbers.antt: of as many decimals, of which more than 3 count as 3.
-- Assumes nothing.
use mathlib.Core.Path.{◌≡◌, refl, sym, ap, ◌∙◌}
use mathlib.Core.List.{◌++◌, append-nil}
use mathlib.Core.Bool.{false}
use Prim.Native.Nat.{ℕ, zero, suc, ◌+◌, ◌-◌, ◌/◌, ◌%◌}
use native.Mathlib.Omega.{arith}
use borrow.Author.Tests.{ne_eqb}
use lib.Dec.{eqb}
use Rattle.std.specs.Prelude.{min}
use Rattle.lines.specs.Numbers.{last_digit, decimal, steps, fraction, pointed}
use Rattle.lines.specs.Lines.{adding}
use Rattle.lines.specs.AsPut.{last_digits}
use Rattle.lines.specs.declared.Line.{Line}
use Rattle.lines.proofs.Adding.{further}

pub digit_more : (decimals n : ℕ) → ((decimals ≡ 0) → ⊥) → last_digits decimals n ≡ last_digits (decimals - 1) (n / 10) ++ last_digit n
digit_more zero n some = absurd (some refl)
digit_more (suc more) n some = let less : suc more - 1 ≡ more = omega arith in rw less

three : (n : ℕ) → fraction 3 n ≡ last_digits 3 n
three n = let hundreds : n / 10 / 10 ≡ n / 100 = omega arith in rw hundreds

pub fraction_is : (decimals n : ℕ) → ((decimals ≡ 0) → ⊥) → fraction decimals n ≡ last_digits (min decimals 3) n
fraction_is zero n some = absurd (some refl)
fraction_is (suc zero) n some = refl
fraction_is (suc (suc zero)) n some = refl
fraction_is (suc (suc (suc more))) n some =
    let decimals = suc (suc (suc more)) in
    let not_none : eqb decimals 0 ≡ false = ne_eqb decimals 0 (λ e. absurd (omega arith)) in
    let not_one : eqb decimals 1 ≡ false = ne_eqb decimals 1 (λ e. absurd (omega arith)) in
    let not_two : eqb decimals 2 ≡ false = ne_eqb decimals 2 (λ e. absurd (omega arith)) in
    let most : min decimals 3 ≡ 3 = omega arith in
    rw (not_none, not_one, not_two, most) (three n)

pub pointed_none : (n decimals : ℕ) → decimals ≡ 0 → decimal (n / steps decimals) ≡ pointed n decimals
unfolding pointed
pointed_none n zero e = sym (append-nil (decimal (n / 1)))
pointed_none n (suc more) e = absurd (omega arith)

pub pointed_some : (n decimals : ℕ) → ((decimals ≡ 0) → ⊥) → decimal (n / steps decimals) ++ last_digits (min decimals 3) n ≡ pointed n decimals
unfolding pointed
pointed_some n decimals some = rw (fraction_is decimals n some)

-- what is put after the whole number comes to the number with its point
pub pointed_put : (l : Line) {whole put : Line} (n : ℕ) {decimals most : ℕ} → ((decimals ≡ 0) → ⊥) → whole ≡ adding l (decimal (n / steps decimals))
    → most ≡ min decimals 3 → put ≡ adding whole (last_digits most n) → put ≡ adding l (pointed n decimals)
pointed_put l {whole} n {decimals} some is fewer e =
    further l (decimal (n / steps decimals)) (last_digits (min decimals 3) n) is (e ∙ ap (λ (m : ℕ). adding whole (last_digits m n)) fewer)
    ∙ ap (adding l) (pointed_some n decimals some)
