-- Decimal digits and the number that they stand for. Assumes nothing.
use mathlib.Core.Path.{◌≡◌, refl, sym, ap, ap₂, ◌∙◌}
use mathlib.Core.Logic.{◌≢◌}
use mathlib.Core.Bool.{Bool, true, false, not, ◌&&◌, ◌||◌, false≢true}
use mathlib.Core.List.{List, [], ◌∷◌, ◌++◌, append_assoc, append-nil}
use Prim.Native.Nat.{ℕ, suc, ◌+◌, ◌*◌, ◌-◌, ◌/◌, ◌%◌, ◌^◌, ◌≤◌, ◌<◌}
use native.Mathlib.Numerals.{unary_clauses, add-one}
use native.Mathlib.Omega.{arith}
use native.Mathlib.Nat.{zero-add, add-zero, pow-le-pow_right}
use borrow.Author.Tests.{eq-eqb, ne_eqb, eqb-false, leb-true, le-leb}
use lib.ListN.{length, get_or, drop}
use lib.Dec.{leb, eqb}
use Rattle.laws.specs.Lists.{every}
use Rattle.laws.proofs.Bools.{and_left, and_right, both}
use Rattle.laws.proofs.Lists.{drop_turn, every_at}
use Rattle.lines.specs.Numbers.{decimal}
use Rattle.lines.specs.Laws.{is_digit, read_on, AreDigits}
use Rattle.lines.proofs.Digits.{one_digit, tenth_and_last, digits_under}
use Rattle.lines.proofs.Theorems.{decimal_is_read}
use Rattle.rows.specs.Decimals.{is_number, value_of}
use Rattle.rows.specs.Laws.{DecimalIsRead, ReadIsDecimal}

-- a number's digits, by the parts of the test
pub number_few : (digits : List ℕ) → is_number digits ≡ true → length digits ≤ 5
unfolding is_number
number_few digits e =
    leb-true (length digits) 5 (and_right (leb 1 (length digits)) _ (and_left (leb 1 (length digits) && leb (length digits) 5) _ e))

pub number_digits : (digits : List ℕ) → is_number digits ≡ true → every is_digit digits ≡ true
unfolding is_number
number_digits digits e = and_left (every is_digit digits) _ (and_right (leb 1 (length digits) && leb (length digits) 5) _ e)

no_digits : is_number [] ≡ true → ⊥
unfolding is_number
no_digits e = false≢true e

leads : (c d : ℕ) (cs : List ℕ) → is_number (c ∷ d ∷ cs) ≡ true → c ≢ 48
unfolding is_number
leads c d cs e is =
    let apart : eqb (length (c ∷ d ∷ cs)) 1 ≡ false = ne_eqb _ 1 (λ e. let z : length (c ∷ d ∷ cs) ≡ 1 = e in absurd (omega arith)) in
    let rest : (eqb (length (c ∷ d ∷ cs)) 1 || not (eqb c 48)) ≡ true =
    and_right (every is_digit (c ∷ d ∷ cs)) _ (and_right (leb 1 (length (c ∷ d ∷ cs)) && leb (length (c ∷ d ∷ cs)) 5) _ e) in
    let lead : not (eqb c 48) ≡ true = rw apart at rest in
    false≢true (rw (eq-eqb c 48 is) at lead)

-- written and read back
pub decimal_read : DecimalIsRead
unfolding is_number
decimal_read n h =
    let are : AreDigits n (decimal n) = decimal_is_read n (omega arith) in
    let few : length (decimal n) ≤ 5 = digits_under 19 n 4 h in (
      both _ _ (both _ _ (le-leb 1 _ are.not_empty) (le-leb _ 5 few)) (both _ _ are.digits_only (by (eqb (length (decimal n)) 1) refl are)),
      are.reads_back,
    )
  where
    by : (b : Bool) → eqb (length (decimal n)) 1 ≡ b → AreDigits n (decimal n) → (b || not (eqb (get_or (decimal n) 0 0) 48)) ≡ true
    by true e are = refl
    by false e are =
        let apart : length (decimal n) ≢ 1 = eqb-false _ 1 e in
        let some : 0 < length (decimal n) = are.not_empty in
        let many : 1 < length (decimal n) = omega (arith, apart) in
        rw (ne_eqb (get_or (decimal n) 0 0) 48 (are.none_leading many))

-- A digit, and a number with one digit more.
pub digit_low : (c : ℕ) → is_digit c ≡ true → (48 ≤ c) × (c - 48 < 10)
digit_low c e =
    let low : 48 ≤ c = leb-true 48 c (and_left (leb 48 c) _ e) in
    let high : c ≤ 57 = leb-true c 57 (and_right (leb 48 c) _ e) in
    (low, omega arith)

pub power_step : (n d i : ℕ) → n < 10 ^ i → d < 10 → n * 10 + d < 10 ^ (i + 1)
power_step n d i h less = rw (add-one i) (simp unary_clauses (omega arith))

pub under_power : (n i k : ℕ) → i ≤ k → n < 10 ^ i → n < 10 ^ k
under_power n i k few less = let most : 10 ^ i ≤ 10 ^ k = pow-le-pow_right (omega arith) few in omega arith

one_more : (v c : ℕ) → 1 ≤ v → v < 10000 → is_digit c ≡ true → decimal (v * 10 + (c - 48)) ≡ decimal v ++ c ∷ []
one_more v c some few e =
    let low : 48 ≤ c = (digit_low c e).0 in
    let less : c - 48 < 10 = (digit_low c e).1 in
    let tens : (v * 10 + (c - 48)) / 10 ≡ v = omega arith in
    let last : 48 + (v * 10 + (c - 48)) % 10 ≡ c = omega arith in
    tenth_and_last (v * 10 + (c - 48)) (omega arith) (omega arith) ∙ ap₂ (λ (m d : ℕ). decimal m ++ d ∷ []) tens last

grown : (cs : List ℕ) (v i : ℕ) → every is_digit cs ≡ true → 1 ≤ v → v < 10 ^ i → i + length cs ≤ 5 → decimal (read_on v cs) ≡ decimal v ++ cs
grown [] v i e some less few = sym (append-nil (decimal v))
grown (c ∷ cs) v i e some less few =
    let here : is_digit c ≡ true = and_left (is_digit c) (every is_digit cs) e in
    let low : c - 48 < 10 = (digit_low c here).1 in
    let count : i + 1 + length cs ≤ 5 = omega arith in
    grown cs (v * 10 + (c - 48)) (i + 1) (and_right (is_digit c) _ e) (omega arith) (power_step v (c - 48) i less low) count
    ∙ ap (λ (l : List ℕ). l ++ cs) (one_more v c some (under_power v i 4 (omega arith) less) here) ∙ append_assoc (decimal v) (c ∷ []) cs

lone : (c : ℕ) → is_digit c ≡ true → decimal (c - 48) ≡ c ∷ []
lone c e =
    let low : 48 ≤ c = (digit_low c e).0 in
    let less : c - 48 < 10 = (digit_low c e).1 in
    one_digit 19 (c - 48) less ∙ ap (λ (d : ℕ). d ∷ []) (omega arith)

pub read_decimal : ReadIsDecimal
read_decimal [] ok = absurd (no_digits ok)
read_decimal (c ∷ []) ok = ap decimal (zero-add (c - 48)) ∙ lone c (and_left (is_digit c) _ (number_digits (c ∷ []) ok))
read_decimal (c ∷ d ∷ cs) ok =
    let digits : every is_digit (c ∷ d ∷ cs) ≡ true = number_digits (c ∷ d ∷ cs) ok in
    let here : is_digit c ≡ true = and_left (is_digit c) (every is_digit (d ∷ cs)) digits in
    let low : 48 ≤ c = (digit_low c here).0 in
    let less : c - 48 < 10 = (digit_low c here).1 in
    let few : length (c ∷ d ∷ cs) ≤ 5 = number_few (c ∷ d ∷ cs) ok in
    let some : 1 ≤ c - 48 = omega (arith, leads c d cs ok) in
    ap (λ (v : ℕ). decimal (read_on v (d ∷ cs))) (zero-add (c - 48)) ∙ grown (d ∷ cs) (c - 48) 1 (and_right (is_digit c) _ digits) some less (omega arith) ∙ ap (λ (l : List ℕ). l ++ d ∷ cs) (lone c here)

-- and the number is below a hundred thousand
read_below : (cs : List ℕ) (v i : ℕ) → every is_digit cs ≡ true → v < 10 ^ i → read_on v cs < 10 ^ (i + length cs)
read_below [] v i e less = rw (add-zero i) less
read_below (c ∷ cs) v i e less =
    let here : is_digit c ≡ true = and_left (is_digit c) (every is_digit cs) e in
    let next : i + suc (length cs) ≡ i + 1 + length cs = omega arith in
    rw next (read_below cs (v * 10 + (c - 48)) (i + 1) (and_right (is_digit c) _ e) (power_step v (c - 48) i less (digit_low c here).1))

pub number_small : (digits : List ℕ) → is_number digits ≡ true → value_of digits < 100000
number_small digits ok =
    let few : length digits ≤ 5 = number_few digits ok in
    under_power (value_of digits) (0 + length digits) 5 (omega arith) (read_below digits 0 0 (number_digits digits ok) (leb-true 1 1 refl))

-- The number read so far.
pub record Parsing (digits : List ℕ) (n i : ℕ) : Type 0 where
  pub within : i ≤ length digits
  pub low : n < 10 ^ i
  pub same : read_on n (drop i digits) ≡ value_of digits

module _ {digits : List ℕ} (ok : is_number digits ≡ true) {n i : ℕ} (h : i < length digits) (r : Parsing digits n i) where
  pub here : (48 ≤ get_or digits i 0) × (get_or digits i 0 - 48 < 10)
  here = digit_low (get_or digits i 0) (every_at is_digit digits (number_digits digits ok) i h)

  pub parsing_turn : Parsing digits (n * 10 + (get_or digits i 0 - 48)) (i + 1)
  parsing_turn =
      record {
        within = omega arith;
        low = power_step n (get_or digits i 0 - 48) i r.low here.1;
        same = sym (ap (read_on n) (drop_turn digits i h)) ∙ r.same;
      }

  pub parsing_low : n < 10000
  parsing_low =
      let few : length digits ≤ 5 = number_few digits ok in
      under_power n i 4 (omega arith) r.low
