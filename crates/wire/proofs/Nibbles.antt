-- A digit and its nibble are each other's: every nibble's digit is read as that nibble, and a character that is read as a nibble is
-- that nibble's digit. Assumes nothing.
use mathlib.Core.Path.{◌≡◌, refl, sym, ap, ◌∙◌}
use mathlib.Core.Bool.{Bool, true, false, false≢true, cond, not, ◌&&◌, ◌||◌}
use Prim.Native.Nat.{ℕ, ◌+◌, ◌*◌, ◌/◌, ◌%◌, ◌≤◌, ◌<◌, ◌-◌}
use native.Mathlib.Omega.{arith}
use borrow.Author.Tests.{lt-ltb, le-ltb, lt-leb, le-leb, leb-true, ltb-true, ltb-false, ne_eqb}
use lib.Dec.{ltb, leb, eqb}
use mathlib.Core.List.{List}
use lib.ListN.{length, get_or}
use Rattle.laws.specs.Lists.{every}
use Rattle.laws.proofs.Lists.{every_at}
use Rattle.laws.proofs.Bools.{and_left, and_right}
use Rattle.wire.specs.Digits.{digit, nibble, is_digit}
use Rattle.paper.specs.Numbers.{colon, newline}

-- the two rows of digits, each way
digit_low : (n : ℕ) → n < 10 → digit n ≡ 48 + n
unfolding digit
digit_low n h = ap (λ (t : Bool). cond t (48 + n) (55 + n)) (lt-ltb n 10 h)

digit_high : (n : ℕ) → 10 ≤ n → digit n ≡ 55 + n
unfolding digit
digit_high n h = ap (λ (t : Bool). cond t (48 + n) (55 + n)) (le-ltb n 10 h)

nibble_low : (c : ℕ) → 48 ≤ c → c ≤ 57 → nibble c ≡ c - 48
unfolding nibble
nibble_low c h k = simp (le-leb 48 c h, le-leb c 57 k)

nibble_high : (c : ℕ) → 65 ≤ c → c ≤ 70 → nibble c ≡ c - 55
unfolding nibble
nibble_high c h k = simp (le-leb 48 c (omega arith), lt-leb c 57 (omega arith), le-leb 65 c h, le-leb c 70 k)

nibble_none : (c : ℕ) → (leb 48 c && leb c 57) ≡ false → (leb 65 c && leb c 70) ≡ false → nibble c ≡ 16
unfolding nibble
nibble_none c p q = simp (p, q)

-- a character is a digit by where it is
pub digit_test : (c : ℕ) → ((leb 48 c && leb c 57) || (leb 65 c && leb c 70)) ≡ is_digit c
digit_test c = by (leb 48 c && leb c 57) (leb 65 c && leb c 70) refl refl
  where
    by : (s t : Bool) → (leb 48 c && leb c 57) ≡ s → (leb 65 c && leb c 70) ≡ t → (s || t) ≡ is_digit c
    by true t p q =
        let low : 48 ≤ c = leb-true 48 c (and_left _ (leb c 57) p) in
        let high : c ≤ 57 = leb-true c 57 (and_right (leb 48 c) _ p) in
        rw (nibble_low c low high) (sym (lt-ltb (c - 48) 16 (omega arith)))
    by false true p q =
        let low : 65 ≤ c = leb-true 65 c (and_left _ (leb c 70) q) in
        let high : c ≤ 70 = leb-true c 70 (and_right (leb 65 c) _ q) in
        rw (nibble_high c low high) (sym (lt-ltb (c - 55) 16 (omega arith)))
    by false false p q = rw (nibble_none c p q)

-- any other has 16 for its nibble
pub none_is_16 : (c : ℕ) → is_digit c ≡ false → nibble c ≡ 16
none_is_16 c none = by (leb 48 c && leb c 57) (leb 65 c && leb c 70) refl refl
  where
    by : (s t : Bool) → (leb 48 c && leb c 57) ≡ s → (leb 65 c && leb c 70) ≡ t → nibble c ≡ 16
    by true t p q = absurd (false≢true (sym none ∙ sym (digit_test c) ∙ rw p refl))
    by false true p q = absurd (false≢true (sym none ∙ sym (digit_test c) ∙ rw (p, q) refl))
    by false false p q = nibble_none c p q

-- and its nibble is its low four bits, with nine more for a letter
pub nibble_bits : (c : ℕ) → nibble c < 16 → c % 16 + 9 * (c / 64) ≡ nibble c
nibble_bits c h = by (leb 48 c && leb c 57) (leb 65 c && leb c 70) refl refl
  where
    by : (s t : Bool) → (leb 48 c && leb c 57) ≡ s → (leb 65 c && leb c 70) ≡ t → c % 16 + 9 * (c / 64) ≡ nibble c
    by true t p q =
        let low : 48 ≤ c = leb-true 48 c (and_left _ (leb c 57) p) in
        let high : c ≤ 57 = leb-true c 57 (and_right (leb 48 c) _ p) in
        rw (nibble_low c low high) (omega arith)
    by false true p q =
        let low : 65 ≤ c = leb-true 65 c (and_left _ (leb c 70) q) in
        let high : c ≤ 70 = leb-true c 70 (and_right (leb 65 c) _ q) in
        rw (nibble_high c low high) (omega arith)
    by false false p q = let none : nibble c ≡ 16 = nibble_none c p q in absurd (omega arith)

-- a nibble's digit is read as that nibble
pub nibble_digit : (n : ℕ) → n < 16 → nibble (digit n) ≡ n
nibble_digit n h = by (ltb n 10) refl
  where
    by : (t : Bool) → ltb n 10 ≡ t → nibble (digit n) ≡ n
    by true e =
        let low : n < 10 = ltb-true n 10 e in
        rw (digit_low n low) (nibble_low (48 + n) (omega arith) (omega arith) ∙ omega arith)
    by false e =
        let high : 10 ≤ n = ltb-false n 10 e in
        rw (digit_high n high) (nibble_high (55 + n) (omega arith) (omega arith) ∙ omega arith)

-- a character that is a digit is the digit of its nibble
pub digit_nibble : (c : ℕ) → nibble c < 16 → digit (nibble c) ≡ c
digit_nibble c h = by (leb 48 c && leb c 57) (leb 65 c && leb c 70) refl refl
  where
    by : (s t : Bool) → (leb 48 c && leb c 57) ≡ s → (leb 65 c && leb c 70) ≡ t → digit (nibble c) ≡ c
    by true t p q =
        let low : 48 ≤ c = leb-true 48 c (and_left _ (leb c 57) p) in
        let high : c ≤ 57 = leb-true c 57 (and_right (leb 48 c) _ p) in
        rw (nibble_low c low high) (digit_low (c - 48) (omega arith) ∙ omega arith)
    by false true p q =
        let low : 65 ≤ c = leb-true 65 c (and_left _ (leb c 70) q) in
        let high : c ≤ 70 = leb-true c 70 (and_right (leb 65 c) _ q) in
        rw (nibble_high c low high) (digit_high (c - 55) (omega arith) ∙ omega arith)
    by false false p q = let none : nibble c ≡ 16 = nibble_none c p q in absurd (omega arith)

pub digit_is_digit : (n : ℕ) → n < 16 → is_digit (digit n) ≡ true
digit_is_digit n h = rw (nibble_digit n h) (lt-ltb n 16 h)

-- a digit is neither a newline nor a colon, so it stays in its frame
pub digit_stays : (n : ℕ) → n < 16 → not (eqb (digit n) newline || eqb (digit n) colon) ≡ true
digit_stays n h = by (ltb n 10) refl
  where
    by : (t : Bool) → ltb n 10 ≡ t → not (eqb (digit n) newline || eqb (digit n) colon) ≡ true
    by true e =
        let low : n < 10 = ltb-true n 10 e in
        rw (digit_low n low) (simp (ne_eqb (48 + n) 10 (omega arith), ne_eqb (48 + n) 58 (omega arith)))
    by false e =
        let high : 10 ≤ n = ltb-false n 10 e in
        rw (digit_high n high) (simp (ne_eqb (55 + n) 10 (omega arith), ne_eqb (55 + n) 58 (omega arith)))

-- among digits, each character has its nibble
pub nibble_at_lem : (chars : List ℕ) → every is_digit chars ≡ true → (i : ℕ) → i < length chars → nibble (get_or chars i 0) < 16
nibble_at_lem chars e i h = ltb-true _ 16 (every_at is_digit chars e i h)
