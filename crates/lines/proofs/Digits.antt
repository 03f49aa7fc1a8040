-- Laws of the digits of a number. Assumes nothing.
use mathlib.Core.Path.{◌≡◌, refl, sym, ap, ◌∙◌}
use mathlib.Core.Bool.{Bool, true, false, cond}
use mathlib.Core.List.{List, [], ◌∷◌, ◌++◌}
use Prim.Native.Nat.{ℕ, zero, suc, ◌+◌, ◌*◌, ◌-◌, ◌/◌, ◌%◌, ◌<◌, ◌≤◌}
use native.Mathlib.Omega.{arith}
use borrow.Author.Tests.{lt-ltb, le-ltb, le-leb, leb-true, ltb-true, ltb-false, ne_eqb}
use lib.ListN.{length, get_or, length-append}
use lib.Dec.{eqb, ltb, leb}
use Rattle.laws.specs.Lists.{every, before}
use Rattle.laws.proofs.Bools.{pick, and_left, and_right, both}
use Rattle.laws.proofs.Lists.{every_append}
use Rattle.lines.specs.Numbers.{last_digit, decimal_from, decimal, fraction, pointed}
use Rattle.lines.specs.Laws.{read_on, is_digit, AreDigits, DecimalIsRead, point, without_point, after_point, ArePointed, PointedIsRead}

pub one_digit : (more n : ℕ) → n < 10 → decimal_from more n ≡ last_digit n
unfolding decimal_from
one_digit zero n h = refl
one_digit (suc more) n h = rw (lt-ltb n 10 h)

pub more_digits : (more n : ℕ) → ((more ≡ 0) → ⊥) → 10 ≤ n → decimal_from more n ≡ decimal_from (more - 1) (n / 10) ++ last_digit n
unfolding decimal_from
more_digits zero n some h = absurd (some refl)
more_digits (suc more) n some h =
    let less : suc more - 1 ≡ more = omega arith in
    rw (le-ltb n 10 h, less)

-- Read back.

read_append : (n : ℕ) (xs ys : List ℕ) → read_on n (xs ++ ys) ≡ read_on (read_on n xs) ys
read_append n [] ys = refl
read_append n (x ∷ xs) ys = read_append (n * 10 + (x - 48)) xs ys

digit_is : (n : ℕ) → is_digit (48 + n % 10) ≡ true
digit_is n = both _ _ (le-leb 48 (48 + n % 10) (omega arith)) (le-leb (48 + n % 10) 57 (omega arith))

last_is : (n : ℕ) → every is_digit (last_digit n) ≡ true
last_is n = both _ _ (digit_is n) refl

last_read : (n m : ℕ) → read_on m (last_digit n) ≡ m * 10 + n % 10
last_read n m = omega arith

digits_only : (more n : ℕ) → every is_digit (decimal_from more n) ≡ true
unfolding decimal_from
digits_only zero n = last_is n
digits_only (suc more) n =
    pick (λ (l : List ℕ). every is_digit l ≡ true) (ltb n 10) (last_is n)
    (every_append is_digit (decimal_from more (n / 10)) (last_digit n) ∙ both _ _ (digits_only more (n / 10)) (last_is n))

digits_some : (more n : ℕ) → 0 < length (decimal_from more n)
unfolding decimal_from
digits_some zero n = omega arith
digits_some (suc more) n =
    pick (λ (l : List ℕ). 0 < length l) (ltb n 10) (omega arith) (rw (length-append (decimal_from more (n / 10)) (last_digit n)) (omega arith))

-- ten times as much for each digit before the last
abbrev pub room : ℕ → ℕ
room zero = 10
room (suc more) = 10 * room more

-- a number has no more digits than can be made, and no more than there is room for
pub digits_few : (more n : ℕ) → length (decimal_from more n) ≤ suc more
unfolding decimal_from
digits_few zero n = omega arith
digits_few (suc more) n =
    pick (λ (l : List ℕ). length l ≤ suc (suc more)) (ltb n 10) (omega arith)
    (rw (length-append (decimal_from more (n / 10)) (last_digit n)) (omega (arith, digits_few more (n / 10))))

pub digits_under : (more n k : ℕ) → n < room k → length (decimal_from more n) ≤ suc k
unfolding decimal_from
digits_under zero n k h = omega arith
digits_under (suc more) n zero h = ap_le (one_digit (suc more) n h)
  where
    ap_le : decimal_from (suc more) n ≡ last_digit n → length (decimal_from (suc more) n) ≤ 1
    ap_le e = rw e (omega arith)
digits_under (suc more) n (suc k) h =
    pick (λ (l : List ℕ). length l ≤ suc (suc k)) (ltb n 10) (omega arith)
    (rw (length-append (decimal_from more (n / 10)) (last_digit n)) (omega (arith, digits_under more (n / 10) k (omega arith))))

digits_read : (more n : ℕ) → n < room more → read_on 0 (decimal_from more n) ≡ n
unfolding decimal_from
digits_read zero n h = last_read n 0 ∙ omega arith
digits_read (suc more) n h = by (ltb n 10) refl (digits_read more (n / 10) (omega arith))
  where
    by : (t : Bool) → ltb n 10 ≡ t → read_on 0 (decimal_from more (n / 10)) ≡ n / 10 → read_on 0 (cond t (last_digit n) (decimal_from more (n / 10) ++ last_digit n)) ≡ n
    by true e less = let few : n < 10 = ltb-true n 10 e in last_read n 0 ∙ omega arith
    by false e less =
        read_append 0 (decimal_from more (n / 10)) (last_digit n) ∙ ap (λ (k : ℕ). read_on k (last_digit n)) less ∙ last_read n (n / 10) ∙ omega arith

first_append : (xs ys : List ℕ) → 0 < length xs → get_or (xs ++ ys) 0 0 ≡ get_or xs 0 0
first_append [] ys h = absurd (omega arith)
first_append (x ∷ xs) ys h = refl

first_zero : (more n : ℕ) → n < room more → get_or (decimal_from more n) 0 0 ≡ 48 → n ≡ 0
unfolding decimal_from
first_zero zero n h e = omega arith
first_zero (suc more) n h e = by (ltb n 10) refl (first_zero more (n / 10) (omega arith)) e
  where
    by : (t : Bool) → ltb n 10 ≡ t → (get_or (decimal_from more (n / 10)) 0 0 ≡ 48 → n / 10 ≡ 0)
        → get_or (cond t (last_digit n) (decimal_from more (n / 10) ++ last_digit n)) 0 0 ≡ 48 → n ≡ 0
    by true few less f = let small : n < 10 = ltb-true n 10 few in omega arith
    by false few less f =
        let many : 10 ≤ n = ltb-false n 10 few in
        let none : n / 10 ≡ 0 = less (sym (first_append (decimal_from more (n / 10)) (last_digit n) (digits_some more (n / 10))) ∙ f) in
        absurd (omega arith)

-- where there is room for its digits, one more that can be made changes nothing
room_enough : (more n : ℕ) → n < room more → decimal_from (suc more) n ≡ decimal_from more n
unfolding decimal_from
room_enough zero n h = one_digit 1 n h
room_enough (suc more) n h = rw (room_enough more (n / 10) (omega arith))

pub tenth_and_last : (n : ℕ) → n < 100000000000000000000 → 10 ≤ n → decimal n ≡ decimal (n / 10) ++ last_digit n
tenth_and_last n few h = more_digits 19 n (λ z. absurd (omega arith)) h ∙ ap (λ (l : List ℕ). l ++ last_digit n) (sym (room_enough 18 (n / 10) (omega arith)))

pub decimal_read : DecimalIsRead
decimal_read n h =
    record {
      digits_only = digits_only 19 n;
      not_empty = digits_some 19 n;
      reads_back = digits_read 19 n h;
      none_leading = λ some e.
          let none : n ≡ 0 = first_zero 19 n h e in
          let one : length (decimal n) ≡ 1 = ap (λ (l : List ℕ). length l) (one_digit 19 n (omega arith)) in
          absurd (omega arith);
    }

-- A point after digits.

not_point : (c : ℕ) → is_digit c ≡ true → eqb point c ≡ false
not_point c h = let over : 48 ≤ c = leb-true 48 c (and_left (leb 48 c) (leb c 57) h) in ne_eqb point c (λ e. absurd (omega arith))

without_digits : (xs ys : List ℕ) → every is_digit xs ≡ true → without_point (xs ++ ys) ≡ xs ++ without_point ys
without_digits [] ys h = refl
without_digits (x ∷ xs) ys h =
    rw (not_point x (and_left (is_digit x) (every is_digit xs) h)) (ap (λ (l : List ℕ). x ∷ l) (without_digits xs ys (and_right (is_digit x) (every is_digit xs) h)))

after_digits : (xs ys : List ℕ) → every is_digit xs ≡ true → after_point (xs ++ ys) ≡ after_point ys
after_digits [] ys h = refl
after_digits (x ∷ xs) ys h =
    rw (not_point x (and_left (is_digit x) (every is_digit xs) h)) (after_digits xs ys (and_right (is_digit x) (every is_digit xs) h))

before_digits : (xs ys : List ℕ) → every is_digit xs ≡ true → before (eqb point) (xs ++ ys) ≡ length xs + before (eqb point) ys
before_digits [] ys h = omega arith
before_digits (x ∷ xs) ys h =
    rw (not_point x (and_left (is_digit x) (every is_digit xs) h)) (omega (arith, before_digits xs ys (and_right (is_digit x) (every is_digit xs) h)))

-- the digits of a number before the point, and what is after it
module _ (q n decimals : ℕ) (last : List ℕ) (few : q < 100000000000000000000) where
  pointed_parts : every is_digit (without_point last) ≡ true → read_on q (without_point last) ≡ n → before (eqb point) last ≡ 0
      → length (after_point last) ≡ decimals → (decimals ≡ 0 → without_point last ≡ last) → ArePointed n decimals (decimal q ++ last)
  pointed_parts only reads begins long none =
      let digits : AreDigits q (decimal q) = decimal_read q few in
      let out : without_point (decimal q ++ last) ≡ decimal q ++ without_point last = without_digits (decimal q) last digits.digits_only in
      record {
        digits_only = rw out (every_append is_digit (decimal q) (without_point last) ∙ both _ _ digits.digits_only only);
        reads_back = rw out (read_append 0 (decimal q) (without_point last) ∙ ap (λ (k : ℕ). read_on k (without_point last)) digits.reads_back ∙ reads);
        digit_first = omega (arith, before_digits (decimal q) last digits.digits_only, digits.not_empty);
        none_leading = λ some e.
            let many : 1 < length (decimal q) = omega (arith, before_digits (decimal q) last digits.digits_only) in
            digits.none_leading many (sym (first_append (decimal q) last (digits_some 19 q)) ∙ e);
        after_point_lem = ap (λ (l : List ℕ). length l) (after_digits (decimal q) last digits.digits_only) ∙ long;
        no_point = λ z. ap (λ (l : List ℕ). length l) (out ∙ ap (λ (l : List ℕ). decimal q ++ l) (none z));
      }

pub pointed_read : PointedIsRead
unfolding pointed
pointed_read n zero h k = pointed_parts (n / 1) n 0 [] (omega arith) refl (omega arith) refl refl (λ z. refl)
pointed_read n (suc zero) h k = pointed_parts (n / 10) n 1 (fraction 1 n) (omega arith) (last_is n) (omega arith) refl refl (λ z. absurd (omega arith))
pointed_read n (suc (suc zero)) h k =
    pointed_parts (n / 100) n 2 (fraction 2 n) (omega arith) (both _ _ (digit_is (n / 10)) (last_is n)) (omega arith) refl refl (λ z. absurd (omega arith))
pointed_read n (suc (suc (suc zero))) h k =
    let hundreds : n / 1000 * 10 + n / 100 % 10 ≡ n / 100 = omega arith in
    let tens : n / 100 * 10 + n / 10 % 10 ≡ n / 10 = omega arith in
    pointed_parts (n / 1000) n 3 (fraction 3 n) (omega arith) (both _ _ (digit_is (n / 100)) (both _ _ (digit_is (n / 10)) (last_is n))) (omega arith) refl refl (λ z. absurd (omega arith))
pointed_read n (suc (suc (suc (suc decimals)))) h k = absurd (omega arith)
