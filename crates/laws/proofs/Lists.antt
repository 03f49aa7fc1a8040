-- Laws of the words of specs/Lists, above all what one turn of a loop over a list shows. Assumes nothing.
use mathlib.Core.Path.{◌≡◌, refl, sym, ap, ap₂, ◌∙◌}
use mathlib.Core.Bool.{Bool, true, false, not, cond, ◌&&◌, and_assoc, and-true, false≢true}
use mathlib.Core.Logic.{⊎_elim}
use native.Mathlib.Nat.{eq-or-lt_of_le, le_of_suc-le-suc, not-suc-le-zero, add-zero, add-suc, suc-add, zero-min, min-zero, suc-min-suc}
use mathlib.Core.List.{List, [], ◌∷◌, ◌++◌}
use Prim.Native.Nat.{ℕ, zero, suc, ◌+◌, ◌%◌, ◌≤◌, ◌<◌, ◌-◌, min}
use native.Mathlib.Numerals.{add-one}
use native.Mathlib.Omega.{arith}
use lib.ListN.{length, get_or, take, drop, set, replicate, length-drop, drop_of_length-le}
use lib.Dec.{eqb, leb}
use borrow.Author.Tests.{eqb-true, eq-eqb, leb-true, le-leb}
use lib.Seq.{drop-cons, sets, take-nil, take_all}
use Rattle.laws.proofs.Bools.{and_left, and_right, both, same_test}
use Rattle.laws.specs.Lists.{every, before, same, sum_of, up_to}

module _ (l : List ℕ) (i : ℕ) (h : i < length l) where
  -- what is left of a list at a place: the entry there, and what is left after it
  pub drop_turn : drop i l ≡ get_or l i 0 ∷ drop (i + 1) l
  drop_turn = rw (add-one i, drop-cons l i 0)

  pub before_turn : (p : ℕ → Bool) → p (get_or l i 0) ≡ false → (i + 1) + before p (drop (i + 1) l) ≡ i + before p (drop i l)
  before_turn p e = rw (drop_turn, e) (omega arith)

  pub before_here : (p : ℕ → Bool) → p (get_or l i 0) ≡ true → i + before p (drop i l) ≡ i
  before_here p e = rw (drop_turn, e) (omega arith)

  pub sum_turn : (s : ℕ) → ((s + get_or l i 0) % 256 + sum_of (drop (i + 1) l)) % 256 ≡ (s + sum_of (drop i l)) % 256
  sum_turn s = rw drop_turn (omega arith)

  pub sets_turn : (into : List ℕ) (at : ℕ) → sets (set into at (get_or l i 0)) (at + 1) (drop (i + 1) l) ≡ sets into at (drop i l)
  sets_turn into at = rw (drop_turn, add-one at)

-- A loop that asks a test of one entry after the other: what it has seen and what is left to see decide alike.
pub record Seen (p : ℕ → Bool) (l : List ℕ) (all : Bool) (i : ℕ) : Type 0 where
  pub within : i ≤ length l
  pub decides : (all && every p (drop i l)) ≡ every p l

pub seen_start : {p : ℕ → Bool} {l : List ℕ} → Seen p l true 0
seen_start = record { within = omega arith; decides = refl }

pub seen_turn : {p : ℕ → Bool} {l : List ℕ} {all : Bool} {i : ℕ} → i < length l → Seen p l all i → Seen p l (all && p (get_or l i 0)) (i + 1)
seen_turn {p} {l} {all} {i} h s =
    record {
      within = omega arith;
      decides = and_assoc all (p (get_or l i 0)) (every p (drop (i + 1) l)) ∙ rw drop_turn at s.decides;
    }

pub seen_end : {p : ℕ → Bool} {l : List ℕ} {all : Bool} {i : ℕ} → length l ≤ i → Seen p l all i → all ≡ every p l
seen_end {p} {l} {all} {i} h s = sym (and-true all) ∙ rw (drop_of_length-le l h) at s.decides

pub before_end : (p : ℕ → Bool) (l : List ℕ) (i : ℕ) → length l ≤ i → i + before p (drop i l) ≡ i
before_end p l i h = rw (drop_of_length-le l h) (omega arith)

pub sum_end : (l : List ℕ) (i s : ℕ) → length l ≤ i → s < 256 → s ≡ (s + sum_of (drop i l)) % 256
sum_end l i s h k = rw (drop_of_length-le l h) (omega arith)

pub sets_end : (l : List ℕ) (i : ℕ) (into : List ℕ) (at : ℕ) → length l ≤ i → sets into at (drop i l) ≡ into
sets_end l i into at h = rw (drop_of_length-le l h)

-- what holds of every entry holds of the entry at a place
pub every_at : (p : ℕ → Bool) (l : List ℕ) → every p l ≡ true → (i : ℕ) → i < length l → p (get_or l i 0) ≡ true
every_at p [] e i h = absurd (not-suc-le-zero h)
every_at p (x ∷ xs) e zero h = and_left (p x) (every p xs) e
every_at p (x ∷ xs) e (suc i) h = every_at p xs (and_right (p x) (every p xs) e) i (le_of_suc-le-suc h)

-- a run of stores in two parts
pub sets_append : (l : List ℕ) (i : ℕ) (xs ys : List ℕ) → sets l i (xs ++ ys) ≡ sets (sets l i xs) (i + length xs) ys
sets_append l i [] ys = ap (λ (k : ℕ). sets l k ys) (sym (add-zero i))
sets_append l i (x ∷ xs) ys =
    sets_append (set l i x) (suc i) xs ys
    ∙ ap (λ (k : ℕ). sets (sets (set l i x) (suc i) xs) k ys) (suc-add i (length xs) ∙ sym (add-suc i (length xs)))

-- fixed room: the front of a list, and zeros after it
pub take_min : (n : ℕ) (l : List ℕ) → take (min n (length l)) l ≡ take n l
take_min n [] = take-nil (min n 0) ∙ sym (take-nil n)
take_min zero (x ∷ xs) = rw zero-min
take_min (suc n) (x ∷ xs) = rw (suc-min-suc, take_min n xs)

pub take_again : (n : ℕ) (xs ys : List ℕ) → take n (take n xs ++ ys) ≡ take n (xs ++ ys)
take_again zero xs ys = refl
take_again (suc n) [] ys = refl
take_again (suc n) (x ∷ xs) ys = rw (take_again n xs ys)

pub take_replicate : (k m a : ℕ) → k ≤ m → take k (replicate m a) ≡ replicate k a
take_replicate zero m a h = refl
take_replicate (suc k) zero a h = absurd (not-suc-le-zero h)
take_replicate (suc k) (suc m) a h = rw (take_replicate k m a (le_of_suc-le-suc h))

pub padded : (l : List ℕ) (k m : ℕ) → k ≤ m → take (min (length l) k) l ++ drop (min (length l) k) (replicate k 0) ≡ take k (l ++ replicate m 0)
padded [] k m h = rw (zero-min, take_replicate k m 0 h)
padded (x ∷ xs) zero m h = rw min-zero
padded (x ∷ xs) (suc k) m h = let less : k ≤ m = omega arith in rw (suc-min-suc, padded xs k m less)

pub every_zero : (l : List ℕ) → every (eqb 0) l ≡ true → l ≡ replicate (length l) 0
every_zero [] e = refl
every_zero (x ∷ xs) e = ap₂ (λ (y : ℕ) (ys : List ℕ). y ∷ ys) (sym (eqb-true 0 x (and_left _ (every (eqb 0) xs) e))) (every_zero xs (and_right (eqb 0 x) _ e))

pub every_replicate : (n : ℕ) → every (eqb 0) (replicate n 0) ≡ true
every_replicate zero = refl
every_replicate (suc n) = every_replicate n

pub zeros_behind : (l : List ℕ) (k m : ℕ) → k ≤ m → every (eqb 0) (drop (min k (length l)) (take k (l ++ replicate m 0))) ≡ true
zeros_behind [] k m h = rw (min-zero, take_replicate k m 0 h) (every_replicate k)
zeros_behind (x ∷ xs) zero m h = rw zero-min
zeros_behind (x ∷ xs) (suc k) m h = let less : k ≤ m = omega arith in rw suc-min-suc (zeros_behind xs k m less)

pub every_take : (p : ℕ → Bool) (n : ℕ) (l : List ℕ) → every p l ≡ true → every p (take n l) ≡ true
every_take p zero l e = refl
every_take p (suc n) [] e = refl
every_take p (suc n) (x ∷ xs) e = rw (and_left (p x) (every p xs) e) (every_take p n xs (and_right (p x) (every p xs) e))

pub every_drop : (p : ℕ → Bool) (n : ℕ) (l : List ℕ) → every p l ≡ true → every p (drop n l) ≡ true
every_drop p zero l e = e
every_drop p (suc n) [] e = refl
every_drop p (suc n) (x ∷ l) e = every_drop p n l (and_right (p x) (every p l) e)

-- up to the first entry of which a test holds, it holds of none; and there it holds
pub record First (p : ℕ → Bool) (l : List ℕ) (n : ℕ) : Type 0 where
  pub inside : n ≤ length l
  pub none : every (λ b. not (p b)) (take n l) ≡ true
  pub some : n < length l → p (get_or l n 0) ≡ true

pub before_first : (p : ℕ → Bool) (l : List ℕ) → First p l (before p l)
before_first p [] = record { inside = omega arith; none = refl; some = λ h. absurd (not-suc-le-zero h) }
before_first p (x ∷ xs) = by (p x) refl (before_first p xs)
  where
    by : (t : Bool) → p x ≡ t → First p xs (before p xs) → First p (x ∷ xs) (cond (p x) zero (suc (before p xs)))
    by true e f = rw e (record { inside = omega arith; none = refl; some = λ h. e })
    by false e f =
        rw e
        (record {
          inside = omega arith;
          none = rw (e, f.none);
          some = λ h. f.some (le_of_suc-le-suc h);
        })

pub every_append : (p : ℕ → Bool) (xs ys : List ℕ) → every p (xs ++ ys) ≡ (every p xs && every p ys)
every_append p [] ys = refl
every_append p (x ∷ xs) ys = rw (every_append p xs ys) (sym (and_assoc (p x) (every p xs) (every p ys)))

pub sum_append : (xs ys : List ℕ) → sum_of (xs ++ ys) ≡ sum_of xs + sum_of ys
sum_append [] ys = omega arith
sum_append (x ∷ xs) ys = omega (arith, sum_append xs ys)

-- A rule of a table is one computed test over its places, and holds at each of them.
pub up_to_at : (n : ℕ) (p : ℕ → Bool) → up_to n p ≡ true → (k : ℕ) → k < n → p k ≡ true
up_to_at zero p e k h = absurd (not-suc-le-zero h)
up_to_at (suc n) p e k h = ⊎_elim (λ is. rw is (and_right (up_to n p) (p n) e)) (λ less. up_to_at n p (and_left (up_to n p) (p n) e) k less) (eq-or-lt_of_le (le_of_suc-le-suc h))

pub up_to_all : (n : ℕ) (p : ℕ → Bool) → ((k : ℕ) → k < n → p k ≡ true) → up_to n p ≡ true
up_to_all zero p h = refl
up_to_all (suc n) p h = rw (up_to_all n p (λ k less. h k (omega arith)), h n (omega arith))

-- two tests at each place are the one at all and the other at all
pub up_to_both : (n : ℕ) (p q : ℕ → Bool) → (up_to n p && up_to n q) ≡ up_to n (λ k. p k && q k)
up_to_both n p q =
    same_test (up_to n p && up_to n q) (up_to n (λ k. p k && q k))
    (λ e. up_to_all n (λ k. p k && q k) (λ k h. both (p k) (q k) (up_to_at n p (and_left _ (up_to n q) e) k h) (up_to_at n q (and_right (up_to n p) _ e) k h)))
    (λ e. both (up_to n p) (up_to n q) (up_to_all n p (λ k h. and_left (p k) (q k) (up_to_at n (λ j. p j && q j) e k h))) (up_to_all n q (λ k h. and_right (p k) (q k) (up_to_at n (λ j. p j && q j) e k h))))

-- a list from a place to its end
pub part_to_end : (l : List ℕ) (n i : ℕ) → length l ≡ n → take (n - i) (drop i l) ≡ drop i l
part_to_end l n i e = take_all (n - i) (drop i l) (rw length-drop (omega arith))

-- from 0 to 0 is 0
zero_only : (b : ℕ) → (leb 0 b && leb b 0) ≡ eqb 0 b
zero_only b =
    same_test (leb 0 b && leb b 0) (eqb 0 b)
    (λ e. let none : b ≤ 0 = leb-true b 0 (and_right (leb 0 b) (leb b 0) e) in let is : 0 ≡ b = omega arith in eq-eqb 0 b is)
    (λ e. let is : 0 ≡ b = eqb-true 0 b e in both (leb 0 b) (leb b 0) (le-leb 0 b (omega arith)) (le-leb b 0 (omega arith)))

pub zero_within : (l : List ℕ) → every (λ b. leb 0 b && leb b 0) l ≡ every (eqb 0) l
zero_within [] = refl
zero_within (b ∷ l) = ap₂ (λ (s t : Bool). s && t) (zero_only b) (zero_within l)

-- the same entries
pub same_back : (xs ys : List ℕ) → same xs ys ≡ true → xs ≡ ys
same_back [] [] e = refl
same_back [] (y ∷ ys) e = absurd (false≢true e)
same_back (x ∷ xs) [] e = absurd (false≢true e)
same_back (x ∷ xs) (y ∷ ys) e =
    ap₂ (λ (z : ℕ) (zs : List ℕ). z ∷ zs) (eqb-true x y (and_left (eqb x y) _ e)) (same_back xs ys (and_right (eqb x y) _ e))

pub same_self : (xs : List ℕ) → same xs xs ≡ true
same_self [] = refl
same_self (x ∷ xs) = both _ _ (eq-eqb x x refl) (same_self xs)

-- what a comparison of two slices promises
pub same_is : (r : Bool) (xs ys : List ℕ) → (r ≡ true → xs ≡ ys) × (xs ≡ ys → r ≡ true) → r ≡ same xs ys
same_is r xs ys told =
    same_test r (same xs ys) (λ e. rw (sym (told.0 e)) (same_self xs)) (λ e. told.1 (same_back xs ys e))
