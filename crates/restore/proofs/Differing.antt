-- There are as many Sets as settings that differ. Assumes nothing.
use mathlib.Core.Path.{◌≡◌, refl, sym, ap₂, ◌∙◌}
use mathlib.Core.Logic.{◌≢◌}
use mathlib.Core.Bool.{Bool, true, false, cond, ◌&&◌}
use mathlib.Core.List.{List, [], ◌∷◌}
use Prim.Native.Nat.{ℕ, zero, suc, ◌+◌, ◌≤◌, ◌<◌}
use native.Mathlib.Omega.{arith}
use borrow.Author.Tests.{leb-true, lt-ltb, le-ltb, ltb-true, ltb-false, eqb-true, eqb-false}
use lib.ListN.{length, length-map}
use lib.Dec.{eqb, ltb}
use Rattle.laws.specs.Lists.{every}
use Rattle.laws.proofs.Bools.{and_left, and_right}
use Rattle.settings.specs.Columns.{count}
use Rattle.tables.specs.declared.Table.{Table}
use Rattle.restore.specs.Order.{differs, order, wanted}
use Rattle.restore.specs.Laws.{times, differing, SetsAreDiffering}
use Rattle.restore.proofs.Placing.{one_each, all_differ}

-- how often the numbers below n come up in a row, all together
unfoldable times_below : ℕ → List ℕ → ℕ
times_below zero l = zero
times_below (suc n) l = times_below n l + times n l

none_in : (n : ℕ) → times_below n [] ≡ 0
unfolding times_below
none_in zero = refl
none_in (suc n) = rw (none_in n)

-- one entry more comes up once, where it is below n
below_next : (n j x y t : ℕ) → x ≡ y + cond (ltb j n) 1 0 → x + cond (eqb j n) (suc t) t ≡ (y + t) + cond (ltb j (suc n)) 1 0
below_next n j x y t is = by (eqb j n) (ltb j n) refl refl
  where
    by : (a b : Bool) → eqb j n ≡ a → ltb j n ≡ b → x + cond (eqb j n) (suc t) t ≡ (y + t) + cond (ltb j (suc n)) 1 0
    by true true e f = let same : j ≡ n = eqb-true j n e in let less : j < n = ltb-true j n f in absurd (omega arith)
    by true false e f =
        let same : j ≡ n = eqb-true j n e in
        let last : ltb j (suc n) ≡ true = lt-ltb j (suc n) (omega arith) in
        let so : x ≡ y + 0 = rw f at is in
        rw (e, last) (omega arith)
    by false true e f =
        let less : j < n = ltb-true j n f in
        let last : ltb j (suc n) ≡ true = lt-ltb j (suc n) (omega arith) in
        let so : x ≡ y + 1 = rw f at is in
        rw (e, last) (omega arith)
    by false false e f =
        let other : j ≢ n = eqb-false j n e in
        let more : n ≤ j = ltb-false j n f in
        let past : ltb j (suc n) ≡ false = le-ltb j (suc n) (omega arith) in
        let so : x ≡ y + 0 = rw f at is in
        rw (e, past) (omega arith)

one_more : (n j : ℕ) (l : List ℕ) → times_below n (j ∷ l) ≡ times_below n l + cond (ltb j n) 1 0
unfolding times_below
one_more zero j l = rw (le-ltb j 0 (omega arith))
one_more (suc n) j l = below_next n j (times_below n (j ∷ l)) (times_below n l) (times n l) (one_more n j l)

-- so a row of numbers below n has as many entries as they come up
all_counted : (n : ℕ) (p : ℕ → Bool) (l : List ℕ) → every (λ k. ltb k n && p k) l ≡ true → times_below n l ≡ length l
all_counted n p [] e = none_in n
all_counted n p (j ∷ l) e =
    let here : ltb j n ≡ true = and_left (ltb j n) (p j) (and_left (ltb j n && p j) (every (λ k. ltb k n && p k) l) e) in
    let rest = all_counted n p l (and_right (ltb j n && p j) (every (λ k. ltb k n && p k) l) e) in
    one_more n j l ∙ rw (here, rest) (omega arith)

-- and a setting comes up once where it differs, else not at all
each_once : (from to : Table) (n : ℕ) → n ≤ count → times_below n (order from to) ≡ differing n from to
unfolding times_below differing
each_once from to zero h = refl
each_once from to (suc n) h = ap₂ (λ (a b : ℕ). a + b) (each_once from to n (omega arith)) (one_each from to n (omega arith))

pub sets_differing : SetsAreDiffering
sets_differing from to =
    length-map (order from to) (wanted to) ∙ sym (all_counted count (differs from to) (order from to) (all_differ from to)) ∙ each_once from to count (leb-true count count refl)
