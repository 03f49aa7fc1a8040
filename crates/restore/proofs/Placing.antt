-- The order of the Sets: where each setting has its turn, and what that says of any two. Assumes nothing.
use mathlib.Core.Path.{◌≡◌, refl, sym, ap, ◌∙◌}
use mathlib.Core.Logic.{◌≢◌, ◌⊎◌, inl, inr, ⊎_elim}
use native.Mathlib.Nat.{lt_irrefl}
use mathlib.Core.Bool.{Bool, true, false, cond, not, ◌&&◌}
use mathlib.Core.List.{List, [], ◌∷◌}
use Prim.Native.Nat.{ℕ, zero, suc, ◌+◌, ◌≤◌, ◌<◌}
use native.Mathlib.Omega.{arith}
use borrow.Author.Tests.{lt-ltb, le-ltb, ltb-true, ltb-false, eqb-true, eqb-false, eq-eqb, ne_eqb}
use lib.ListN.{length, get_or}
use lib.Dec.{ltb, eqb}
use Rattle.laws.specs.Lists.{every}
use Rattle.laws.proofs.Bools.{and_left, and_right, both}
use Rattle.laws.proofs.Lists.{every_at}
use Rattle.settings.specs.Columns.{count, partner_at, role_at}
use Rattle.settings.specs.Rules.{agrees}
use Rattle.tables.specs.Rules.{number_at}
use Rattle.tables.specs.declared.Table.{Table}
use Rattle.settings.proofs.Theorems.{rows_hold}
use Rattle.restore.specs.Order.{differs, higher_first, exchanged, placed, turns_from, order}
use Rattle.restore.specs.Laws.{times, OneForEach, NoOther, goes_first, InOrder}

module _ (k : ℕ) (h : k < count) where
  partner_below : partner_at k < count
  partner_below = (rows_hold k h).partner_is

  partner_back : partner_at (partner_at k) ≡ k
  partner_back = (rows_hold k h).partner_back

pub not_flip : (a b : Bool) → not a ≡ b → a ≡ not b
not_flip true true e = sym e
not_flip true false e = refl
not_flip false true e = refl
not_flip false false e = sym e

-- two settings whose turns cross are neighbours
pinched : (p q a b x y : ℕ) → b < a → q ≤ suc b → a ≤ suc p → (x ≡ a) ⊎ (x ≡ p) → (y ≡ b) ⊎ (y ≡ q) → x < y → p ≡ b
pinched p q a b x y more up down at at' less =
    ⊎_elim (λ e. ⊎_elim (λ f. absurd (omega arith)) (λ f. absurd (omega arith)) at') (λ e. ⊎_elim (λ f. absurd (omega arith)) (λ f. omega arith) at') at

module _ (from to : Table) where
  -- of a pair, both change places or none does
  pub by_lower : (k : ℕ) → k < partner_at k → exchanged from to k ≡ higher_first from to k (partner_at k)
  unfolding exchanged
  by_lower k h = rw (lt-ltb k (partner_at k) h)

  pub by_higher : (k : ℕ) → partner_at k ≤ k → exchanged from to k ≡ higher_first from to (partner_at k) k
  unfolding exchanged
  by_higher k h = rw (le-ltb k (partner_at k) h)

  pub exchanged_same : (k : ℕ) → k < count → exchanged from to (partner_at k) ≡ exchanged from to k
  exchanged_same k h = by (ltb k (partner_at k)) (ltb (partner_at k) k) refl refl
    where
      back : partner_at (partner_at k) ≡ k
      back = partner_back k h

      by : (s t : Bool) → ltb k (partner_at k) ≡ s → ltb (partner_at k) k ≡ t → exchanged from to (partner_at k) ≡ exchanged from to k
      by true t e f =
          let less : k < partner_at k = ltb-true _ _ e in
          let most : partner_at (partner_at k) ≤ partner_at k = rw back (omega arith) in
          by_higher (partner_at k) most ∙ ap (λ (x : ℕ). higher_first from to x (partner_at k)) back ∙ sym (by_lower k less)
      by false true e f =
          let less : partner_at k < partner_at (partner_at k) = rw back (ltb-true _ _ f) in
          by_lower (partner_at k) less ∙ ap (higher_first from to (partner_at k)) back ∙ sym (by_higher k (ltb-false _ _ e))
      by false false e f =
          let a : partner_at k ≤ k = ltb-false _ _ e in
          let b : k ≤ partner_at k = ltb-false _ _ f in
          let same : partner_at k ≡ k = omega arith in
          ap (exchanged from to) same

  pub placed_there : (k : ℕ) → exchanged from to k ≡ true → placed from to k ≡ partner_at k
  unfolding placed
  placed_there k e = rw e

  pub placed_here : (k : ℕ) → exchanged from to k ≡ false → placed from to k ≡ k
  unfolding placed
  placed_here k e = rw e

  -- so each setting has its turn at one place
  pub placed_back : (k : ℕ) → k < count → placed from to (placed from to k) ≡ k
  placed_back k h = by (exchanged from to k) refl
    where
      by : (b : Bool) → exchanged from to k ≡ b → placed from to (placed from to k) ≡ k
      by true e =
          ap (placed from to) (placed_there k e) ∙ placed_there (partner_at k) (exchanged_same k h ∙ e) ∙ partner_back k h
      by false e = ap (placed from to) (placed_here k e) ∙ placed_here k e

  pub placed_below : (k : ℕ) → k < count → placed from to k < count
  placed_below k h = by (exchanged from to k) refl
    where
      by : (b : Bool) → exchanged from to k ≡ b → placed from to k < count
      by true e = rw (placed_there k e) (partner_below k h)
      by false e = rw (placed_here k e) h

  in_pair : (k : ℕ) (b : Bool) → exchanged from to k ≡ b → (placed from to k ≡ k) ⊎ (placed from to k ≡ partner_at k)
  in_pair k true e = inr (placed_there k e)
  in_pair k false e = inl (placed_here k e)

  -- no place, or one more
  pub turns_none : (k : ℕ) → turns_from 0 k from to ≡ []
  unfolding turns_from
  turns_none k = refl

  pub turns_more : (left k : ℕ) (x : ℕ) → placed from to k ≡ x → differs from to x ≡ true → turns_from (suc left) k from to ≡ x ∷ turns_from left (suc k) from to
  unfolding turns_from
  turns_more left k x e d = rw (e, d)

  pub turns_skip : (left k : ℕ) (x : ℕ) → placed from to k ≡ x → differs from to x ≡ false → turns_from (suc left) k from to ≡ turns_from left (suc k) from to
  unfolding turns_from
  turns_skip left k x e d = rw (e, d)

  -- The place of a setting's turn, where it differs: what is put down at place k is x, which differs or not, and then come the others.
  module _ (left k : ℕ) (h : k + suc left ≤ count) where
    abbrev turn : ℕ
    turn = placed from to k

    turn_below : turn < count
    turn_below = placed_below k (omega arith)

    turn_place : placed from to turn ≡ k
    turn_place = placed_back k (omega arith)

    abbrev rest : List ℕ
    rest = turns_from left (suc k) from to

    -- what holds of the others, and of one more in front of them where it differs, holds of all
    turn_cases : (p : List ℕ → Type 0) → (differs from to turn ≡ true → p (turn ∷ rest)) → (differs from to turn ≡ false → p rest) → p (turns_from (suc left) k from to)
    turn_cases p here past = by (differs from to turn) refl
      where
        by : (b : Bool) → differs from to turn ≡ b → p (turns_from (suc left) k from to)
        by true d = rw (turns_more left k turn refl d) (here d)
        by false d = rw (turns_skip left k turn refl d) (past d)

  -- every entry is a setting that differs
  all_fit : (left k : ℕ) → k + left ≤ count → every (λ j. ltb j count && differs from to j) (turns_from left k from to) ≡ true
  all_fit zero k h = rw (turns_none k)
  all_fit (suc left) k h =
      let later = all_fit left (suc k) (omega arith) in
      turn_cases left k h (λ l. every (λ j. ltb j count && differs from to j) l ≡ true)
      (λ d. both _ _ (both _ _ (lt-ltb (turn left k h) count (turn_below left k h)) d) later) (λ d. later)

  -- how often a setting comes up: never before or after its place, and there if it differs
  apart : (left k j : ℕ) (h : k + suc left ≤ count) → placed from to j ≢ k → eqb (turn left k h) j ≡ false
  apart left k j h e = ne_eqb (turn left k h) j (λ is. e (ap (placed from to) (sym is) ∙ turn_place left k h))

  times_before : (left k j : ℕ) → k + left ≤ count → placed from to j < k → times j (turns_from left k from to) ≡ 0
  times_before zero k j h less = rw (turns_none k)
  times_before (suc left) k j h less =
      let other : eqb (turn left k h) j ≡ false = apart left k j h (λ is. let same : placed from to j ≡ k = is in absurd (omega arith)) in
      let later : times j (rest left k h) ≡ 0 = times_before left (suc k) j (omega arith) (omega arith) in
      turn_cases left k h (λ l. times j l ≡ 0) (λ d. rw other later) (λ d. later)

  times_at : (left k j : ℕ) → k + left ≤ count → j < count → k ≤ placed from to j → placed from to j < k + left
      → times j (turns_from left k from to) ≡ cond (differs from to j) 1 0
  times_at zero k j h below least most = absurd (omega arith)
  times_at (suc left) k j h below least most = by (eqb (placed from to j) k) refl (λ more. times_at left (suc k) j (omega arith) below more (omega arith))
    where
      by : (b : Bool) → eqb (placed from to j) k ≡ b
          → (suc k ≤ placed from to j → times j (turns_from left (suc k) from to) ≡ cond (differs from to j) 1 0)
          → times j (turns_from (suc left) k from to) ≡ cond (differs from to j) 1 0
      by true e later =
          let here : placed from to j ≡ k = eqb-true _ _ e in
          let is : turn left k h ≡ j = ap (placed from to) (sym here) ∙ placed_back j below in
          let gone : times j (rest left k h) ≡ 0 = times_before left (suc k) j (omega arith) (omega arith) in
          turn_cases left k h (λ l. times j l ≡ cond (differs from to j) 1 0)
          (λ d. rw (eq-eqb (turn left k h) j is, gone, sym (ap (differs from to) is), d))
          (λ d. rw (gone, sym (ap (differs from to) is), d))
      by false e later =
          let there : placed from to j ≢ k = eqb-false _ _ e in
          let more : suc k ≤ placed from to j = omega arith in
          turn_cases left k h (λ l. times j l ≡ cond (differs from to j) 1 0)
          (λ d. rw (apart left k j h there) (later more)) (λ d. later more)

  -- the turns are in the order of the places
  turn_least : (left k i : ℕ) → k + left ≤ count → i < length (turns_from left k from to) → k ≤ placed from to (get_or (turns_from left k from to) i 0)
  turn_least zero k i h = λ less. let none : i < 0 = rw (turns_none k) at less in absurd (omega arith)
  turn_least (suc left) k zero h =
      turn_cases left k h (λ l. zero < length l → k ≤ placed from to (get_or l zero 0))
      (λ d less. rw (turn_place left k h) (omega arith))
      (λ d less. let later : suc k ≤ placed from to (get_or (rest left k h) 0 0) = turn_least left (suc k) zero (omega arith) less in omega arith)
  turn_least (suc left) k (suc i) h =
      turn_cases left k h (λ l. suc i < length l → k ≤ placed from to (get_or l (suc i) 0))
      (λ d less. let later : suc k ≤ placed from to (get_or (rest left k h) i 0) = turn_least left (suc k) i (omega arith) (omega arith) in omega arith)
      (λ d less. let later : suc k ≤ placed from to (get_or (rest left k h) (suc i) 0) = turn_least left (suc k) (suc i) (omega arith) less in omega arith)

  ascending : (left k i j : ℕ) → k + left ≤ count → i < j → j < length (turns_from left k from to)
      → placed from to (get_or (turns_from left k from to) i 0) < placed from to (get_or (turns_from left k from to) j 0)
  ascending zero k i j h less = λ last. let none : j < 0 = rw (turns_none k) at last in absurd (omega arith)
  ascending (suc left) k i zero h less = absurd (omega arith)
  ascending (suc left) k zero (suc j) h less =
      turn_cases left k h (λ l. suc j < length l → placed from to (get_or l 0 0) < placed from to (get_or l (suc j) 0))
      (λ d last. rw (turn_place left k h) (turn_least left (suc k) j (omega arith) (omega arith)))
      (λ d last. ascending left (suc k) zero (suc j) (omega arith) less last)
  ascending (suc left) k (suc i) (suc j) h less =
      turn_cases left k h (λ l. suc j < length l → placed from to (get_or l (suc i) 0) < placed from to (get_or l (suc j) 0))
      (λ d last. ascending left (suc k) i j (omega arith) (omega arith) (omega arith))
      (λ d last. ascending left (suc k) (suc i) (suc j) (omega arith) less last)

  -- Of two settings that differ, the one whose turn is at the lower place goes first.
  module _ (a b : ℕ) (below : a < count) (below' : b < count) (d : differs from to a ≡ true) (d' : differs from to b ≡ true) (less : placed from to a < placed from to b) where
    turned_pair : partner_at a ≡ b → exchanged from to a ≡ true → (ltb a b ≡ false) × (agrees (role_at b) (number_at to b) (number_at from a) ≡ false)
    unfolding higher_first
    turned_pair is e =
        let there : placed from to a ≡ b = placed_there a e ∙ is in
        let here : placed from to b ≡ a = ap (placed from to) (sym there) ∙ placed_back a below in
        let lower : b < a = rw (there, here) at less in
        let most : partner_at a ≤ a = rw is (omega arith) in
        let pair : higher_first from to b a ≡ true = ap (λ (x : ℕ). higher_first from to x a) (sym is) ∙ sym (by_higher a most) ∙ e in
        let other = and_right (differs from to a) _ (and_right (differs from to b) _ pair) in
        (le-ltb a b (omega arith), not_flip _ true other)

    plain_pair : partner_at a ≡ b → exchanged from to a ≡ false → (ltb a b ≡ true) × (agrees (role_at a) (number_at to a) (number_at from b) ≡ true)
    unfolding higher_first
    plain_pair is e =
        let here : placed from to a ≡ a = placed_here a e in
        let same : exchanged from to b ≡ false = ap (exchanged from to) (sym is) ∙ exchanged_same a below ∙ e in
        let there : placed from to b ≡ b = placed_here b same in
        let lower : a < b = rw (here, there) at less in
        let most : a < partner_at a = rw is lower in
        let pair : higher_first from to a b ≡ false = ap (higher_first from to a) (sym is) ∙ sym (by_lower a most) ∙ e in
        let other : not (agrees (role_at a) (number_at to a) (number_at from b)) ≡ false = rw (d, d') at pair in
        (lt-ltb a b lower, not_flip _ false other)

    not_pair : partner_at a ≢ b → a < b
    not_pair apart = by (ltb a b) (ltb b a) refl refl
      where
        crossed : b < a → (s t : Bool) → exchanged from to a ≡ s → exchanged from to b ≡ t → ⊥
        crossed more s t e f =
            let up : partner_at b ≤ suc b = (rows_hold b below').partner_near.0 in
            let down : a ≤ suc (partner_at a) = (rows_hold a below).partner_near.1 in
            apart (pinched (partner_at a) (partner_at b) a b (placed from to a) (placed from to b) more up down (in_pair a s e) (in_pair b t f) less)

        by : (s t : Bool) → ltb a b ≡ s → ltb b a ≡ t → a < b
        by true t e f = ltb-true _ _ e
        by false true e f = absurd (crossed (ltb-true _ _ f) (exchanged from to a) (exchanged from to b) refl refl)
        by false false e f =
            let ab : b ≤ a = ltb-false _ _ e in
            let ba : a ≤ b = ltb-false _ _ f in
            let is : a ≡ b = omega arith in
            absurd (lt_irrefl _ (rw is at less))

    goes_first_lem : goes_first from to a b ≡ true
    unfolding goes_first
    goes_first_lem = by (eqb (partner_at a) b) (exchanged from to a) refl refl
      where
        by : (s t : Bool) → eqb (partner_at a) b ≡ s → exchanged from to a ≡ t
            → cond (eqb (partner_at a) b) (cond (ltb a b) (agrees (role_at a) (number_at to a) (number_at from b)) (not (agrees (role_at b) (number_at to b) (number_at from a)))) (ltb a b) ≡ true
        by true true e f = let pair = turned_pair (eqb-true _ _ e) f in rw (e, pair.0, pair.1)
        by true false e f = let pair = plain_pair (eqb-true _ _ e) f in rw (e, pair.0, pair.1)
        by false t e f = rw (e, lt-ltb a b (not_pair (eqb-false _ _ e)))

-- so the statements of the order
one_if : (same : Bool) → ◌≡◌ {A = ℕ} (cond (not same) 1 0) (cond same 0 1)
one_if true = refl
one_if false = refl

pub one_each : OneForEach
unfolding order differs
one_each from to k h = times_at from to count 0 k (omega arith) h (omega arith) (placed_below from to k h) ∙ one_if (eqb (number_at from k) (number_at to k))

pub all_differ : (from to : Table) → every (λ k. ltb k count && differs from to k) (order from to) ≡ true
unfolding order
all_differ from to = all_fit from to count 0 (omega arith)

pub no_other : NoOther
unfolding differs
no_other = all_differ

pub entry_fits : (from to : Table) (i : ℕ) → i < length (order from to) → (get_or (order from to) i 0 < count) × (differs from to (get_or (order from to) i 0) ≡ true)
entry_fits from to i h =
    let both = every_at (λ j. ltb j count && differs from to j) (order from to) (all_differ from to) i h in
    (ltb-true _ _ (and_left (ltb (get_or (order from to) i 0) count) _ both), and_right (ltb (get_or (order from to) i 0) count) _ both)

pub in_order : InOrder
unfolding order
in_order from to i j less last =
    let a = entry_fits from to i (omega arith) in
    let b = entry_fits from to j last in
    goes_first_lem from to (get_or (order from to) i 0) (get_or (order from to) j 0) a.0 b.0 a.1 b.1 (ascending from to count 0 i j (omega arith) less last)
