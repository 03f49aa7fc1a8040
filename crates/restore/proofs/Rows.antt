-- The order as the program makes and holds it, and what the calls answer. Assumes nothing.
use mathlib.Core.Path.{◌≡◌, refl, sym, ap, ◌∙◌}
use mathlib.Core.Bool.{Bool, true, false, cond, not, ◌&&◌}
use mathlib.Core.List.{List, [], ◌∷◌, map}
use Prim.Native.Nat.{ℕ, zero, suc, ◌+◌, ◌*◌, ◌-◌, ◌^◌, ◌≤◌, ◌<◌, min, max}
use native.Mathlib.Numerals.{add-one}
use native.Mathlib.Omega.{arith}
use borrow.Author.Tests.{lt-ltb, le-ltb, ltb-true, ltb-false}
use lib.ListN.{length, get_or, length-map}
use lib.Dec.{ltb}
use Rattle.laws.specs.Lists.{every}
use Rattle.laws.proofs.Bools.{and_left, and_right, both}
use Rattle.settings.specs.Columns.{count, width_at, partner_at, role_at}
use Rattle.settings.specs.Rules.{agrees, allowed_for}
use Rattle.tables.specs.Rules.{allowed, number_at}
use Rattle.settings.specs.Calls.{allowing}
use Rattle.tables.specs.declared.Table.{Table}
use Rattle.tables.proofs.Tables.{range_at}
use Rattle.restore.specs.Order.{differs, higher_first, exchanged, placed, turns_from, order, wanted, set_at, due_sets}
use Rattle.std.specs.List.{cons_option}
use Rattle.std.proofs.lemmas.Option.{cond_some}
use Rattle.restore.specs.Laws.{SetsAreFew, ListIsShort, Tells, a_set, none_left, not_allowed_lem, DueTells}
use Rattle.restore.specs.Calls.{both_allowed, frames_for, list_room, unlisted, listed_as, listing, set_after, due_after, due_in}
use Rattle.requests.specs.declared.Wanted.{Wanted}
use Rattle.std.specs.Prelude.{Option, Some, None, Err, is_some, ◌≢◌}
use Rattle.paper.specs.Numbers.{short_buffer, not_allowed}
use Rattle.restore.proofs.Writing.{frames_short, number_fits}
use Rattle.restore.proofs.Placing.{by_lower, by_higher, placed_below, turns_none, turns_more, turns_skip, all_differ, entry_fits}

-- for a wanted number of an allowed table, what is allowed is what agrees
pub allows_agrees : (to : Table) → allowed to ≡ true → (k p : ℕ) → k < count → allowing k (number_at to k) p ≡ agrees (role_at k) (number_at to k) p
unfolding allowing allowed_for
allows_agrees to ok k p h = rw (lt-ltb k count h, range_at to ok k h)

pub turned_is : (from to : Table) → allowed to ≡ true → (lower higher : ℕ) → lower < count
    → (differs from to lower && (differs from to higher && not (allowing lower (number_at to lower) (number_at from higher)))) ≡ higher_first from to lower higher
unfolding higher_first
turned_is from to ok lower higher h = rw (allows_agrees to ok lower (number_at from higher) h)

-- the Sets in turn, from a place on
module _ (from to : Table) where
  pub sets_from : ℕ → List Wanted
  sets_from k = map (wanted to) (turns_from (count - k) k from to)

  pub all_sets : sets_from 0 ≡ due_sets from to
  unfolding order sets_from
  all_sets = refl

  pub no_sets : (k : ℕ) → count ≤ k → sets_from k ≡ []
  unfolding sets_from
  no_sets k h =
      let none : count - k ≡ 0 = omega arith in
      rw (none, turns_none from to k)

  pub set_there : (k : ℕ) → k < count → set_at from to k ≡ cond (differs from to (placed from to k)) (Some (wanted to (placed from to k))) None
  unfolding set_at
  set_there k h = rw (lt-ltb k count h)

  -- a Set, or none, and then those from the next place on
  pub one_set : (k : ℕ) → k < count → cons_option (set_at from to k) (sets_from (k + 1)) ≡ sets_from k
  unfolding sets_from
  one_set k h = by (differs from to (placed from to k)) refl
    where
      left : count - k ≡ suc (count - (k + 1))
      left = omega arith

      by : (b : Bool) → differs from to (placed from to k) ≡ b
          → cons_option (set_at from to k) (map (wanted to) (turns_from (count - (k + 1)) (k + 1) from to)) ≡ map (wanted to) (turns_from (count - k) k from to)
      by true d = rw (set_there k h, d, left, add-one, turns_more from to (count - suc k) k (placed from to k) refl d)
      by false d = rw (set_there k h, d, left, add-one, turns_skip from to (count - suc k) k (placed from to k) refl d)

  module _ (k : ℕ) (h : k < count) where
    pub next_none : set_at from to k ≡ None → sets_from k ≡ sets_from (k + 1)
    next_none e = sym (one_set k h) ∙ ap (λ (o : Option Wanted). cons_option o (sets_from (k + 1))) e

    pub next_some : (w : Wanted) → set_at from to k ≡ Some w → sets_from k ≡ w ∷ sets_from (k + 1)
    next_some w e = sym (one_set k h) ∙ ap (λ (o : Option Wanted). cons_option o (sets_from (k + 1))) e

    pub one_counted : (b : Bool) → b ≡ is_some (set_at from to k) → length (sets_from k) ≡ cond b 1 0 + length (sets_from (k + 1))
    one_counted b e = ap (λ (l : List Wanted). length l) (sym (one_set k h)) ∙ rw e (by (set_at from to k))
      where
        by : (o : Option Wanted) → length (cons_option o (sets_from (k + 1))) ≡ cond (is_some o) 1 0 + length (sets_from (k + 1))
        by None = omega arith
        by (Some w) = omega arith

-- a Set is of a setting of the table, and asks for a number that its width holds
pub set_kept : (from to : Table) → both_allowed from to ≡ true → (k : ℕ) → k < count → (w : Wanted) → set_at from to k ≡ Some w
    → (w.setting.index < count) × (w.number < 256 ^ width_at w.setting.index)
set_kept from to ok k h w e =
    let there = placed_below from to k h in
    let is : wanted to (placed from to k) ≡ w = (cond_some _ _ _ (sym (set_there from to k h) ∙ e)).1 in
    rw (sym is) (there, number_fits to (and_right (allowed from) _ ok) _ there)

pub after_next : (w : Wanted) (l : List Wanted) (n : ℕ) → n ≢ 0 → set_after (w ∷ l) n ≡ set_after l (n - 1)
after_next w l zero h = absurd (h refl)
after_next w l (suc n) h = ap (set_after l) (omega arith)

-- the same of one place, as the program finds it
module _ (from to : Table) (k p : ℕ) (is : partner_at k ≡ p) where
  exchanged_by : higher_first from to (min k p) (max k p) ≡ exchanged from to k
  exchanged_by = by (ltb k p) refl
    where
      by : (b : Bool) → ltb k p ≡ b → higher_first from to (min k p) (max k p) ≡ exchanged from to k
      by true e =
          let less : k < p = ltb-true _ _ e in
          let low : min k p ≡ k = omega arith in
          let high : max k p ≡ p = omega arith in
          rw (low, high, by_lower from to k (rw is less), is)
      by false e =
          let most : p ≤ k = ltb-false _ _ e in
          let low : min k p ≡ p = omega arith in
          let high : max k p ≡ k = omega arith in
          rw (low, high, by_higher from to k (rw is most), is)

  pub placed_by : (b : Bool) → higher_first from to (min k p) (max k p) ≡ b → cond b p k ≡ placed from to k
  unfolding placed
  placed_by b e = rw (sym exchanged_by, e, is)

pub past_none : (from to : Table) (k : ℕ) → count ≤ k → set_at from to k ≡ None
unfolding set_at
past_none from to k h = rw (le-ltb k count h)

every_left : (p q : ℕ → Bool) (l : List ℕ) → every (λ k. p k && q k) l ≡ true → every p l ≡ true
every_left p q [] e = refl
every_left p q (k ∷ l) e =
    both _ _ (and_left (p k) (q k) (and_left (p k && q k) _ e)) (every_left p q l (and_right (p k && q k) _ e))

-- the calls, case by case
module _ (from to : Table) where
  pub list_short : (room : ℕ) → room < list_room → listing from to room ≡ unlisted short_buffer
  unfolding listing
  list_short room h = rw (lt-ltb room list_room h)

  pub list_stray : (room : ℕ) → list_room ≤ room → both_allowed from to ≡ false → listing from to room ≡ unlisted not_allowed
  unfolding listing
  list_stray room h e = rw (le-ltb room list_room h, e)

  pub list_made : (room : ℕ) → list_room ≤ room → both_allowed from to ≡ true → listing from to room ≡ listed_as (due_sets from to)
  unfolding listing
  list_made room h e = rw (le-ltb room list_room h, e)

  pub due_stray : (n : ℕ) → both_allowed from to ≡ false → Err not_allowed ≡ due_in from to n
  unfolding due_in
  due_stray n e = rw e

  pub due_is : (n : ℕ) → both_allowed from to ≡ true → due_after (due_sets from to) n ≡ due_in from to n
  unfolding due_in
  due_is n e = rw e

-- the list fits its room
turns_few : (left k : ℕ) (from to : Table) → length (turns_from left k from to) ≤ left
turns_few zero k from to = rw (turns_none from to k) (omega arith)
turns_few (suc left) k from to = by (differs from to (placed from to k)) refl (turns_few left (suc k) from to)
  where
    by : (b : Bool) → differs from to (placed from to k) ≡ b → length (turns_from left (suc k) from to) ≤ left → length (turns_from (suc left) k from to) ≤ suc left
    by true d later = rw (turns_more from to left k (placed from to k) refl d) (omega arith)
    by false d later = rw (turns_skip from to left k (placed from to k) refl d) (omega arith)

pub sets_few : SetsAreFew
unfolding order
sets_few from to = rw (length-map (order from to) (wanted to)) (turns_few count 0 from to)

pub frames_fit : ListIsShort
unfolding order
frames_fit from to =
    let few : length (order from to) ≤ count = turns_few count 0 from to in
    let short : length (frames_for (due_sets from to)) ≤ 15 * length (order from to) =
    frames_short to (order from to) (every_left (λ k. ltb k count) (differs from to) (order from to) (all_differ from to)) in
    omega arith

after_last : (l : List Wanted) (n : ℕ) → length l ≤ n → set_after l n ≡ None
after_last [] n h = refl
after_last (w ∷ l) zero h = absurd (omega arith)
after_last (w ∷ l) (suc n) h = after_last l n (omega arith)

after_some : (to : Table) (l : List ℕ) (n : ℕ) → n < length l → set_after (map (wanted to) l) n ≡ Some (wanted to (get_or l n 0))
after_some to [] n h = absurd (omega arith)
after_some to (k ∷ l) zero h = refl
after_some to (k ∷ l) (suc n) h = after_some to l n (omega arith)

-- what is due tells how many there are
pub tells_due : DueTells
tells_due from to n = by (both_allowed from to) (ltb n (length (order from to))) refl refl
  where
    size : length (due_sets from to) ≡ length (order from to)
    size = length-map (order from to) (wanted to)

    by : (b s : Bool) → both_allowed from to ≡ b → ltb n (length (order from to)) ≡ s → Tells from to n (due_in from to n)
    by false s e f = rw (sym (due_stray from to n e)) (not_allowed_lem e)
    by true true e f =
        let less : n < length (order from to) = ltb-true _ _ f in
        rw (sym (due_is from to n e), after_some to (order from to) n less) (a_set (get_or (order from to) n 0) refl (entry_fits from to n less).0 e (rw size less))
    by true false e f =
        let most : length (due_sets from to) ≤ n = rw size (ltb-false _ _ f) in
        rw (sym (due_is from to n e), after_last (due_sets from to) n most) (none_left e most)
