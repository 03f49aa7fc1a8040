-- The list's Sets, each on the table that those before it left: accepted in turn, and the wanted table results at the end. Assumes nothing.
use mathlib.Core.Path.{◌≡◌, refl, sym, ap, ap₂, ◌∙◌}
use mathlib.Core.Logic.{◌≢◌}
use mathlib.Core.Bool.{Bool, true, false}
use mathlib.Core.List.{List, map}
use Prim.Native.Nat.{ℕ, zero, suc, ◌+◌, ◌≤◌, ◌<◌}
use native.Mathlib.Omega.{arith}
use borrow.Author.Tests.{ltb-true, ltb-false, eqb-true, eqb-false}
use lib.ListN.{length}
use lib.Dec.{ltb, eqb}
use Rattle.std.proofs.lemmas.Grind.{same_number_lists}
use Rattle.laws.proofs.Bools.{and_right, both}
use Rattle.settings.specs.Columns.{count, partner_at, role_at}
use Rattle.settings.specs.Rules.{agrees, allowed_for}
use Rattle.tables.specs.Rules.{allowed, number_at, partner_number}
use Rattle.tables.specs.Calls.{set_to}
use Rattle.tables.specs.declared.Table.{Table}
use Rattle.std.specs.Prelude.{Ok}
use Rattle.settings.proofs.Theorems.{rows_hold}
use Rattle.tables.proofs.Theorems.{pairs_have_an_order, set_stores_it, set_keeps_allowed, set_keeps_count, set_changes_one}
use Rattle.settings.proofs.Windows.{allowed_both}
use Rattle.tables.proofs.Tables.{range_at}
use Rattle.restore.specs.Order.{differs, higher_first, exchanged, placed, turns_from, order, wanted}
use Rattle.restore.specs.Laws.{Tables, is_accepted, accepted, left, Restores, ListRestores}
use Rattle.restore.proofs.Placing.{not_flip, by_lower, by_higher, exchanged_same, placed_there, placed_here, placed_back, placed_below, turns_none, turns_more, turns_skip}

same_number : (from to : Table) (k : ℕ) → differs from to k ≡ false → number_at from k ≡ number_at to k
unfolding differs
same_number from to k e = eqb-true _ _ (not_flip _ false e)

module _ (from to : Table) (two : Tables from to) where
  -- The table on the way, when the places below k have had their turn.
  record Way (t : Table) (k : ℕ) : Type 0 where
    long : length t.numbers ≡ count
    ok : allowed t ≡ true
    reached : (j : ℕ) → j < count → placed from to j < k → number_at t j ≡ number_at to j
    kept : (j : ℕ) → j < count → k ≤ placed from to j → number_at t j ≡ number_at from j

  module _ (k : ℕ) (h : k < count) where
    abbrev x : ℕ
    x = placed from to k

    below : x < count
    below = placed_below from to k h

    place : placed from to x ≡ k
    place = placed_back from to k h

    wanted_agrees : agrees (role_at x) (number_at to x) (number_at to (partner_at x)) ≡ true
    wanted_agrees = (pairs_have_an_order from to two.from_allowed two.to_allowed x below).then_setting

    -- both of a pair differ, and the partner has not had its turn: the order was chosen so that the new number agrees
    present_agrees : differs from to x ≡ true → differs from to (partner_at x) ≡ true → k ≤ placed from to (partner_at x)
        → agrees (role_at x) (number_at to x) (number_at from (partner_at x)) ≡ true
    unfolding higher_first
    present_agrees d d' least = by (exchanged from to x) refl
      where
        back : partner_at (partner_at x) ≡ x
        back = (rows_hold x below).partner_back

        beside : (b : Bool) → ltb x (partner_at x) ≡ b → x ≤ partner_at x → exchanged from to x ≡ false
            → agrees (role_at x) (number_at to x) (number_at from (partner_at x)) ≡ true
        beside true s lower e =
            let pair : higher_first from to x (partner_at x) ≡ false = sym (by_lower from to x (ltb-true _ _ s)) ∙ e in
            not_flip _ false (rw (d, d') at pair)
        beside false s lower e =
            let most : partner_at x ≤ x = ltb-false _ _ s in
            let alone : partner_at x ≡ x = omega arith in
            let pair : higher_first from to (partner_at x) x ≡ false = sym (by_higher from to x most) ∙ e in
            let other : agrees (role_at (partner_at x)) (number_at to (partner_at x)) (number_at from x) ≡ true = not_flip _ false (rw (d, d') at pair) in
            ap₂ (λ (a b : ℕ). agrees (role_at a) (number_at to a) (number_at from b)) (sym alone) alone ∙ other

        by : (b : Bool) → exchanged from to x ≡ b → agrees (role_at x) (number_at to x) (number_at from (partner_at x)) ≡ true
        by true e =
            let p-is : partner_at x ≡ k = sym (placed_there from to x e) ∙ place in
            let p-place : placed from to (partner_at x) ≡ x = ap (placed from to) p-is in
            let most : partner_at x ≤ x = rw (p-is, sym p-place) least in
            let pair : higher_first from to (partner_at x) x ≡ true = sym (by_higher from to x most) ∙ e in
            let other : agrees (role_at (partner_at x)) (number_at to (partner_at x)) (number_at from x) ≡ false = not_flip _ true (and_right (differs from to x) _ (and_right (differs from to (partner_at x)) _ pair)) in
            let below-p : partner_at x < count = (rows_hold x below).partner_is in
            rw back at ((pairs_have_an_order from to two.from_allowed two.to_allowed (partner_at x) below-p).else_partner (rw back other))
        by false e =
            let here : x ≡ k = sym (placed_here from to x e) ∙ place in
            let there : placed from to (partner_at x) ≡ partner_at x = placed_here from to (partner_at x) (exchanged_same from to x below ∙ e) in
            let lower : k ≤ partner_at x = rw there at least in
            beside (ltb x (partner_at x)) refl (omega arith) e

    fits : (t : Table) → Way t k → differs from to x ≡ true → allowed_for x (number_at to x) (partner_number t x) ≡ true
    fits t w d = allowed_both x (number_at to x) (partner_number t x) (range_at to two.to_allowed x below) agreed
      where
        p_below : partner_at x < count
        p_below = (rows_hold x below).partner_is

        by : (s b : Bool) → ltb (placed from to (partner_at x)) k ≡ s → differs from to (partner_at x) ≡ b
            → agrees (role_at x) (number_at to x) (partner_number t x) ≡ true
        by true b e f = rw (w.reached (partner_at x) p_below (ltb-true _ _ e)) wanted_agrees
        by false true e f = rw (w.kept (partner_at x) p_below (ltb-false _ _ e)) (present_agrees d f (ltb-false _ _ e))
        by false false e f = rw (w.kept (partner_at x) p_below (ltb-false _ _ e), same_number from to (partner_at x) f) wanted_agrees

        agreed : agrees (role_at x) (number_at to x) (partner_number t x) ≡ true
        agreed = by (ltb (placed from to (partner_at x)) k) (differs from to (partner_at x)) refl refl

    -- a setting that does not differ is as wanted already
    pass : (t : Table) → Way t k → differs from to x ≡ false → Way t (suc k)
    pass t w d =
        record {
          long = w.long;
          ok = w.ok;
          reached = λ j less turn. by j less turn (ltb (placed from to j) k) refl;
          kept = λ j less least. w.kept j less (omega arith);
        }
      where
        by : (j : ℕ) → j < count → placed from to j < suc k → (b : Bool) → ltb (placed from to j) k ≡ b → number_at t j ≡ number_at to j
        by j less turn true e = w.reached j less (ltb-true _ _ e)
        by j less turn false e =
            let most : k ≤ placed from to j = ltb-false _ _ e in
            let there : placed from to j ≡ k = omega arith in
            let is : j ≡ x = sym (placed_back from to j less) ∙ ap (placed from to) there in
            w.kept j less most ∙ rw is (same_number from to x d)

    -- one that differs is set
    abbrev after : Table → Table
    after t = (set_to t x (number_at to x)).table

    step : (t : Table) → Way t k → differs from to x ≡ true → (is_accepted (set_to t x (number_at to x)).answer ≡ true) × Way (after t) (suc k)
    step t w d = (
      ap is_accepted stored.0,
      record {
        long = set_keeps_count t x (number_at to x) ∙ w.long;
        ok = set_keeps_allowed t x (number_at to x) w.long w.ok;
        reached = λ j less turn. by j less turn (eqb j x) refl;
        kept = λ j less least. set_changes_one t x (number_at to x) j (apart j least) ∙ w.kept j less (omega arith);
      },
    )
      where
        stored : ((set_to t x (number_at to x)).answer ≡ Ok tt) × (number_at (after t) x ≡ number_at to x)
        stored = set_stores_it t x (number_at to x) w.long w.ok below (fits t w d)

        apart : (j : ℕ) → suc k ≤ placed from to j → j ≢ x
        apart j least is = let here : placed from to j ≡ k = ap (placed from to) is ∙ place in absurd (omega arith)

        by : (j : ℕ) → j < count → placed from to j < suc k → (b : Bool) → eqb j x ≡ b → number_at (after t) j ≡ number_at to j
        by j less turn true e = let is : j ≡ x = eqb-true j x e in rw is stored.1
        by j less turn false e =
            let other : j ≢ x = eqb-false j x e in
            let there : placed from to j ≢ k = λ at. other (sym (placed_back from to j less) ∙ ap (placed from to) at) in
            set_changes_one t x (number_at to x) j other ∙ w.reached j less (omega arith)

  -- all the turns from a place on
  record Ends (t : Table) (sets : List ℕ) (k : ℕ) : Type 0 where
    each : accepted t (map (wanted to) sets) ≡ true
    way : Way (left t (map (wanted to) sets)) k

  along : (more k : ℕ) (t : Table) → k + more ≡ count → Way t k → Ends t (turns_from more k from to) count
  along zero k t e w = let last : k ≡ count = omega arith in rw (turns_none from to k) (record { each = refl; way = rw last at w })
  along (suc more) k t e w = by (differs from to (placed from to k)) refl (along more (suc k) t (omega arith)) (along more (suc k) (after k less t) (omega arith))
    where
      less : k < count
      less = omega arith

      by : (b : Bool) → differs from to (placed from to k) ≡ b → (Way t (suc k) → Ends t (turns_from more (suc k) from to) count)
          → (Way (after k less t) (suc k) → Ends (after k less t) (turns_from more (suc k) from to) count) → Ends t (turns_from (suc more) k from to) count
      by true d skip go =
          let here = step k less t w d in
          let later = go here.1 in
          rw (turns_more from to more k (placed from to k) refl d) (record { each = both _ _ here.0 later.each; way = later.way })
      by false d skip go = rw (turns_skip from to more k (placed from to k) refl d) (skip (pass k less t w d))

  restored : Restores from to
  unfolding order
  restored =
      let begun : Way from 0 = record { long = two.from_long; ok = two.from_allowed; reached = λ j less turn. absurd (omega arith); kept = λ j less least. refl } in
      let end = along count 0 from refl begun in
      record { each_accepted = end.each; wanted_stands = whole end.way }
    where
      whole : {t : Table} → Way t count → t ≡ to
      whole {t} w =
          let long : length t.numbers ≡ length to.numbers = w.long ∙ sym two.to_long in
          let same : t.numbers ≡ to.numbers = same_number_lists t.numbers to.numbers long
          (λ j less. let below : j < count = rw w.long at less in w.reached j below (placed_below from to j below)) in
          ap (λ (l : List ℕ). record { numbers = l }) same

pub list_restores : ListRestores
list_restores = restored
