-- The rules of the table's columns: each is one computed test, carried to every entry. Assumes nothing.
use mathlib.Core.Path.{◌≡◌, ◌∙◌, refl, sym, ap}
use mathlib.Core.Bool.{Bool, true, false, cond}
use mathlib.Core.List.{List, [], ◌∷◌}
use Prim.Native.Nat.{ℕ, zero, suc, ◌-◌, ◌^◌, ◌≤◌, ◌<◌}
use native.Mathlib.Omega.{arith}
use native.Mathlib.Nat.{le_of_suc-le-suc}
use borrow.Author.Tests.{lt-ltb, le-ltb, ltb-true, ltb-false, leb-true, eqb-true}
use Rattle.std.specs.Prelude.{Some, None, unwrap_or}
use Rattle.std.specs.List.{position}
use Rattle.std.proofs.lemmas.List.Recursion.{is_position_or_len}
use Rattle.std.proofs.lemmas.Option.{cond_some, none-some}
use Rattle.laws.specs.Lists.{before}
use lib.ListN.{length, get_or}
use lib.Dec.{ltb, leb, eqb}
use Rattle.laws.proofs.Lists.{up_to_at, before_first}
use Rattle.settings.specs.Columns.{count, ids, id_at, widths, width_at, low_at, high_at, factory_at, partner_ids, partner_at, place_of, role_at}
use Rattle.settings.specs.Rules.{in_range, agrees, low_agrees, high_agrees}
use Rattle.settings.specs.Calls.{setting_at, placing, finding}
use Rattle.settings.specs.Laws.{Row, PlaceIsFound, FindIsFound, FoundHasId}
use Rattle.settings.specs.declared.Setting.{Setting}
use Rattle.settings.proofs.Pairs.{parts_opposite, alone_none, none_alone}

module _ (k : ℕ) (h : k < count) where
  pub partner_below : partner_at k < count
  unfolding partner_at place_of
  partner_below = ltb-true _ _ (up_to_at count (λ i. ltb (partner_at i) count) refl k h)

  pub partner_back : partner_at (partner_at k) ≡ k
  unfolding partner_at place_of
  partner_back = eqb-true _ _ (up_to_at count (λ i. eqb (partner_at (partner_at i)) i) refl k h)

  pub low_high : low_at k ≤ high_at k
  low_high = leb-true _ _ (up_to_at count (λ i. leb (low_at i) (high_at i)) refl k h)

  pub high_small : high_at k < 65536
  high_small = ltb-true _ _ (up_to_at count (λ i. ltb (high_at i) 65536) refl k h)

  pub row_holds : Row k
  unfolding in_range agrees low_agrees high_agrees partner_at place_of
  row_holds =
      record {
        id_holds = ltb-true _ _ (up_to_at count (λ i. ltb (id_at i) (256 ^ 2)) refl k h);
        ascends = λ more. ltb-true _ _ (up_to_at (count - 1) (λ i. ltb (id_at i) (id_at (suc i))) refl k (le_of_suc-le-suc more));
        partner_is = partner_below;
        partner_back = partner_back;
        partner_near = (leb-true _ _ (up_to_at count (λ i. leb (partner_at i) (suc i)) refl k h), leb-true _ _ (up_to_at count (λ i. leb i (suc (partner_at i))) refl k h));
        parts_opposite = parts_opposite k h;
        alone_none = (alone_none k h, none_alone k h);
        range_some = low_high;
        width_some = leb-true _ _ (up_to_at count (λ i. leb 1 (width_at i)) refl k h);
        width_most = leb-true _ _ (up_to_at count (λ i. leb (width_at i) 2) refl k h);
        width_holds = ltb-true _ _ (up_to_at count (λ i. ltb (high_at i) (256 ^ width_at i)) refl k h);
        factory_in = up_to_at count (λ i. in_range i (factory_at i)) refl k h;
        factory_agrees = up_to_at count (λ i. agrees (role_at i) (factory_at i) (factory_at (partner_at i))) refl k h;
      }

-- a partner with the larger id is at the next place, one with the smaller id at the place before
abbrev pub partner_id : ℕ → ℕ
partner_id k = get_or partner_ids k 0

abbrev by_id : ℕ → Bool
by_id k = cond (ltb (id_at k) (partner_id k)) (eqb (partner_at k) (suc k)) (cond (ltb (partner_id k) (id_at k)) (eqb (suc (partner_at k)) k) (eqb (partner_at k) k))

module _ (k : ℕ) (h : k < count) where
  by_id_lem : by_id k ≡ true
  unfolding partner_at place_of
  by_id_lem = up_to_at count by_id refl k h

  pub partner_after : id_at k < partner_id k → partner_at k ≡ suc k
  partner_after less = eqb-true _ _ (rw (lt-ltb _ _ less) at by_id_lem)

  pub partner_before : partner_id k < id_at k → suc (partner_at k) ≡ k
  partner_before less = eqb-true _ _ (rw (le-ltb (id_at k) (partner_id k) (omega arith), lt-ltb _ _ less) at by_id_lem)

  pub partner_self : partner_id k ≡ id_at k → partner_at k ≡ k
  partner_self same = eqb-true _ _ (rw (le-ltb (id_at k) (partner_id k) (omega arith), le-ltb (partner_id k) (id_at k) (omega arith)) at by_id_lem)

-- past the table a column has nothing
pub get_d_past : (l : List ℕ) (k d : ℕ) → length l ≤ k → get_or l k d ≡ d
get_d_past [] k d h = refl
get_d_past (x ∷ l) zero d h = absurd (omega arith)
get_d_past (x ∷ l) (suc k) d h = get_d_past l k d (le_of_suc-le-suc h)

pub setting_past : (k : ℕ) → unwrap_or (placing k) (record { index = k; id = 0; width = 0; partner = count }) ≡ setting_at k
unfolding placing partner_at place_of
setting_past k = by (ltb k count) refl
  where
    by : (b : Bool) → ltb k count ≡ b → unwrap_or (cond b (Some (setting_at k)) None) (record { index = k; id = 0; width = 0; partner = count }) ≡ setting_at k
    by true h = refl
    by false h = let past = ltb-false _ _ h in rw (get_d_past ids k 0 past, get_d_past widths k 0 past, get_d_past partner_ids k 0 past)

-- the place of an id, as it is looked for
module _ (id : ℕ) where
  looked_for : position (λ x. eqb x id) ids ≡ cond (ltb (place_of id) count) (Some (place_of id)) None
  unfolding place_of
  looked_for =
      ap (λ (n : ℕ). cond (ltb n count) (Some n) None)
      (sym (is_position_or_len (before (λ x. eqb x id)) (λ x. eqb x id) refl (λ x xs. ap (λ (n : ℕ). cond (eqb x id) 0 n) (omega arith)) ids))

  pub looked_none : None ≡ position (λ x. eqb x id) ids → count ≤ place_of id
  looked_none none = by (ltb (place_of id) count) refl (none ∙ looked_for)
    where
      by : (b : Bool) → ltb (place_of id) count ≡ b → None ≡ cond b (Some (place_of id)) None → count ≤ place_of id
      by true h e = absurd (none-some (place_of id) e)
      by false h e = ltb-false _ _ h

  pub looked_some : (k : ℕ) → Some k ≡ position (λ x. eqb x id) ids → k ≡ place_of id
  looked_some k some = sym (cond_some (ltb (place_of id) count) (place_of id) k (sym (some ∙ looked_for))).1

-- a look-up finds each setting, and only by its id
pub placed : (k : ℕ) → k < count → place_of (id_at k) ≡ k
unfolding place_of
placed k h = eqb-true _ _ (up_to_at count (λ i. eqb (place_of (id_at i)) i) refl k h)

placed_id : (id : ℕ) → place_of id < count → id_at (place_of id) ≡ id
unfolding place_of
placed_id id h = eqb-true _ _ ((before_first (λ x. eqb x id) ids).some h)

pub place_found : PlaceIsFound
unfolding placing
place_found k h = rw (lt-ltb k count h)

pub find_found : FindIsFound
unfolding finding
find_found k h = rw (placed k h) (place_found k h)

-- what is found at a place is its setting, and nothing is found past the table
pub place_has : (k : ℕ) (s : Setting) → placing k ≡ Some s → (k < count) × (setting_at k ≡ s)
unfolding placing
place_has k s e = let found = cond_some (ltb k count) (setting_at k) s e in (ltb-true _ _ found.0, found.1)

pub place_past : (k : ℕ) → placing k ≡ None → count ≤ k
unfolding placing
place_past k = by (ltb k count) refl
  where
    by : (b : Bool) → ltb k count ≡ b → cond b (Some (setting_at k)) None ≡ None → count ≤ k
    by true h e = absurd (none-some (setting_at k) (sym e))
    by false h e = ltb-false _ _ h

pub found_id : FoundHasId
unfolding finding
found_id id s e =
    let here = place_has (place_of id) s e in
    rw (sym here.1) (here.0, refl, placed_id id here.0)
