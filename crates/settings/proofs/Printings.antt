-- What is allowed, and the refusals of the nearest number, by the ids, ranges and pairs that are printed. Assumes nothing.
use mathlib.Core.Path.{◌≡◌, refl, sym, ap, ap₂, ◌∙◌}
use mathlib.Core.Bool.{Bool, true, false, cond, not, ◌&&◌, false≢true}
use mathlib.Core.List.{List, [], ◌∷◌, ◌++◌, map}
use mathlib.Core.Option.{Option, none, some}
use Prim.Native.Nat.{ℕ, suc, ◌<◌}
use native.Mathlib.Omega.{arith}
use borrow.Author.Tests.{eq-eqb, ne_eqb, eqb-true, eqb-false, lt-ltb, le-ltb, ltb-true}
use lib.ListN.{length, get_or, drop}
use lib.Dec.{ltb, eqb}
use Rattle.laws.specs.Lists.{before}
use Rattle.laws.proofs.Bools.{same_test}
use Rattle.laws.proofs.Lists.{up_to_at, up_to_all}
use Rattle.settings.specs.Columns.{count, ids, id_at, widths, width_at, partner_ids, place_of, partner_at, role_at}
use Rattle.settings.specs.Printed.{lines, low_pairs, high_pairs, among, printed_ids, within, width_in, other_in, partner_within, printed_agrees}
use Rattle.settings.specs.Rules.{in_range, low_agrees, high_agrees, agrees, allowed_for, all_allowed, nearest_of}
use Rattle.settings.specs.Calls.{placing, ranging, allowing, partner_fits, nearing}
use Rattle.settings.specs.Laws.{refusal_of, NearestGivenWhen, AllowedIsPrinted, PrintedIsTold, WidthIsPrinted, PartnerIsPrinted, PastIsNothing, AllAllowedWhen}
use Rattle.std.specs.Prelude.{Ok, Err}
use Rattle.paper.specs.Numbers.{not_allowed, unknown_id}
use Rattle.settings.proofs.Rows.{placed, get_d_past}

-- two functions with the same answers, id by id
answers_same : {A : Type 0} (f g : ℕ → A) (l : List ℕ) → map f l ≡ map g l → (id : ℕ) → among id l ≡ true → f id ≡ g id
answers_same f g [] e id h = absurd (false≢true h)
answers_same f g (x ∷ l) e id h = by (eqb id x) refl (answers_same f g l (ap (λ m. drop 1 m) e) id)
  where
    by : (t : Bool) → eqb id x ≡ t → (among id l ≡ true → f id ≡ g id) → f id ≡ g id
    by true q later = rw (eqb-true id x q) (ap (λ m. get_or m 0 (f x)) e)
    by false q later = later (rw q at h)

same_ids : (id : ℕ) → among id ids ≡ among id printed_ids
same_ids id =
    same_test (among id ids) (among id printed_ids)
    (answers_same (λ x. among x printed_ids) (λ x. true) ids refl id) (answers_same (λ x. among x ids) (λ x. true) printed_ids refl id)

-- an id has its place in the table exactly when it is among the table's
ltb_suc : (a b : ℕ) → ltb (suc a) (suc b) ≡ ltb a b
ltb_suc a b =
    same_test (ltb (suc a) (suc b)) (ltb a b)
    (λ e. let less : suc a < suc b = ltb-true (suc a) (suc b) e in lt-ltb a b (omega arith))
    (λ e. let less : a < b = ltb-true a b e in lt-ltb (suc a) (suc b) (omega arith))

before_among : (id : ℕ) (l : List ℕ) → ltb (before (λ x. eqb x id) l) (length l) ≡ among id l
before_among id [] = refl
before_among id (x ∷ l) = by (eqb id x) refl (before_among id l)
  where
    by : (t : Bool) → eqb id x ≡ t → ltb (before (λ y. eqb y id) l) (length l) ≡ among id l
        → ltb (before (λ y. eqb y id) (x ∷ l)) (suc (length l)) ≡ among id (x ∷ l)
    by true q later = rw (q, eq-eqb x id (sym (eqb-true id x q))) (lt-ltb 0 (suc (length l)) (omega arith))
    by false q later = rw (q, ne_eqb x id (λ is. eqb-false id x q (sym is))) (ltb_suc (before (λ y. eqb y id) l) (length l) ∙ later)

-- what the table makes of an id is what is printed for it, id by id; so also at each place
range_by_id : (id : ℕ) → among id ids ≡ true → (n : ℕ) → in_range (place_of id) n ≡ within lines id n
unfolding in_range place_of
range_by_id id h n = ap (λ (f : ℕ → Bool). f n) (answers_same (λ x. in_range (place_of x)) (within lines) ids refl id h)

agrees_by_id : (id : ℕ) → among id ids ≡ true → (n partner : ℕ) → agrees (role_at (place_of id)) n partner ≡ printed_agrees id n partner
unfolding agrees low_agrees high_agrees place_of
agrees_by_id id h n partner =
    ap (λ (f : ℕ → ℕ → Bool). f n partner) (answers_same (λ x. agrees (role_at (place_of x))) printed_agrees ids refl id h)

module _ (k : ℕ) (h : k < count) where
  id_among : among (id_at k) ids ≡ true
  id_among = up_to_at count (λ i. among (id_at i) ids) refl k h

  range_printed : (n : ℕ) → in_range k n ≡ within lines (id_at k) n
  range_printed n = ap (λ (i : ℕ). in_range i n) (sym (placed k h)) ∙ range_by_id (id_at k) id_among n

  agrees_printed : (n partner : ℕ) → agrees (role_at k) n partner ≡ printed_agrees (id_at k) n partner
  agrees_printed n partner = ap (λ (i : ℕ). agrees (role_at i) n partner) (sym (placed k h)) ∙ agrees_by_id (id_at k) id_among n partner

pub allowed_printed : AllowedIsPrinted
unfolding allowed_for
allowed_printed k n partner h = ap₂ ◌&&◌ (range_printed k h n) (agrees_printed k h n partner)

pub printed_told : PrintedIsTold
unfolding ranging allowing
printed_told k n partner h =
    record { range_is = rw (lt-ltb k count h) (range_printed k h n); allowed_is = rw (lt-ltb k count h) (allowed_printed k n partner h) }

pub width_printed : WidthIsPrinted
unfolding place_of
width_printed k h =
    answers_same (λ x. width_in lines x) (λ x. some (width_at (place_of x))) ids refl (id_at k) (id_among k h)
    ∙ ap (λ (i : ℕ). some (width_at i)) (placed k h)

pub partner_printed : PartnerIsPrinted
unfolding partner_at place_of
partner_printed k h =
    answers_same (other_in (low_pairs ++ high_pairs)) (λ x. other (place_of x)) ids refl (id_at k) (id_among k h) ∙ ap other (placed k h)
  where
    other : ℕ → Option ℕ
    other i = cond (eqb (partner_at i) i) none (some (id_at (partner_at i)))

pub past_nothing : PastIsNothing
unfolding placing ranging allowing partner_at place_of
past_nothing k n partner h =
    let past : ltb k count ≡ false = le-ltb k count h in
    (rw past, rw (get_d_past ids k 0 h, get_d_past widths k 0 h, get_d_past partner_ids k 0 h), rw past, rw past)

pub all_printed : AllAllowedWhen
unfolding all_allowed
all_printed numbers = (
  λ e k h. sym (allowed_printed k (get_or numbers k 0) (get_or numbers (partner_at k) 0) h)
      ∙ up_to_at count (λ i. allowed_for i (get_or numbers i 0) (get_or numbers (partner_at i) 0)) e k h,
  λ all. up_to_all count _ (λ k h. allowed_printed k (get_or numbers k 0) (get_or numbers (partner_at k) 0) h ∙ all k h),
)

fits_printed : (id : ℕ) → among id ids ≡ true → (n : ℕ) → partner_fits (place_of id) n ≡ partner_within id n
unfolding partner_fits in_range partner_at place_of
fits_printed id h n =
    ap (λ (f : ℕ → Bool). f n) (answers_same (λ x. partner_fits (place_of x)) partner_within ids refl id h)

pub nearest_given : NearestGivenWhen
unfolding nearing
nearest_given id wished partner = by (among id ids) refl
  where
    found : ltb (place_of id) count ≡ among id ids
    found = unfold place_of in before_among id ids

    told : (fits : Bool) → refusal_of (cond fits (Ok (nearest_of (place_of id) wished partner)) (Err not_allowed)) ≡ cond (not fits) (some 12) none
    told true = refl
    told false = refl

    by : (t : Bool) → among id ids ≡ t
        → refusal_of (cond (ltb (place_of id) count) (cond (partner_fits (place_of id) partner) (Ok (nearest_of (place_of id) wished partner)) (Err not_allowed)) (Err unknown_id))
        ≡ cond (not (among id printed_ids)) (some 7) (cond (not (partner_within id partner)) (some 12) none)
    by true e = rw (found, sym (same_ids id), e, fits_printed id e partner) (told (partner_within id partner))
    by false e = rw (found, sym (same_ids id), e)
