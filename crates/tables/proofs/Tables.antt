-- Laws of an allowed table: what it holds, and what a Set makes of it. Assumes nothing.
use mathlib.Core.Path.{◌≡◌, refl, sym, ap, ◌∙◌}
use mathlib.Core.Logic.{◌≢◌}
use mathlib.Core.Bool.{Bool, true, false, cond, not, ◌&&◌, ◌||◌, false≢true}
use mathlib.Core.List.{List}
use mathlib.Core.Option.{none, some}
use Prim.Native.Nat.{ℕ, ◌≤◌, ◌<◌}
use native.Mathlib.Omega.{arith}
use borrow.Author.Tests.{lt-ltb, le-ltb, ltb-true, ltb-false, eqb-true, eqb-false}
use lib.ListN.{length, length-set}
use lib.Seq.{set-get_or, get_or-set_same, get_or-set_other}
use lib.Dec.{ltb, eqb}
use Rattle.laws.proofs.Bools.{or_second}
use Rattle.laws.proofs.Lists.{up_to_at, up_to_all}
use Rattle.settings.specs.Columns.{count, partner_at, role_at}
use Rattle.settings.specs.Rules.{in_range, agrees, allowed_for, all_allowed, nearest_of}
use Rattle.paper.specs.Numbers.{not_allowed, number_not_allowed}
use Rattle.settings.specs.Calls.{placing, allowing, partner_fits, nearing}
use Rattle.settings.specs.declared.Setting.{Setting}
use Rattle.std.specs.Prelude.{Some, Ok, Err}
use Rattle.settings.proofs.Rows.{partner_below, partner_back, place_has}
use Rattle.settings.proofs.Theorems.{nearest_is_answered}
use Rattle.settings.proofs.Windows.{nearest_found, allowed_range, allowed_agrees, allowed_both, alone_any}
use Rattle.settings.proofs.Pairs.{partner_agrees, agrees_exchange}
use Rattle.tables.specs.Rules.{allowed, number_at, partner_number, changed}
use Rattle.tables.specs.Calls.{set_to}
use Rattle.tables.specs.Laws.{refusal_of, SetGivenWhen, SetKeepsAllowed, RefusedKeeps, SetKeepsCount, SetChangesOne, SetStores, EqualIsAccepted, RefusedNamesNearest, PairsHaveAnOrder}
use Rattle.tables.specs.declared.Table.{Table}
use Rattle.tables.specs.Answers.{denied}
use Rattle.tables.specs.declared.Change.{Change}

-- what an allowed table holds
module _ (t : Table) (ok : allowed t ≡ true) (k : ℕ) (h : k < count) where
  pub allowed_at : allowed_for k (number_at t k) (partner_number t k) ≡ true
  unfolding allowed all_allowed
  allowed_at = up_to_at count (λ i. allowed_for i (number_at t i) (partner_number t i)) ok k h

  pub range_at : in_range k (number_at t k) ≡ true
  range_at = allowed_range k (number_at t k) (partner_number t k) allowed_at

  pub agrees_at : agrees (role_at k) (number_at t k) (partner_number t k) ≡ true
  agrees_at = allowed_agrees k (number_at t k) (partner_number t k) allowed_at

pub partner_fits_lem : (t : Table) → allowed t ≡ true → (k : ℕ) → k < count → partner_fits k (partner_number t k) ≡ true
unfolding partner_fits
partner_fits_lem t ok k h = or_second (eqb (partner_at k) k) _ (range_at t ok (partner_at k) (partner_below k h))

-- which refusal a Set gives
pub set_given : SetGivenWhen
unfolding set_to
set_given t k n = by (allowed t) (ltb k count) (allowed_for k n (partner_number t k)) _ _ _
  where
    stray : Change
    stray = record { answer = Err (denied not_allowed 0); table = t }

    by : (fit in_table ok : Bool) (nearest : ℕ) (stored kept : Table)
        → let given : Change = cond (fit && in_table) (cond ok (record { answer = Ok tt; table = stored }) (record { answer = Err (denied number_not_allowed nearest); table = kept })) stray in
        (refusal_of given.answer ≡ cond (not fit || not in_table) (some 12) (cond (not ok) (some 10) none))
        × ((not fit || not in_table) ≡ true → given ≡ stray)
    by false in_table ok nearest stored kept = (refl, λ e. refl)
    by true false ok nearest stored kept = (refl, λ e. refl)
    by true true false nearest stored kept = (refl, λ e. absurd (false≢true e))
    by true true true nearest stored kept = (refl, λ e. absurd (false≢true e))

-- a Set, case by case
pub set_stray : (t : Table) (k n : ℕ) → allowed t ≡ false → set_to t k n ≡ record { answer = Err (denied not_allowed 0); table = t }
unfolding set_to
set_stray t k n e = rw e

module _ (t : Table) (k n : ℕ) (ok : allowed t ≡ true) where
  pub set_past : count ≤ k → set_to t k n ≡ record { answer = Err (denied not_allowed 0); table = t }
  unfolding set_to
  set_past h = rw (ok, le-ltb k count h)

  pub set_refused : k < count → allowed_for k n (partner_number t k) ≡ false
      → set_to t k n ≡ record { answer = Err (denied number_not_allowed (nearest_of k n (partner_number t k))); table = t }
  unfolding set_to
  set_refused h e =
      rw (ok, lt-ltb k count h, e)

  pub set_accepted : k < count → allowed_for k n (partner_number t k) ≡ true → set_to t k n ≡ record { answer = Ok tt; table = changed t k n }
  unfolding set_to
  set_accepted h e = rw (ok, lt-ltb k count h, e)

-- a number that is allowed leaves the table allowed
module _ (t : Table) (k n : ℕ) (ok : allowed t ≡ true) (h : k < count) (long : length t.numbers ≡ count) (fits : allowed_for k n (partner_number t k) ≡ true) where
  here : number_at (changed t k n) k ≡ n
  here = get_or-set_same t.numbers k n 0 (omega arith)

  other : (j : ℕ) → j ≢ k → number_at (changed t k n) j ≡ number_at t j
  other j e = get_or-set_other t.numbers k j n 0 e

  -- at the setting itself: its partner holds what it held, unless it is its own
  at_own : allowed_for k n (number_at (changed t k n) (partner_at k)) ≡ true
  at_own = by (eqb (partner_at k) k) refl
    where
      by : (s : Bool) → eqb (partner_at k) k ≡ s → allowed_for k n (number_at (changed t k n) (partner_at k)) ≡ true
      by true e = alone_any k n (partner_number t k) _ h (eqb-true (partner_at k) k e) fits
      by false e = rw (other (partner_at k) (eqb-false (partner_at k) k e)) fits

  -- at another: its partner holds what it held, unless that is the setting
  at_other : (j : ℕ) → j < count → j ≢ k → allowed_for j (number_at t j) (number_at (changed t k n) (partner_at j)) ≡ true
  at_other j below e = by (eqb (partner_at j) k) refl
    where
      by : (s : Bool) → eqb (partner_at j) k ≡ s → allowed_for j (number_at t j) (number_at (changed t k n) (partner_at j)) ≡ true
      by true p =
          let is : partner_at j ≡ k = eqb-true (partner_at j) k p in
          let back : partner_at k ≡ j = ap partner_at (sym is) ∙ partner_back j below in
          let agreed : agrees (role_at k) n (number_at t j) ≡ true = rw back at (allowed_agrees k n (partner_number t k) fits) in
          let seen : agrees (role_at j) (number_at t j) n ≡ true = rw back at (partner_agrees k h n (number_at t j) agreed) in
          rw (is, here) (allowed_both j (number_at t j) n (range_at t ok j below) seen)
      by false p = rw (other (partner_at j) (eqb-false (partner_at j) k p)) (allowed_at t ok j below)

  pub changed_allowed : allowed (changed t k n) ≡ true
  unfolding allowed all_allowed
  changed_allowed = up_to_all count _ (λ j below. by j below (eqb j k) refl)
    where
      by : (j : ℕ) → j < count → (s : Bool) → eqb j k ≡ s → allowed_for j (number_at (changed t k n) j) (partner_number (changed t k n) j) ≡ true
      by j below true e = let is : j ≡ k = eqb-true j k e in rw (is, here) at_own
      by j below false e = let apart : j ≢ k = eqb-false j k e in rw (other j apart) (at_other j below apart)

-- so a Set keeps a table allowed and changes no other setting
pub set_allowed : SetKeepsAllowed
set_allowed t k n long ok = by (ltb k count) (allowed_for k n (partner_number t k)) refl refl
  where
    by : (s r : Bool) → ltb k count ≡ s → allowed_for k n (partner_number t k) ≡ r → allowed (set_to t k n).table ≡ true
    by true true p q = rw (set_accepted t k n ok (ltb-true k count p) q) (changed_allowed t k n ok (ltb-true k count p) long q)
    by true false p q = rw (set_refused t k n ok (ltb-true k count p) q) ok
    by false r p q = rw (set_past t k n ok (ltb-false k count p)) ok

pub refused_keeps : RefusedKeeps
refused_keeps t k n why = by (allowed t) (ltb k count) (allowed_for k n (partner_number t k)) refl refl refl
  where
    by : (o s r : Bool) → allowed t ≡ o → ltb k count ≡ s → allowed_for k n (partner_number t k) ≡ r
        → (set_to t k n).answer ≡ Err why → (set_to t k n).table ≡ t
    by false s r o p q e = rw (set_stray t k n o)
    by true true true o p q e =
        let is : Ok tt ≡ Err why = rw (set_accepted t k n o (ltb-true k count p) q) at e in cc
    by true true false o p q e = rw (set_refused t k n o (ltb-true k count p) q)
    by true false r o p q e = rw (set_past t k n o (ltb-false k count p))

pub set_count : SetKeepsCount
set_count t k n = by (allowed t) (ltb k count) (allowed_for k n (partner_number t k)) refl refl refl
  where
    by : (o s r : Bool) → allowed t ≡ o → ltb k count ≡ s → allowed_for k n (partner_number t k) ≡ r → length (set_to t k n).table.numbers ≡ length t.numbers
    by false s r o p q = rw (set_stray t k n o)
    by true true true o p q = rw (set_accepted t k n o (ltb-true k count p) q) (length-set t.numbers k n)
    by true true false o p q = rw (set_refused t k n o (ltb-true k count p) q)
    by true false r o p q = rw (set_past t k n o (ltb-false k count p))

pub set_one : SetChangesOne
set_one t k n j apart = by (allowed t) (ltb k count) (allowed_for k n (partner_number t k)) refl refl refl
  where
    by : (o s r : Bool) → allowed t ≡ o → ltb k count ≡ s → allowed_for k n (partner_number t k) ≡ r → number_at (set_to t k n).table j ≡ number_at t j
    by false s r o p q = rw (set_stray t k n o)
    by true true true o p q = rw (set_accepted t k n o (ltb-true k count p) q) (get_or-set_other t.numbers k j n 0 apart)
    by true true false o p q = rw (set_refused t k n o (ltb-true k count p) q)
    by true false r o p q = rw (set_past t k n o (ltb-false k count p))

-- a number that is allowed is stored, and one that is not is answered with the nearest
pub set_stores : SetStores
set_stores t k n long ok h fits =
    rw (set_accepted t k n ok h fits) (refl, here t k n ok h long fits)

pub equal_accepted : EqualIsAccepted
equal_accepted t k ok h =
    set_accepted t k (number_at t k) ok h (allowed_at t ok k h)
    ∙ ap (λ (l : List ℕ). record { answer = Ok tt; table = record { numbers = l } }) (set-get_or t.numbers k 0)

pub refused_names : RefusedNamesNearest
refused_names t k n ok h small e =
    (nearest_of k n (partner_number t k), set_refused t k n ok h e, nearest_found k n (partner_number t k) h (partner_fits_lem t ok k h) small)

-- between two allowed tables
pub pairs_order : PairsHaveAnOrder
pairs_order from to ok ok' k h =
    record {
      else_partner = λ e. partner_agrees k h (number_at from k) (number_at to (partner_at k))
          (agrees_exchange (role_at k) (number_at from k) (partner_number from k) (number_at to k) (partner_number to k) (agrees_at from ok k h) (agrees_at to ok' k h) e);
      then_setting = agrees_at to ok' k h;
      then_partner = partner_agrees k h (number_at to k) (partner_number to k) (agrees_at to ok' k h);
    }

-- a setting of the table, as it is found
module _ (k : ℕ) (s : Setting) (is : placing k ≡ Some s) where
  pub setting_below : k < count
  setting_below = (place_has k s is).0

  setting_partner : partner_at k ≡ s.partner
  setting_partner = ap (λ (x : Setting). x.partner) (place_has k s is).1

  pub partner_in : s.partner < count
  partner_in = rw (sym setting_partner) (partner_below k setting_below)

  -- what is allowed for it in a table, and the nearest number that is
  pub allows_is : (t : Table) (n : ℕ) → allowing k n (number_at t s.partner) ≡ allowed_for k n (partner_number t k)
  unfolding allowing
  allows_is t n = rw (lt-ltb k count setting_below, setting_partner)

  pub nearest_is : (t : Table) → allowed t ≡ true → (wished : ℕ) → nearing s.id wished (number_at t s.partner) ≡ Ok (nearest_of k wished (partner_number t k))
  nearest_is t ok wished =
      rw (sym (place_has k s is).1) (nearest_is_answered k wished (partner_number t k) setting_below (partner_fits_lem t ok k setting_below))
