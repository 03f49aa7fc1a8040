-- Numbers that fit one after the other, and the tables that they make. Assumes nothing.
use mathlib.Core.Path.{◌≡◌, refl, sym, ap, subst, ◌∙◌}
use mathlib.Core.Logic.{⊎_elim}
use mathlib.Core.Bool.{Bool, true, false, cond}
use mathlib.Core.List.{List, [], ◌∷◌, ◌++◌}
use Prim.Native.Nat.{ℕ, suc, ◌+◌, ◌≤◌, ◌<◌}
use native.Mathlib.Nat.{eq-or-lt_of_le, le_of_suc-le-suc}
use native.Mathlib.Omega.{arith}
use borrow.Author.Tests.{lt-ltb, le-ltb, ltb-true, ltb-false}
use lib.ListN.{length, get_or, length-append, get_or-append}
use lib.Seq.{get_or-append_seam}
use lib.Dec.{ltb}
use Rattle.laws.proofs.Lists.{up_to_all}
use Rattle.settings.specs.Columns.{count, partner_at, role_at}
use Rattle.settings.specs.Rules.{in_range, agrees, allowed_for, all_allowed}
use Rattle.tables.specs.Rules.{allowed, number_at}
use Rattle.tables.specs.declared.Table.{Table}
use Rattle.settings.proofs.Pairs.{agrees_self, agrees_opposite}
use Rattle.settings.proofs.Windows.{allowed_range, allowed_agrees, allowed_both}
use Rattle.tables.proofs.Tables.{allowed_at, range_at}
use Rattle.settings.proofs.Theorems.{rows_hold}
use Rattle.collect.specs.Collecting.{fits}

-- with a partner answered before, and with none
module _ (l : List ℕ) (k n : ℕ) where
  pub fits_partner : partner_at k < k → fits l k n ≡ allowed_for k n (get_or l (partner_at k) 0)
  unfolding fits
  fits_partner h = ap (λ (b : Bool). allowed_for k n (cond b (get_or l (partner_at k) 0) n)) (lt-ltb (partner_at k) k h)

  pub fits_alone : k ≤ partner_at k → fits l k n ≡ allowed_for k n n
  unfolding fits
  fits_alone h = ap (λ (b : Bool). allowed_for k n (cond b (get_or l (partner_at k) 0) n)) (le-ltb (partner_at k) k h)

-- what is from place k on does not matter to it
pub fits_front : (l r : List ℕ) (k n : ℕ) → k ≤ length l → fits (l ++ r) k n ≡ fits l k n
fits_front l r k n h = by (ltb (partner_at k) k) refl
  where
    by : (b : Bool) → ltb (partner_at k) k ≡ b → fits (l ++ r) k n ≡ fits l k n
    by true e =
        let before : partner_at k < k = ltb-true _ _ e in
        let there : partner_at k < length l = omega arith in
        fits_partner (l ++ r) k n before ∙ ap (allowed_for k n) (get_or-append l r 0 (partner_at k) there) ∙ sym (fits_partner l k n before)
    by false e = let later : k ≤ partner_at k = ltb-false _ _ e in fits_alone (l ++ r) k n later ∙ sym (fits_alone l k n later)

-- every number fits those before it
pub record AllFit (l : List ℕ) : Type 0 where
  pub at : (j : ℕ) → j < length l → fits l j (get_or l j 0) ≡ true

pub none_fit : AllFit []
none_fit = record { at = λ j h. absurd (omega arith) }

pub more_fit : (l : List ℕ) (n : ℕ) → AllFit l → fits l (length l) n ≡ true → AllFit (l ++ n ∷ [])
more_fit l n all e =
    record {
      at = λ j h.
          let most : j ≤ length l = le_of_suc-le-suc (rw (length-append l (n ∷ []), let one : length l + 1 ≡ suc (length l) = omega arith in one) at h) in
          fits_front l (n ∷ []) j (get_or (l ++ n ∷ []) j 0) most
          ∙ ⊎_elim
          (λ is. ap (fits l j) (ap (λ (i : ℕ). get_or (l ++ n ∷ []) i 0) is ∙ get_or-append_seam l n [] 0) ∙ ap (λ (i : ℕ). fits l i n) is ∙ e)
          (λ less. rw (get_or-append l (n ∷ []) 0 j less) (all.at j less))
          (eq-or-lt_of_le most);
    }

pub front_fit : (l r : List ℕ) → ((j : ℕ) → j < length l → fits (l ++ r) j (get_or (l ++ r) j 0) ≡ true) → AllFit l
front_fit l r all =
    record {
      at = λ j h.
          let most : j ≤ length l = omega arith in
          rw (sym (fits_front l r j (get_or l j 0) most), sym (get_or-append l r 0 j h)) (all j h);
    }

-- the numbers of an allowed table fit
pub table_fit : (t : Table) → length t.numbers ≡ count → allowed t ≡ true → AllFit t.numbers
table_fit t long ok =
    record {
      at = λ j h. by j (rw long at h) (ltb (partner_at j) j) refl;
    }
  where
    by : (j : ℕ) → j < count → (b : Bool) → ltb (partner_at j) j ≡ b → fits t.numbers j (number_at t j) ≡ true
    by j h true e = fits_partner t.numbers j (number_at t j) (ltb-true _ _ e) ∙ allowed_at t ok j h
    by j h false e =
        fits_alone t.numbers j (number_at t j) (ltb-false _ _ e)
        ∙ allowed_both j (number_at t j) (number_at t j) (range_at t ok j h) (agrees_self (role_at j) (number_at t j))

-- and numbers that fit, one for each setting, are an allowed table
module _ (l : List ℕ) (long : length l ≡ count) (all : AllFit l) where
  fit_at : (k : ℕ) → k < count → fits l k (get_or l k 0) ≡ true
  fit_at k h = all.at k (rw long h)

  fit_range : (k : ℕ) → k < count → in_range k (get_or l k 0) ≡ true
  fit_range k h = by (ltb (partner_at k) k) refl
    where
      by : (b : Bool) → ltb (partner_at k) k ≡ b → in_range k (get_or l k 0) ≡ true
      by true e = allowed_range k (get_or l k 0) _ (sym (fits_partner l k (get_or l k 0) (ltb-true _ _ e)) ∙ fit_at k h)
      by false e = allowed_range k (get_or l k 0) _ (sym (fits_alone l k (get_or l k 0) (ltb-false _ _ e)) ∙ fit_at k h)

  -- the later of a pair agrees with the earlier
  fit_later : (k : ℕ) → k < count → partner_at k < k → agrees (role_at k) (get_or l k 0) (get_or l (partner_at k) 0) ≡ true
  fit_later k h less = allowed_agrees k (get_or l k 0) _ (sym (fits_partner l k (get_or l k 0) less) ∙ fit_at k h)

  fit_agrees : (k : ℕ) → k < count → agrees (role_at k) (get_or l k 0) (get_or l (partner_at k) 0) ≡ true
  fit_agrees k h = by (ltb (partner_at k) k) refl
    where
      other : k < partner_at k → agrees (role_at k) (get_or l k 0) (get_or l (partner_at k) 0) ≡ true
      other less =
          let row = rows_hold k h in
          let below : partner_at (partner_at k) < partner_at k = rw row.partner_back less in
          let there : agrees (role_at (partner_at k)) (get_or l (partner_at k) 0) (get_or l (partner_at (partner_at k)) 0) ≡ true =
          fit_later (partner_at k) row.partner_is below in
          sym (agrees_opposite (role_at k) (get_or l k 0) (get_or l (partner_at k) 0)) ∙ rw (row.partner_back, row.parts_opposite) at there

      by : (b : Bool) → ltb (partner_at k) k ≡ b → agrees (role_at k) (get_or l k 0) (get_or l (partner_at k) 0) ≡ true
      by true e = fit_later k h (ltb-true _ _ e)
      by false e =
          ⊎_elim (λ is. subst (λ (p : ℕ). agrees (role_at k) (get_or l k 0) (get_or l p 0) ≡ true) is (agrees_self (role_at k) (get_or l k 0))) other (eq-or-lt_of_le (ltb-false _ _ e))

  pub fit_table : allowed (record { numbers = l }) ≡ true
  unfolding allowed all_allowed
  fit_table = up_to_all count (λ k. allowed_for k (get_or l k 0) (get_or l (partner_at k) 0)) (λ k h. allowed_both k _ _ (fit_range k h) (fit_agrees k h))
