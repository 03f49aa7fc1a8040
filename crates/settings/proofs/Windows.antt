-- What is allowed for a setting is a window, and is never empty; so the nearest allowed number exists. Assumes nothing.
use mathlib.Core.Path.{◌≡◌, refl, sym, ap, ◌∙◌}
use mathlib.Core.Logic.{⊎_elim}
use mathlib.Core.Bool.{Bool, true, false, ◌&&◌}
use mathlib.Core.List.{List}
use Prim.Native.Nat.{ℕ, ◌^◌, ◌≤◌, ◌<◌, zero-le}
use native.Mathlib.Omega.{arith}
use borrow.Author.Tests.{lt-ltb, eqb-true}
use lib.ListN.{get_or}
use lib.Dec.{eqb}
use Rattle.laws.proofs.Bools.{and_left, and_right, both, or_cases}
use Rattle.settings.specs.Columns.{count, width_at, low_at, high_at, zero_at, zeros, lows, highs, partner_at, role_at}
use Rattle.settings.specs.Rules.{in_window, in_range, agrees, allowed_for, Nearest, nearest_of}
use Rattle.settings.specs.Calls.{partner_fits, nearing}
use Rattle.settings.specs.Laws.{NearestIsAnswered, RangeHasRoom, AllowedHasRoom}
use Rattle.settings.specs.declared.columns.Role.{Role}
use Rattle.settings.proofs.Nearness.{window_row, window_cases, seek_nearest}
use Rattle.settings.proofs.Rows.{low_high, high_small, row_holds, placed}
use Rattle.settings.proofs.Pairs.{agrees_alone, agrees_self, alone_none, same_range}

-- a setting's own range, by columns that are the table's
pub window_at : {zs : List Bool} {ls hs : List ℕ} → zs ≡ zeros → ls ≡ lows → hs ≡ highs
    → (k n : ℕ) → in_window (get_or zs k false) (get_or ls k 0) (get_or hs k 0) n ≡ in_range k n
unfolding in_range
window_at z l h k n = rw (z, l, h)

-- what is allowed, by the setting's part in its pair
allowed_by : (k partner n : ℕ) (r : Role) (test : Bool) → role_at k ≡ r → agrees r n partner ≡ test → (in_window (zero_at k) (low_at k) (high_at k) n && test) ≡ allowed_for k n partner
unfolding allowed_for in_range
allowed_by k partner n r test is rule =
    ap (λ (b : Bool). in_window (zero_at k) (low_at k) (high_at k) n && b) (sym rule ∙ ap (λ (x : Role). agrees x n partner) (sym is))

-- "in its own range and agrees with the partner", apart and together
pub allowed_range : (k n p : ℕ) → allowed_for k n p ≡ true → in_range k n ≡ true
unfolding allowed_for
allowed_range k n p e = and_left _ (agrees (role_at k) n p) e

pub allowed_agrees : (k n p : ℕ) → allowed_for k n p ≡ true → agrees (role_at k) n p ≡ true
unfolding allowed_for
allowed_agrees k n p e = and_right (in_range k n) _ e

pub allowed_both : (k n p : ℕ) → in_range k n ≡ true → agrees (role_at k) n p ≡ true → allowed_for k n p ≡ true
unfolding allowed_for
allowed_both k n p a b = both _ _ a b

-- without a partner any number serves as the partner's
pub alone_any : (k n p q : ℕ) → k < count → partner_at k ≡ k → allowed_for k n p ≡ true → allowed_for k n q ≡ true
alone_any k n p q h e ok = allowed_both k n q (allowed_range k n p ok) (ap (λ (r : Role). agrees r n q) (alone_none k h e) ∙ agrees_alone n q)

-- Some number is always allowed: the partner's own, and without a partner the lower end.

module _ (k partner : ℕ) (h : k < count) (fit : partner_fits k partner ≡ true) where
  lower_end : partner_at k ≡ k → allowed_for k (low_at k) partner ≡ true
  lower_end e =
      sym (allowed_by k partner (low_at k) Role.Alone true (alone_none k h e) (agrees_alone (low_at k) partner))
      ∙ both _ _ (window_row (zero_at k) (low_at k) (high_at k) (low_at k) (omega arith) (low_high k h)) refl

  as_partner : in_range (partner_at k) partner ≡ true → allowed_for k partner partner ≡ true
  as_partner e = allowed_both k partner partner (sym (same_range k h partner) ∙ e) (agrees_self (role_at k) partner)

  pub allowed_some : (m : ℕ) × (allowed_for k m partner ≡ true)
  unfolding partner_fits
  allowed_some =
      ⊎_elim (λ a. (low_at k, lower_end (eqb-true _ _ a))) (λ b. (partner, as_partner b)) (or_cases (eqb (partner_at k) k) _ fit)

-- what is in range is at most the upper end, so it has room in its width
range_most : (k m : ℕ) → in_range k m ≡ true → m ≤ high_at k
unfolding in_range
range_most k m e = ⊎_elim (λ c. let is : m ≡ 0 = c.1 in omega arith) (λ c. c.1) (window_cases (zero_at k) (low_at k) (high_at k) m e)

allowed_most : (k m partner : ℕ) → allowed_for k m partner ≡ true → m ≤ high_at k
allowed_most k m partner e = range_most k m (allowed_range k m partner e)

pub range_room : RangeHasRoom
range_room k m h e =
    let most : m ≤ high_at k = range_most k m e in
    let room : high_at k < 256 ^ width_at k = (row_holds k h).width_holds in
    omega arith

pub allowed_room : AllowedHasRoom
allowed_room k m partner h e = range_room k m h (allowed_range k m partner e)

-- "one always exists": the search finds it
pub nearest_found : (k wished partner : ℕ) → k < count → partner_fits k partner ≡ true → wished < 65536
    → Nearest k wished partner (nearest_of k wished partner)
unfolding nearest_of
nearest_found k wished partner h fit small =
    let some = allowed_some k partner h fit in
    let most : some.0 ≤ high_at k = allowed_most k some.0 partner some.1 in
    let below : high_at k < 65536 = high_small k h in
    seek_nearest (λ n. allowed_for k n partner) wished 0 65536 (λ m e. zero-le) some.0 some.1 (omega arith)

pub nearest_answered : NearestIsAnswered
unfolding nearing
nearest_answered k wished partner h fit = rw (placed k h, lt-ltb k count h, fit)
