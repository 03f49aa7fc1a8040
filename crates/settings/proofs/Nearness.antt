-- The nearest number: at most one has the paper's property, and the search finds it; and what a window holds. Assumes nothing.
use mathlib.Core.Path.{◌≡◌, refl, sym, ◌∙◌}
use mathlib.Core.Logic.{◌⊎◌, inl, inr, ⊎_elim}
use mathlib.Core.Bool.{Bool, true, false, ◌&&◌, ◌||◌, false≢true}
use Prim.Native.Nat.{ℕ, zero, suc, ◌+◌, ◌-◌, ◌≤◌, ◌<◌}
use native.Mathlib.Nat.{le_antisymm, le_of_eq, eq-or-lt_of_le}
use native.Mathlib.Omega.{arith}
use borrow.Author.Tests.{leb-true, leb-false, le-leb, eq-eqb, eqb-true}
use lib.Dec.{leb, eqb}
use Rattle.laws.proofs.Bools.{and_left, and_right, or_cases, or_first, or_second, both}
use Rattle.settings.specs.Rules.{in_window, distance, NearestIn, seek}

-- two numbers with the property are the same
pub nearest_one : (p : ℕ → Bool) (wished n m : ℕ) → NearestIn p wished n → NearestIn p wished m → n ≡ m
nearest_one p wished n m a b =
    let there : distance n wished ≤ distance m wished = a.least m b.is_allowed in
    let back : distance m wished ≤ distance n wished = b.least n a.is_allowed in
    let same : distance m wished ≡ distance n wished = le_antisymm back there in
    le_antisymm (a.smaller m b.is_allowed same) (b.smaller n a.is_allowed (sym same))

below_at : (wished d : ℕ) → d ≤ wished → distance (wished - d) wished ≡ d
below_at wished d h = omega arith

above_at : (wished d : ℕ) → distance (wished + d) wished ≡ d
above_at wished d = omega arith

below_least : (k wished d : ℕ) → distance k wished ≡ d → wished - d ≤ k
below_least k wished d e = omega arith

-- a number at a distance is that much below or above
at_distance : (k wished d : ℕ) → distance k wished ≡ d → ((d ≤ wished) × (k ≡ wished - d)) ⊎ (k ≡ wished + d)
at_distance k wished d e = by (leb k wished) refl
  where
    by : (t : Bool) → leb k wished ≡ t → ((d ≤ wished) × (k ≡ wished - d)) ⊎ (k ≡ wished + d)
    by true h = let under : k ≤ wished = leb-true k wished h in inl (omega arith, omega arith)
    by false h = let over : wished < k = leb-false k wished h in inr (omega arith)

not_under : {A : Type 0} (p : ℕ → Bool) (wished d k : ℕ) → (leb d wished && p (wished - d)) ≡ false → p k ≡ true → (d ≤ wished) × (k ≡ wished - d) → A
not_under p wished d k none h under = absurd (false≢true (sym none ∙ both _ _ (le-leb d wished under.0) (rw under.1 at h)))

-- the search, where nothing nearer than d is allowed and something within reach is
pub seek_nearest : (p : ℕ → Bool) (wished d fuel : ℕ) → ((m : ℕ) → p m ≡ true → d ≤ distance m wished)
    → (m : ℕ) → p m ≡ true → distance m wished < d + fuel → NearestIn p wished (seek p wished d fuel)
seek_nearest p wished d zero none m e near = let far : d ≤ distance m wished = none m e in absurd (omega arith)
seek_nearest p wished d (suc fuel) none m e near = by (leb d wished && p (wished - d)) (p (wished + d)) refl refl (λ none'. seek_nearest p wished (suc d) fuel none' m e (omega arith))
  where
    by : (s t : Bool) → (leb d wished && p (wished - d)) ≡ s → p (wished + d) ≡ t
        → (((m : ℕ) → p m ≡ true → suc d ≤ distance m wished) → NearestIn p wished (seek p wished (suc d) fuel))
        → NearestIn p wished (seek p wished d (suc fuel))
    by true t below above later =
        let in_front : d ≤ wished = leb-true d wished (and_left _ (p (wished - d)) below) in
        rw (below, seek) (record {
          is_allowed = and_right (leb d wished) _ below;
          least = λ k h. rw (below_at wished d in_front) (none k h);
          smaller = λ k h same. below_least k wished d (same ∙ below_at wished d in_front);
        })
    by false true below above later =
        rw (below, above, seek) (record {
          is_allowed = above;
          least = λ k h. rw (above_at wished d) (none k h);
          smaller = λ k h same.
              ⊎_elim (λ under. not_under p wished d k below h under) (λ over. le_of_eq (sym over)) (at_distance k wished d (same ∙ above_at wished d));
        })
    by false false below above later =
        rw (below, above, seek)
        (later (λ k h.
        let far : d ≤ distance k wished = none k h in
        ⊎_elim (λ is. ⊎_elim (λ under. not_under p wished d k below h under) (λ over. absurd (false≢true (sym above ∙ rw over at h))) (at_distance k wished d (sym is)))
        (λ less. less) (eq-or-lt_of_le far)))

-- A window: what is in it.

module _ (zero_too : Bool) (low high n : ℕ) where
  pub window_zero : zero_too ≡ true → n ≡ 0 → in_window zero_too low high n ≡ true
  window_zero z e = or_first _ _ (both _ _ z (eq-eqb n 0 e))

  pub window_row : low ≤ n → n ≤ high → in_window zero_too low high n ≡ true
  window_row a b = or_second (zero_too && eqb n 0) _ (both _ _ (le-leb low n a) (le-leb n high b))

  pub window_cases : in_window zero_too low high n ≡ true → ((zero_too ≡ true) × (n ≡ 0)) ⊎ ((low ≤ n) × (n ≤ high))
  window_cases e =
      ⊎_elim (λ z. inl (and_left _ (eqb n 0) z, eqb-true n 0 (and_right zero_too _ z)))
      (λ r. inr (leb-true low n (and_left _ (leb n high) r), leb-true n high (and_right (leb low n) _ r)))
      (or_cases (zero_too && eqb n 0) _ e)

-- a window with a number in it is not empty
pub window_some : (zero_too : Bool) (low high m : ℕ) → in_window zero_too low high m ≡ true → (zero_too || leb low high) ≡ true
window_some zero_too low high m e =
    ⊎_elim (λ z. or_first _ _ z.0) (λ r. let a : low ≤ m = r.0 in let b : m ≤ high = r.1 in or_second zero_too _ (le-leb low high (omega arith))) (window_cases zero_too low high m e)

-- the property speaks of what is allowed, however that is put
pub nearest_same : (p q : ℕ → Bool) → ((n : ℕ) → p n ≡ q n) → (wished n : ℕ) → NearestIn p wished n → NearestIn q wished n
nearest_same p q same wished n a =
    record {
      is_allowed = sym (same n) ∙ a.is_allowed;
      least = λ m e. a.least m (same m ∙ e);
      smaller = λ m e. a.smaller m (same m ∙ e);
    }
