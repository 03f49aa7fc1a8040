-- The two of a pair are neighbours, and the first speaks for both: where each first agrees with the number after it, every setting agrees
-- with its partner. Assumes nothing.
use mathlib.Core.Path.{◌≡◌, refl}
use mathlib.Core.Logic.{⊎_elim}
use mathlib.Core.Bool.{Bool, true, false, not, ◌&&◌, ◌||◌, false≢true}
use mathlib.Core.List.{List}
use Prim.Native.Nat.{ℕ, suc, ◌-◌, ◌<◌}
use native.Mathlib.Omega.{arith}
use borrow.Author.Tests.{eqb-true}
use lib.ListN.{get_or}
use lib.Dec.{eqb}
use Rattle.laws.specs.Lists.{up_to}
use Rattle.laws.proofs.Bools.{and_left, and_right, or_cases, or_first, or_second, same_test}
use Rattle.laws.proofs.Lists.{up_to_at, up_to_all}
use Rattle.settings.specs.Columns.{count, partner_at, place_of, role_at, is_low_first, is_high_first}
use Rattle.settings.specs.Rules.{low_agrees, high_agrees, agrees}
use Rattle.settings.specs.declared.columns.Role.{Role}
use Rattle.settings.proofs.Pairs.{agrees_alone, agrees_opposite, parts_opposite, alone_none}
use Rattle.settings.proofs.Rows.{partner_below}

-- the second of a pair
abbrev is_second : Role → Bool
is_second Role.Alone = false
is_second Role.LowFirst = false
is_second Role.LowSecond = true
is_second Role.HighFirst = false
is_second Role.HighSecond = true

-- what is asked of a setting about the number after it: nothing, unless it is a first
abbrev asks : Role → ℕ → ℕ → Bool
asks r x y = (not (is_low_first r) || low_agrees x y) && (not (is_high_first r) || high_agrees x y)

and_true : (b : Bool) → (b && true) ≡ b
and_true true = refl
and_true false = refl

asks_first : (r : Role) (x y : ℕ) → asks r x y ≡ (is_second r || agrees r x y)
unfolding agrees
asks_first Role.Alone x y = refl
asks_first Role.LowFirst x y = and_true (low_agrees x y)
asks_first Role.LowSecond x y = refl
asks_first Role.HighFirst x y = refl
asks_first Role.HighSecond x y = refl

-- alone; the first of a pair, its partner after it; or the second, its partner before it
abbrev is_alone : ℕ → Bool
is_alone k = eqb (partner_at k) k

abbrev is_first : ℕ → Bool
is_first k = not (is_second (role_at k)) && eqb (partner_at k) (suc k)

abbrev is_other : ℕ → Bool
is_other k = is_second (role_at k) && (eqb (suc (partner_at k)) k && not (is_second (role_at (partner_at k))))

kinds : (k : ℕ) → k < count → (is_alone k || (is_first k || is_other k)) ≡ true
unfolding partner_at place_of
kinds k h = up_to_at count (λ i. is_alone i || (is_first i || is_other i)) refl k h

-- of two ways the one that is left
left_way : (a b : Bool) → not a ≡ true → (a || b) ≡ true → b ≡ true
left_way true b n e = absurd (false≢true n)
left_way false b n e = e

module _ (numbers : List ℕ) where
  abbrev pub agree : ℕ → Bool
  agree k = agrees (role_at k) (get_or numbers k 0) (get_or numbers (partner_at k) 0)

  abbrev pub asked : ℕ → Bool
  asked k = asks (role_at k) (get_or numbers k 0) (get_or numbers (suc k) 0)

  module _ (k : ℕ) (h : k < count) where
    alone_agrees : is_alone k ≡ true → (x y : ℕ) → agrees (role_at k) x y ≡ true
    alone_agrees e x y = rw (alone_none k h (eqb-true _ _ e)) (agrees_alone x y)

    after : is_first k ≡ true → partner_at k ≡ suc k
    after e = eqb-true _ _ (and_right (not (is_second (role_at k))) _ e)

    ask : agree k ≡ true → asked k ≡ true
    ask ok =
        rw (asks_first (role_at k))
        (⊎_elim (λ e. or_second (is_second (role_at k)) _ (alone_agrees e _ _))
        (λ paired. ⊎_elim (λ e. or_second (is_second (role_at k)) _ (rw (after e) at ok)) (λ e. or_first _ _ (and_left (is_second (role_at k)) _ e)) (or_cases (is_first k) (is_other k) paired))
        (or_cases (is_alone k) (is_first k || is_other k) (kinds k h)))

    module _ (all : up_to (count - 1) asked ≡ true) where
      first_agrees : is_first k ≡ true → agree k ≡ true
      first_agrees e =
          let next = after e in
          let less : suc k < count = rw next at (partner_below k h) in
          rw next (left_way (is_second (role_at k)) _ (and_left (not (is_second (role_at k))) _ e) (rw (asks_first (role_at k)) at (up_to_at (count - 1) asked all k (omega arith))))

      second_agrees : is_other k ≡ true → agree k ≡ true
      second_agrees e =
          let p = partner_at k in
          let rest = and_right (is_second (role_at k)) _ e in
          let next : suc p ≡ k = eqb-true _ _ (and_left (eqb (suc p) k) _ rest) in
          let less : p < count - 1 = omega arith in
          let own = left_way (is_second (role_at p)) _ (and_right (eqb (suc p) k) _ rest) (rw (asks_first (role_at p)) at (up_to_at (count - 1) asked all p less)) in
          rw (next, parts_opposite k h, agrees_opposite (role_at k)) at own

      one_agrees : agree k ≡ true
      one_agrees =
          ⊎_elim (λ e. alone_agrees e _ _) (λ paired. ⊎_elim first_agrees second_agrees (or_cases (is_first k) (is_other k) paired))
          (or_cases (is_alone k) (is_first k || is_other k) (kinds k h))

  pub neighbours_suffice : up_to (count - 1) asked ≡ up_to count agree
  neighbours_suffice =
      same_test (up_to (count - 1) asked) (up_to count agree) (λ e. up_to_all count agree (λ k h. one_agrees k h e))
      (λ e. up_to_all (count - 1) asked (λ k h. let h' : k < count = omega arith in ask k h' (up_to_at count agree e k h')))
