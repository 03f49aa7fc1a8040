-- Laws of the pair rule, by which everything above speaks of it. Assumes nothing.
use mathlib.Core.Path.{◌≡◌, refl, sym, ap, ◌∙◌}
use mathlib.Core.Bool.{Bool, true, false, cond, ◌&&◌, beq}
use Prim.Native.Nat.{ℕ, zero, suc, ◌≤◌, ◌<◌}
use native.Mathlib.Omega.{arith}
use borrow.Author.Tests.{leb-true, leb-false, le-leb, eq-eqb, eqb-true}
use lib.Dec.{leb, eqb}
use Rattle.laws.proofs.Bools.{and_left, and_right}
use Rattle.laws.proofs.Lists.{up_to_at}
use Rattle.settings.specs.Columns.{count, low_at, high_at, zero_at, partner_at, place_of, role_at}
use Rattle.settings.specs.Rules.{in_range, low_agrees, high_agrees, agrees}
use Rattle.settings.specs.Laws.{opposite}
use Rattle.settings.specs.declared.columns.Role.{Role}

-- without a partner any number agrees
pub agrees_alone : (n p : ℕ) → agrees Role.Alone n p ≡ true
unfolding agrees
agrees_alone n p = refl

-- a number agrees with itself
pub agrees_self : (r : Role) (n : ℕ) → agrees r n n ≡ true
unfolding agrees low_agrees high_agrees
agrees_self Role.Alone n = refl
agrees_self Role.LowFirst n = le-leb n n (omega arith)
agrees_self Role.LowSecond n = le-leb n n (omega arith)
agrees_self Role.HighFirst n = le-leb n n (omega arith)
agrees_self Role.HighSecond n = le-leb n n (omega arith)

-- what agrees seen from one of a pair agrees seen from the other
pub agrees_opposite : (r : Role) (x y : ℕ) → agrees (opposite r) y x ≡ agrees r x y
unfolding agrees
agrees_opposite Role.Alone x y = refl
agrees_opposite Role.LowFirst x y = refl
agrees_opposite Role.LowSecond x y = refl
agrees_opposite Role.HighFirst x y = refl
agrees_opposite Role.HighSecond x y = refl

-- of two pairs of numbers that agree, either the one's first agrees with the other's second, or the other way round
exchange_leb : (x y u v : ℕ) → leb x y ≡ true → leb u v ≡ true → leb u y ≡ false → leb x v ≡ true
exchange_leb x y u v a b c =
    let p : x ≤ y = leb-true x y a in
    let q : u ≤ v = leb-true u v b in
    let r : y < u = leb-false u y c in
    le-leb x v (omega arith)

exchange_geb : (x y u v : ℕ) → leb y x ≡ true → leb v u ≡ true → leb y u ≡ false → leb v x ≡ true
exchange_geb x y u v a b c =
    let p : y ≤ x = leb-true y x a in
    let q : v ≤ u = leb-true v u b in
    let r : u < y = leb-false y u c in
    le-leb v x (omega arith)

pub agrees_exchange : (r : Role) (x y u v : ℕ) → agrees r x y ≡ true → agrees r u v ≡ true → agrees r u y ≡ false → agrees r x v ≡ true
unfolding agrees low_agrees high_agrees
agrees_exchange Role.Alone x y u v a b c = refl
agrees_exchange Role.LowFirst x y u v a b c = exchange_leb x y u v a b c
agrees_exchange Role.LowSecond x y u v a b c = exchange_geb x y u v a b c
agrees_exchange Role.HighFirst x y u v a b c = exchange_geb x y u v a b c
agrees_exchange Role.HighSecond x y u v a b c = exchange_leb x y u v a b c

-- The two of a pair: the same own range, and parts that are each other's.

abbrev role_number : Role → ℕ
role_number Role.Alone = 0
role_number Role.LowFirst = 1
role_number Role.LowSecond = 2
role_number Role.HighFirst = 3
role_number Role.HighSecond = 4

abbrev role_of : ℕ → Role
role_of zero = Role.Alone
role_of (suc zero) = Role.LowFirst
role_of (suc (suc zero)) = Role.LowSecond
role_of (suc (suc (suc zero))) = Role.HighFirst
role_of (suc (suc (suc (suc n)))) = Role.HighSecond

role_back : (r : Role) → role_of (role_number r) ≡ r
role_back Role.Alone = refl
role_back Role.LowFirst = refl
role_back Role.LowSecond = refl
role_back Role.HighFirst = refl
role_back Role.HighSecond = refl

same_role : (r s : Role) → eqb (role_number r) (role_number s) ≡ true → r ≡ s
same_role r s e = sym (role_back r) ∙ ap role_of (eqb-true (role_number r) (role_number s) e) ∙ role_back s

same_bool : (a b : Bool) → beq a b ≡ true → a ≡ b
same_bool true true e = refl
same_bool true false e = sym e
same_bool false true e = e
same_bool false false e = refl

module _ (k : ℕ) (h : k < count) where
  pub parts_opposite : role_at (partner_at k) ≡ opposite (role_at k)
  unfolding partner_at place_of
  parts_opposite = same_role _ _ (up_to_at count (λ i. eqb (role_number (role_at (partner_at i))) (role_number (opposite (role_at i)))) refl k h)

  pub partner_agrees : (n x : ℕ) → agrees (role_at k) n x ≡ true → agrees (role_at (partner_at k)) x n ≡ true
  partner_agrees n x e = ap (λ (r : Role). agrees r x n) parts_opposite ∙ agrees_opposite (role_at k) n x ∙ e

  pub alone_none : partner_at k ≡ k → role_at k ≡ Role.Alone
  unfolding partner_at place_of
  alone_none e =
      same_role (role_at k) Role.Alone
      (rw (eq-eqb (partner_at k) k e) at (up_to_at count (λ i. cond (eqb (partner_at i) i) (eqb (role_number (role_at i)) 0) true) refl k h))

  pub none_alone : role_at k ≡ Role.Alone → partner_at k ≡ k
  unfolding partner_at place_of
  none_alone e =
      eqb-true _ _
      (rw (eq-eqb (role_number (role_at k)) 0 (ap role_number e)) at (up_to_at count (λ i. cond (eqb (role_number (role_at i)) 0) (eqb (partner_at i) i) true) refl k h))

  pub same_range : (n : ℕ) → in_range (partner_at k) n ≡ in_range k n
  unfolding in_range partner_at place_of
  same_range n =
      let all = up_to_at count (λ i. beq (zero_at (partner_at i)) (zero_at i) && (eqb (low_at (partner_at i)) (low_at i) && eqb (high_at (partner_at i)) (high_at i))) refl k h in
      let zeros : zero_at (partner_at k) ≡ zero_at k = same_bool _ _ (and_left (beq (zero_at (partner_at k)) (zero_at k)) _ all) in
      let ends = and_right (beq (zero_at (partner_at k)) (zero_at k)) _ all in
      let lows : low_at (partner_at k) ≡ low_at k = eqb-true _ _ (and_left _ (eqb (high_at (partner_at k)) (high_at k)) ends) in
      let highs : high_at (partner_at k) ≡ high_at k = eqb-true _ _ (and_right (eqb (low_at (partner_at k)) (low_at k)) _ ends) in
      rw (zeros, lows, highs)
