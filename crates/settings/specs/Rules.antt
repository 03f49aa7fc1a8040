-- The rules over the table. Document 01, "Settings" and "Pairs". Assumes nothing.
use Rattle.std.specs.Prelude.{ℕ, zero, suc, ◌+◌, ◌-◌, ◌≤◌, ◌≡◌, Bool, true, false, ◌&&◌, ◌||◌, List, get_or, leb, eqb}
use Rattle.laws.specs.Lists.{up_to}
use Rattle.settings.specs.Columns.{count, low_at, high_at, zero_at, partner_at, role_at}
use Rattle.settings.specs.declared.columns.Role.{Role}

-- the numbers from low to high, and 0 besides where the first argument says so
abbrev pub in_window : Bool → ℕ → ℕ → ℕ → Bool
in_window zero_too low high n = (zero_too && eqb n 0) || (leb low n && leb n high)

-- a setting's own range
unfoldable pub in_range : ℕ → ℕ → Bool
in_range k n = in_window (zero_at k) (low_at k) (high_at k) n

-- The pair rule. "Low pairs [..]: first at most second. High pairs [..]: first at least second."
unfoldable pub low_agrees : ℕ → ℕ → Bool
low_agrees first second = leb first second

unfoldable pub high_agrees : ℕ → ℕ → Bool
high_agrees first second = leb second first

-- whether a number agrees with the partner's, by the setting's part in its pair
unfoldable pub agrees : Role → ℕ → ℕ → Bool
agrees Role.Alone n partner = true
agrees Role.LowFirst n partner = low_agrees n partner
agrees Role.LowSecond n partner = low_agrees partner n
agrees Role.HighFirst n partner = high_agrees n partner
agrees Role.HighSecond n partner = high_agrees partner n

-- "A number is allowed for a setting when it is in its own range and agrees with the partner now held."
unfoldable pub allowed_for : ℕ → ℕ → ℕ → Bool
allowed_for k n partner = in_range k n && agrees (role_at k) n partner

-- the numbers of all settings are allowed when every one is in its own range and every pair agrees
unfoldable pub all_allowed : List ℕ → Bool
all_allowed numbers = up_to count (λ k. allowed_for k (get_or numbers k 0) (get_or numbers (partner_at k) 0))

-- "The nearest allowed number has the least distance, the smaller on a tie; one always exists."
abbrev pub distance : ℕ → ℕ → ℕ
distance a b = (a - b) + (b - a)

pub record NearestIn (allows : ℕ → Bool) (wished n : ℕ) : Type 0 where
  pub is_allowed : allows n ≡ true
  pub least : (m : ℕ) → allows m ≡ true → distance n wished ≤ distance m wished
  pub smaller : (m : ℕ) → allows m ≡ true → distance m wished ≡ distance n wished → n ≤ m

abbrev pub Nearest : ℕ → ℕ → ℕ → ℕ → Type 0
Nearest k wished partner = NearestIn (λ n. allowed_for k n partner) wished

-- the same as a search: by growing distance, below before above
abbrev pub seek : (ℕ → Bool) → ℕ → ℕ → ℕ → ℕ
seek p wished d zero = 0
seek p wished d (suc fuel) =
    elim (leb d wished && p (wished - d)) [
      | true ↦ wished - d
      | false ↦ elim (p (wished + d)) [ true ↦ wished + d | false ↦ seek p wished (suc d) fuel ]
    ]

unfoldable pub nearest_of : ℕ → ℕ → ℕ → ℕ
nearest_of k wished partner = seek (λ n. allowed_for k n partner) wished 0 65536
