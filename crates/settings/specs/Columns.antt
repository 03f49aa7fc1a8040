-- The constant table of 26 settings, a row each, in the order of the ids. Document 01, "Settings": "Width 1 where marked, else 2. Shown:
-- id, allowed, factory." The same numbers are const arrays, column by column, in src/columns.rt; that they are the same is proved
-- where an entry is read. Assumes nothing.
use Rattle.std.specs.Prelude.{ℕ, Bool, true, false, List, [], ◌∷◌, map, get_or, eqb}
use Rattle.laws.specs.Lists.{before}
use Rattle.settings.specs.declared.columns.Role.{Role}

-- the number of settings
abbrev pub count : ℕ
count = 26

-- A setting: id, width in bytes, lower and upper end, whether 0 is allowed besides ("0 or 17400..37200"), factory number, the id of the other
-- one of its pair (a setting alone has its own there), and its part in the pair.
pub record Entry : Type 0 where
  pub id : ℕ
  pub width : ℕ
  pub low : ℕ
  pub high : ℕ
  pub zero_too : Bool
  pub factory_number : ℕ
  pub partner_id : ℕ
  pub role : Role

abbrev entry : ℕ → ℕ → ℕ → ℕ → Bool → ℕ → ℕ → Role → Entry
entry i w l h z f p r =
    record { id = i; width = w; low = l; high = h; zero_too = z; factory_number = f; partner_id = p; role = r }

abbrev pub entries : List Entry
entries =
    entry 0x0320 2 0 950 false 0 0x0321 Role.LowFirst ∷  -- low voltage
    entry 0x0321 2 0 950 false 0 0x0320 Role.LowSecond ∷  -- its clear
    entry 0x0322 2 0 950 false 0 0x0323 Role.HighFirst ∷  -- high voltage
    entry 0x0323 2 0 950 false 0 0x0322 Role.HighSecond ∷  -- its clear
    entry 0x0328 2 0 990 false 0 0x0329 Role.LowFirst ∷  -- low SOC
    entry 0x0329 2 0 990 false 0 0x0328 Role.LowSecond ∷  -- its clear
    entry 0x032A 2 17400 37200 true 0 0x032B Role.LowFirst ∷  -- low temperature
    entry 0x032B 2 17400 37200 true 0 0x032A Role.LowSecond ∷  -- its clear
    entry 0x032C 2 17400 37200 true 0 0x032D Role.HighFirst ∷  -- high temperature
    entry 0x032D 2 17400 37200 true 0 0x032C Role.HighSecond ∷  -- its clear
    entry 0x0400 1 0 1 false 1 0x0400 Role.Alone ∷  -- backlight on
    entry 0x1000 2 1 9999 false 200 0x1000 Role.Alone ∷  -- capacity
    entry 0x1001 2 0 950 false 132 0x1001 Role.Alone ∷  -- charged voltage
    entry 0x1002 2 5 100 false 40 0x1002 Role.Alone ∷  -- tail current
    entry 0x1003 2 1 50 false 3 0x1003 Role.Alone ∷  -- detection time
    entry 0x1004 2 50 99 false 90 0x1004 Role.Alone ∷  -- efficiency
    entry 0x1005 2 100 150 false 125 0x1005 Role.Alone ∷  -- Peukert
    entry 0x1006 2 0 200 false 10 0x1006 Role.Alone ∷  -- threshold
    entry 0x1007 2 0 12 false 3 0x1007 Role.Alone ∷  -- TTG delta
    entry 0x1008 2 0 990 false 500 0x1009 Role.LowFirst ∷  -- discharge floor
    entry 0x1009 2 0 990 false 900 0x1008 Role.LowSecond ∷  -- its clear
    entry 0xEEF5 1 1 5 false 3 0xEEF5 Role.Alone ∷  -- scroll
    entry 0xEEF7 1 0 1 false 0 0xEEF7 Role.Alone ∷  -- unit
    entry 0xEEFB 2 1 9999 false 500 0xEEFB Role.Alone ∷  -- shunt amps
    entry 0xEEFC 1 0 1 false 1 0xEEFC Role.Alone ∷  -- buzzer
    entry 0xEEFE 1 0 9 false 5 0xEEFE Role.Alone ∷  -- backlight
    []

-- the columns, and a setting's entry in each by its place
abbrev pub ids : List ℕ
ids = map (λ (e : Entry). e.id) entries

abbrev pub id_at : ℕ → ℕ
id_at k = get_or ids k 0

abbrev pub widths : List ℕ
widths = map (λ (e : Entry). e.width) entries

abbrev pub width_at : ℕ → ℕ
width_at k = get_or widths k 0

abbrev pub lows : List ℕ
lows = map (λ (e : Entry). e.low) entries

abbrev pub low_at : ℕ → ℕ
low_at k = get_or lows k 0

abbrev pub highs : List ℕ
highs = map (λ (e : Entry). e.high) entries

abbrev pub high_at : ℕ → ℕ
high_at k = get_or highs k 0

abbrev pub zeros : List Bool
zeros = map (λ (e : Entry). e.zero_too) entries

abbrev pub zero_at : ℕ → Bool
zero_at k = get_or zeros k false

abbrev pub factories : List ℕ
factories = map (λ (e : Entry). e.factory_number) entries

abbrev pub factory_at : ℕ → ℕ
factory_at k = get_or factories k 0

-- the place of an id: where it comes first, or past the table
unfoldable pub place_of : ℕ → ℕ
place_of id = before (λ x. eqb x id) ids

-- the place of the other one of a pair is found by its id, so a new row renumbers nothing
abbrev pub partner_ids : List ℕ
partner_ids = map (λ (e : Entry). e.partner_id) entries

unfoldable pub partner_at : ℕ → ℕ
partner_at k = place_of (get_or partner_ids k 0)

abbrev pub roles : List Role
roles = map (λ (e : Entry). e.role) entries

abbrev pub role_at : ℕ → Role
role_at k = get_or roles k Role.Alone

-- the first of a low pair and of a high one, which have their partner after them
abbrev pub is_low_first : Role → Bool
is_low_first Role.Alone = false
is_low_first Role.LowFirst = true
is_low_first Role.LowSecond = false
is_low_first Role.HighFirst = false
is_low_first Role.HighSecond = false

abbrev pub is_high_first : Role → Bool
is_high_first Role.Alone = false
is_high_first Role.LowFirst = false
is_high_first Role.LowSecond = false
is_high_first Role.HighFirst = true
is_high_first Role.HighSecond = false
