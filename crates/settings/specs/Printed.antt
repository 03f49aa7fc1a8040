-- Document 01, "Settings" and "Pairs", as they are printed there: ids, allowed numbers and factory number line by line, then the pairs. A
-- second copy, to compare the table of Columns.antt with. Assumes nothing.
use Rattle.std.specs.Prelude.{ℕ, Bool, true, false, cond, ◌&&◌, ◌||◌, List, [], ◌∷◌, ◌++◌, leb, eqb}
use Rattle.std.proofs.Math.Option.{Option, none, some}
use Rattle.settings.specs.Columns.{Entry}
use Rattle.settings.specs.declared.columns.Role.{Role}

-- "Shown: id, allowed, factory." Allowed are the numbers from low to high, and 0 besides where `zero_too` says so.
pub record Line : Type 0 where
  pub ids : List ℕ
  pub width : ℕ
  pub zero_too : Bool
  pub low : ℕ
  pub high : ℕ
  pub factory : ℕ

abbrev line : List ℕ → ℕ → ℕ → ℕ → ℕ → Line
line ids width low high factory = record { ids = ids; width = width; zero_too = false; low = low; high = high; factory = factory }

-- "0 or 17400..37200"
abbrev line_or_zero : List ℕ → ℕ → ℕ → ℕ → ℕ → Line
line_or_zero ids width low high factory = record { ids = ids; width = width; zero_too = true; low = low; high = high; factory = factory }

-- "Width 1 where marked, else 2."
abbrev pub lines : List Line
lines =
    line (0x0320 ∷ 0x0321 ∷ 0x0322 ∷ 0x0323 ∷ []) 2 0 950 0 ∷
    line (0x0328 ∷ 0x0329 ∷ []) 2 0 990 0 ∷
    line_or_zero (0x032A ∷ 0x032B ∷ 0x032C ∷ 0x032D ∷ []) 2 17400 37200 0 ∷
    line (0x0400 ∷ []) 1 0 1 1 ∷
    line (0x1000 ∷ []) 2 1 9999 200 ∷
    line (0x1001 ∷ []) 2 0 950 132 ∷
    line (0x1002 ∷ []) 2 5 100 40 ∷
    line (0x1003 ∷ []) 2 1 50 3 ∷
    line (0x1004 ∷ []) 2 50 99 90 ∷
    line (0x1005 ∷ []) 2 100 150 125 ∷
    line (0x1006 ∷ []) 2 0 200 10 ∷
    line (0x1007 ∷ []) 2 0 12 3 ∷
    line (0x1008 ∷ []) 2 0 990 500 ∷
    line (0x1009 ∷ []) 2 0 990 900 ∷
    line (0xEEF5 ∷ []) 1 1 5 3 ∷
    line (0xEEF7 ∷ []) 1 0 1 0 ∷
    line (0xEEFC ∷ []) 1 0 1 1 ∷
    line (0xEEFE ∷ []) 1 0 9 5 ∷
    line (0xEEFB ∷ []) 2 1 9999 500 ∷
    []

-- "Low pairs 0320/0321, 0328/0329, 032A/032B, 1008/1009: first at most second. High pairs 0322/0323, 032C/032D: first at least second."
abbrev pub low_pairs : List (ℕ × ℕ)
low_pairs = (0x0320, 0x0321) ∷ (0x0328, 0x0329) ∷ (0x032A, 0x032B) ∷ (0x1008, 0x1009) ∷ []

abbrev pub high_pairs : List (ℕ × ℕ)
high_pairs = (0x0322, 0x0323) ∷ (0x032C, 0x032D) ∷ []

-- an id among some, and all that are printed
abbrev pub among : ℕ → List ℕ → Bool
among id [] = false
among id (x ∷ more) = eqb id x || among id more

abbrev pub ids_in : List Line → List ℕ
ids_in [] = []
ids_in (l ∷ more) = l.ids ++ ids_in more

abbrev pub printed_ids : List ℕ
printed_ids = ids_in lines

-- whether a number is among those printed for an id
abbrev pub within : List Line → ℕ → ℕ → Bool
within [] id n = false
within (l ∷ more) id n = cond (among id l.ids) ((l.zero_too && eqb n 0) || (leb l.low n && leb n l.high)) (within more id n)

-- the width printed for an id
abbrev pub width_in : List Line → ℕ → Option ℕ
width_in [] id = none
width_in (l ∷ more) id = cond (among id l.ids) (some l.width) (width_in more id)

-- the factory number printed for an id
abbrev pub factory_in : List Line → ℕ → Option ℕ
factory_in [] id = none
factory_in (l ∷ more) id = cond (among id l.ids) (some l.factory) (factory_in more id)

-- the other id of a printed pair
abbrev pub other_in : List (ℕ × ℕ) → ℕ → Option ℕ
other_in [] id = none
other_in (p ∷ more) id = cond (eqb id p.0) (some p.1) (cond (eqb id p.1) (some p.0) (other_in more id))

-- whether a number is allowed as the partner's: any where no pair has the id
abbrev pub fits_other : Option ℕ → ℕ → Bool
fits_other none n = true
fits_other (some other) n = within lines other n

abbrev pub partner_within : ℕ → ℕ → Bool
partner_within id n = fits_other (other_in (low_pairs ++ high_pairs) id) n

-- Whether a number for an id agrees with the one for the other id of its pair: "first at most second" of a low pair, "first at least second"
-- of a high one; any does where no pair has the id.
abbrev agrees_in : List (ℕ × ℕ) → (ℕ → ℕ → Bool) → ℕ → ℕ → ℕ → Bool → Bool
agrees_in [] rule id n partner otherwise = otherwise
agrees_in (p ∷ more) rule id n partner otherwise =
    cond (eqb id p.0) (rule n partner) (cond (eqb id p.1) (rule partner n) (agrees_in more rule id n partner otherwise))

abbrev pub printed_agrees : ℕ → ℕ → ℕ → Bool
printed_agrees id n partner =
    agrees_in low_pairs (λ first second. leb first second) id n partner
    (agrees_in high_pairs (λ first second. leb second first) id n partner true)

-- the row of the table that the paper's lines and pairs make for an id
abbrev line_of : List Line → ℕ → Option Line
line_of [] id = none
line_of (l ∷ more) id = cond (among id l.ids) (some l) (line_of more id)

-- the id of the other one of its pair, and its part in it; a setting alone has its own id there
abbrev part_in : List (ℕ × ℕ) → Role → Role → ℕ → ℕ × Role → ℕ × Role
part_in [] first second id otherwise = otherwise
part_in (p ∷ more) first second id otherwise =
    cond (eqb id p.0) (p.1, first) (cond (eqb id p.1) (p.0, second) (part_in more first second id otherwise))

abbrev part_of : ℕ → ℕ × Role
part_of id = part_in low_pairs Role.LowFirst Role.LowSecond id (part_in high_pairs Role.HighFirst Role.HighSecond id (id, Role.Alone))

abbrev entry_of : ℕ → ℕ × Role → Option Line → Option Entry
entry_of id part none = none
entry_of id part (some l) =
    some
    (record {
      id = id;
      width = l.width;
      low = l.low;
      high = l.high;
      zero_too = l.zero_too;
      factory_number = l.factory;
      partner_id = part.0;
      role = part.1;
    })

abbrev pub printed : ℕ → Option Entry
printed id = entry_of id (part_of id) (line_of lines id)
