-- What is proved of the definitions, as statements to compare with the papers. Each is proved under its name in proofs/Theorems.antt.
-- Assumes nothing.
use Rattle.std.specs.Prelude.{ℕ, suc, ◌^◌, ◌≤◌, ◌<◌, ◌≡◌, ◌↔◌, Some, None, Ok, Err, true, false, cond, not, ◌&&◌, List, [], ◌∷◌, ◌++◌, map, length, get_or, eqb}
use Rattle.std.proofs.Math.Option.{Option, none, some}
use Rattle.paper.specs.Numbers.{number_of}
use Rattle.laws.specs.Refusals.{row, first_of}
use Rattle.settings.specs.Columns.{count, entries, ids, id_at, width_at, low_at, high_at, factory_at, partner_at, role_at}
use Rattle.settings.specs.Printed.{lines, low_pairs, high_pairs, among, printed_ids, within, width_in, other_in, partner_within, printed_agrees, printed}
use Rattle.settings.specs.Rules.{in_range, agrees, allowed_for, all_allowed, Nearest, nearest_of}
use Rattle.settings.specs.Calls.{setting_at, placing, finding, ranging, allowing, partner_fits, nearing}
use Rattle.settings.specs.declared.columns.Role.{Role}
use Rattle.settings.specs.declared.Setting.{Setting}
use Rattle.settings.specs.Answers.{Number}

-- 1. "The nearest allowed number has the least distance, the smaller on a tie; one always exists" (for 16-bit numbers), and no two do.
abbrev pub NearestIsFound : Type 0
NearestIsFound =
    (k wished partner : ℕ) → k < count → partner_fits k partner ≡ true → wished < 2 ^ 16 → Nearest k wished partner (nearest_of k wished partner)

abbrev pub NearestIsOne : Type 0
NearestIsOne = (k wished partner n m : ℕ) → Nearest k wished partner n → Nearest k wished partner m → n ≡ m

-- the call answers it for every setting whose partner's number is in range
abbrev pub NearestIsAnswered : Type 0
NearestIsAnswered =
    (k wished partner : ℕ) → k < count → partner_fits k partner ≡ true → nearing (id_at k) wished partner ≡ Ok (nearest_of k wished partner)

-- "7 if the id is no setting, then 12 if the partner is outside its own range", by the ids, ranges and pairs that are printed; the partner's
-- number is "unused without a partner".
abbrev pub refusal_of : Number → Option ℕ
refusal_of (Ok n) = none
refusal_of (Err r) = some (number_of r)

abbrev pub NearestGivenWhen : Type 0
NearestGivenWhen =
    (id wished partner : ℕ)
    → refusal_of (nearing id wished partner) ≡ first_of (row 7 (not (among id printed_ids)) ∷ row 12 (not (partner_within id partner)) ∷ [])

-- 2. The table is the one that is printed: for each of its ids the printed lines and pairs make the very row, and they have as many ids.
abbrev pub TableIsPrinted : Type 0
TableIsPrinted = (map printed ids ≡ map some entries) × (length printed_ids ≡ count)

-- "A number is allowed for a setting when it is in its own range and agrees with the partner now held", by the lines and pairs that are
-- printed; and the calls tell it for every setting.
abbrev pub AllowedIsPrinted : Type 0
AllowedIsPrinted = (k n partner : ℕ) → k < count → allowed_for k n partner ≡ (within lines (id_at k) n && printed_agrees (id_at k) n partner)

pub record Told (k n partner : ℕ) : Type 0 where
  pub range_is : ranging k n ≡ within lines (id_at k) n
  pub allowed_is : allowing k n partner ≡ (within lines (id_at k) n && printed_agrees (id_at k) n partner)

abbrev pub PrintedIsTold : Type 0
PrintedIsTold = (k n partner : ℕ) → k < count → Told k n partner

-- "Width 1 where marked, else 2", of the setting that a look-up answers
abbrev pub WidthIsPrinted : Type 0
WidthIsPrinted = (k : ℕ) → k < count → width_in lines (id_at k) ≡ some (setting_at k).width

-- the partner that a look-up answers: the other one of the printed pair, and the setting itself where no pair has its id
abbrev pub PartnerIsPrinted : Type 0
PartnerIsPrinted =
    (k : ℕ) → k < count
    → other_in (low_pairs ++ high_pairs) (id_at k) ≡ cond (eqb (setting_at k).partner k) none (some (id_at (setting_at k).partner))

-- past the table there is no setting, the look-up that tests nothing has neither id nor width nor partner, and no number is in range or allowed
abbrev pub PastIsNothing : Type 0
PastIsNothing =
    (k n partner : ℕ) → count ≤ k
    → (placing k ≡ None) × (setting_at k ≡ record { index = k; id = 0; width = 0; partner = count })
    × (ranging k n ≡ false) × (allowing k n partner ≡ false)

-- all numbers at once are allowed exactly when each is so beside its partner's
abbrev pub AllAllowedWhen : Type 0
AllAllowedWhen =
    (numbers : List ℕ)
    → (all_allowed numbers ≡ true)
    ↔ ((k : ℕ) → k < count
    → (within lines (id_at k) (get_or numbers k 0) && printed_agrees (id_at k) (get_or numbers k 0) (get_or numbers (partner_at k) 0)) ≡ true)

-- The columns, at every entry: the two of a pair are neighbours with opposite parts in it, and a setting alone has none. That the const arrays of
-- src/columns.rt have the same entries is what their readers there promise.
abbrev pub opposite : Role → Role
opposite Role.Alone = Role.Alone
opposite Role.LowFirst = Role.LowSecond
opposite Role.LowSecond = Role.LowFirst
opposite Role.HighFirst = Role.HighSecond
opposite Role.HighSecond = Role.HighFirst

pub record Row (k : ℕ) : Type 0 where
  pub id_holds : id_at k < 256 ^ 2
  pub ascends : suc k < count → id_at k < id_at (suc k)
  pub partner_is : partner_at k < count
  pub partner_back : partner_at (partner_at k) ≡ k
  pub partner_near : (partner_at k ≤ suc k) × (k ≤ suc (partner_at k))
  pub parts_opposite : role_at (partner_at k) ≡ opposite (role_at k)
  pub alone_none : (partner_at k ≡ k) ↔ (role_at k ≡ Role.Alone)
  pub range_some : low_at k ≤ high_at k
  pub width_some : 1 ≤ width_at k
  pub width_most : width_at k ≤ 2
  pub width_holds : high_at k < 256 ^ width_at k
  pub factory_in : in_range k (factory_at k) ≡ true
  pub factory_agrees : agrees (role_at k) (factory_at k) (factory_at (partner_at k)) ≡ true

-- a number in its setting's own range, so an allowed one too, has room in the setting's width
abbrev pub RangeHasRoom : Type 0
RangeHasRoom = (k n : ℕ) → k < count → in_range k n ≡ true → n < 256 ^ width_at k

abbrev pub AllowedHasRoom : Type 0
AllowedHasRoom = (k n partner : ℕ) → k < count → allowed_for k n partner ≡ true → n < 256 ^ width_at k

abbrev pub RowsHold : Type 0
RowsHold = (k : ℕ) → k < count → Row k

abbrev pub IdsAreCount : Type 0
IdsAreCount = length ids ≡ count

-- 3. A look-up finds each setting at its place and by its id, and what it finds is a setting of the table with that id.
abbrev pub PlaceIsFound : Type 0
PlaceIsFound = (k : ℕ) → k < count → placing k ≡ Some (setting_at k)

abbrev pub FindIsFound : Type 0
FindIsFound = (k : ℕ) → k < count → finding (id_at k) ≡ Some (setting_at k)

abbrev pub FoundHasId : Type 0
FoundHasId = (id : ℕ) (s : Setting) → finding id ≡ Some s → (s.index < count) × (s ≡ setting_at s.index) × (s.id ≡ id)
