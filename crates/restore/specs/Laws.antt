-- What is proved of the definitions, as statements to compare with the papers. Each is proved under its name in proofs/Theorems.antt.
-- Assumes nothing.
use Rattle.std.specs.Prelude.{ℕ, zero, suc, ◌+◌, ◌*◌, ◌≤◌, ◌<◌, ◌≡◌, ◌↔◌, Some, None, Ok, Err, Bool, true, false, cond, not, ◌&&◌, ◌||◌, List, [], ◌∷◌, map, length, get_or, ltb, eqb}
use Rattle.std.proofs.Math.Option.{Option, none, some}
use Rattle.paper.specs.Numbers.{not_allowed, number_of}
use Rattle.paper.specs.declared.Refusal.{Refusal}
use Rattle.laws.specs.Lists.{every}
use Rattle.laws.specs.Promise.{Given}
use Rattle.laws.specs.Refusals.{Row, row, first_of}
use Rattle.settings.specs.Columns.{count, partner_at, role_at}
use Rattle.settings.specs.Rules.{agrees}
use Rattle.settings.specs.Calls.{setting_at}
use Rattle.tables.specs.Rules.{allowed, number_at}
use Rattle.tables.specs.Calls.{set_to}
use Rattle.tables.specs.declared.Table.{Table}
use Rattle.tables.specs.Answers.{Answer}
use Rattle.restore.specs.Order.{order, due_sets}
use Rattle.restore.specs.Calls.{frames_for, listing, sets_due, due_in}
use Rattle.requests.specs.declared.Wanted.{Wanted}
use Rattle.restore.specs.Answers.{Listed, Sets, Due}

-- two allowed tables. (A table has its numbers in every value of the type, which `length` says.)
pub record Tables (from to : Table) : Type 0 where
  pub from_long : length from.numbers ≡ count
  pub to_long : length to.numbers ≡ count
  pub from_allowed : allowed from ≡ true
  pub to_allowed : allowed to ≡ true

-- 1. "one Set for each differing setting", and no other: how often a setting comes up in the order
abbrev pub times : ℕ → List ℕ → ℕ
times k [] = zero
times k (j ∷ more) = cond (eqb j k) (suc (times k more)) (times k more)

abbrev pub OneForEach : Type 0
OneForEach = (from to : Table) (k : ℕ) → k < count → times k (order from to) ≡ cond (eqb (number_at from k) (number_at to k)) 0 1

abbrev pub NoOther : Type 0
NoOther = (from to : Table) → every (λ k. ltb k count && not (eqb (number_at from k) (number_at to k))) (order from to) ≡ true

-- There are as many Sets as settings that differ: counted over the table, with no list in it.
unfoldable pub differing : ℕ → Table → Table → ℕ
differing zero from to = zero
differing (suc n) from to = differing n from to + cond (eqb (number_at from n) (number_at to n)) 0 1

abbrev pub SetsAreDiffering : Type 0
SetsAreDiffering = (from to : Table) → length (due_sets from to) ≡ differing count from to

-- 2. The order, of any two of them: "the lower id goes first if its new number agrees with the partner's present one, else the higher" where
-- they are a pair, else "ascending id".
unfoldable pub goes_first : Table → Table → ℕ → ℕ → Bool
goes_first from to a b =
    cond (eqb (partner_at a) b)
    (cond (ltb a b) (agrees (role_at a) (number_at to a) (number_at from b)) (not (agrees (role_at b) (number_at to b) (number_at from a))))
    (ltb a b)

abbrev pub InOrder : Type 0
InOrder =
    (from to : Table) (i j : ℕ) → i < j → j < length (order from to) → goes_first from to (get_or (order from to) i 0) (get_or (order from to) j 0) ≡ true

-- 3. Any row of Sets put to the settings rule, each on the table that those before it left: all are accepted, and what they leave.
abbrev pub is_accepted : Answer → Bool
is_accepted (Ok done) = true
is_accepted (Err why) = false

abbrev pub accepted : Table → List Wanted → Bool
accepted table [] = true
accepted table (w ∷ more) =
    is_accepted (set_to table w.setting.index w.number).answer && accepted (set_to table w.setting.index w.number).table more

abbrev pub left : Table → List Wanted → Table
left table [] = table
left table (w ∷ more) = left (set_to table w.setting.index w.number).table more

-- The list's Sets are accepted each in turn, and the last table is the wanted one.
pub record Restores (from to : Table) : Type 0 where
  pub each_accepted : accepted from (due_sets from to) ≡ true
  pub wanted_stands : left from (due_sets from to) ≡ to

abbrev pub ListRestores : Type 0
ListRestores = (from to : Table) → Tables from to → Restores from to

-- 4. Which refusal is given: its number is that of the first row whose condition holds, and none where no condition holds. "Refusals: 11
-- under 390 bytes of room, always, then 12.", which is 15 bytes for each of the 26 settings. Under a refusal no byte is written.
abbrev pub is_stray : Table → Table → Row
is_stray from to = row 12 (not (allowed from) || not (allowed to))

abbrev pub list_number : Listed → Option ℕ
list_number (Ok list) = none
list_number (Err r) = some (number_of r)

abbrev pub sets_number : Sets → Option ℕ
sets_number (Ok sets) = none
sets_number (Err r) = some (number_of r)

abbrev pub due_number : Due → Option ℕ
due_number (Ok due) = none
due_number (Err r) = some (number_of r)

pub record ListRefuses (from to : Table) (room : ℕ) (given : Given Listed) : Type 0 where
  pub number_is : list_number given.answer ≡ first_of (row 11 (ltb room (15 * count)) ∷ is_stray from to ∷ [])
  pub none_written : (r : Refusal) → given.answer ≡ Err r → given.written ≡ []

abbrev pub ListGivenWhen : Type 0
ListGivenWhen = (from to : Table) (room : ℕ) → ListRefuses from to room (listing from to room)

abbrev pub SetsGivenWhen : Type 0
SetsGivenWhen = (from to : Table) → sets_number (sets_due from to) ≡ first_of (is_stray from to ∷ [])

abbrev pub DueGivenWhen : Type 0
DueGivenWhen = (from to : Table) (done : ℕ) → due_number (due_in from to done) ≡ first_of (is_stray from to ∷ [])

-- Otherwise the frames of the list are written end to end, and their length and the number of settings that differ are told.
abbrev pub ListIsGiven : Type 0
ListIsGiven =
    (from to : Table) (room : ℕ) → 15 * count ≤ room → allowed from ≡ true → allowed to ≡ true
    → listing from to room
    ≡ record {
      answer = Ok (record { len = length (frames_for (due_sets from to)); sets = differing count from to });
      written = frames_for (due_sets from to);
    }

abbrev pub SetsAreTold : Type 0
SetsAreTold = (from to : Table) → allowed from ≡ true → allowed to ≡ true → sets_due from to ≡ Ok (differing count from to)

-- "A list with no Set ends as equal": there is none exactly where the tables are the same.
abbrev pub NoneWhereEqual : Type 0
NoneWhereEqual = (from to : Table) → Tables from to → (sets_due from to ≡ Ok 0) ↔ (from ≡ to)

-- There are no more Sets than settings, and the list fits its room.
abbrev pub SetsAreFew : Type 0
SetsAreFew = (from to : Table) → length (due_sets from to) ≤ count

abbrev pub ListIsShort : Type 0
ListIsShort = (from to : Table) → length (frames_for (due_sets from to)) ≤ 15 * count

-- 5. A Set is of the setting at its place, for the number that is wanted there.
abbrev pub SetsAreWanted : Type 0
SetsAreWanted = (from to : Table) → due_sets from to ≡ map (λ k. record { setting = setting_at k; number = number_at to k }) (order from to)

-- What is due tells how many Sets there are: one is due after fewer than all, namely the next of the order, and none after all.
pub data Tells (from to : Table) (done : ℕ) : Due → Type 0 where
  a_set : (k : ℕ) → k ≡ get_or (order from to) done 0 → k < count → (allowed from && allowed to) ≡ true → done < length (due_sets from to)
      → Tells from to done (Ok (Some (record { setting = setting_at k; number = number_at to k })))
  none_left : (allowed from && allowed to) ≡ true → length (due_sets from to) ≤ done → Tells from to done (Ok None)
  not_allowed_lem : (allowed from && allowed to) ≡ false → Tells from to done (Err not_allowed)

abbrev pub DueTells : Type 0
DueTells = (from to : Table) (done : ℕ) → Tells from to done (due_in from to done)
