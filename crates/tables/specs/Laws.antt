-- What is proved of the definitions, as statements to compare with the papers. Each is proved under its name in proofs/Theorems.antt.
-- Assumes nothing.
use Rattle.std.specs.Prelude.{ℕ, ◌^◌, ◌<◌, ◌≡◌, ◌≢◌, Ok, Err, true, false, not, ◌||◌, [], ◌∷◌, map, length, ltb}
use Rattle.std.proofs.Math.Option.{Option, none, some}
use Rattle.laws.specs.Refusals.{row, first_of}
use Rattle.settings.specs.Columns.{count, ids, partner_at, role_at}
use Rattle.settings.specs.Printed.{lines, factory_in}
use Rattle.settings.specs.Rules.{agrees, allowed_for, Nearest}
use Rattle.tables.specs.Rules.{number_at, partner_number, allowed, factory}
use Rattle.paper.specs.Numbers.{not_allowed, number_not_allowed, number_of}
use Rattle.tables.specs.Calls.{set_to}
use Rattle.tables.specs.declared.Table.{Table}
use Rattle.tables.specs.Answers.{Answer, denied}
use Rattle.tables.specs.declared.Denied.{Denied}

-- 1. A Set's refusals: 12 "a handed-in number, state or table is not allowed", here a table or a place past it; then 10 "number not allowed".
-- With 12 the nearest number is 0 and the table is as it was.
abbrev pub refusal_of : Answer → Option ℕ
refusal_of (Ok done) = none
refusal_of (Err why) = some (number_of why.refusal)

abbrev pub SetGivenWhen : Type 0
SetGivenWhen =
    (t : Table) (k n : ℕ)
    → (refusal_of (set_to t k n).answer
    ≡ first_of (row 12 (not (allowed t) || not (ltb k count)) ∷ row 10 (not (allowed_for k n (partner_number t k))) ∷ []))
    × ((not (allowed t) || not (ltb k count)) ≡ true → set_to t k n ≡ record { answer = Err (denied not_allowed 0); table = t })

-- A Set of an allowed number is accepted and stores it; any other is refused with the nearest allowed number. Either way the table stays
-- allowed and no other setting changes. (A table has its numbers in every value of the type, which `length` says.)
abbrev pub SetStores : Type 0
SetStores =
    (t : Table) (k n : ℕ) → length t.numbers ≡ count → allowed t ≡ true → k < count → allowed_for k n (partner_number t k) ≡ true
    → ((set_to t k n).answer ≡ Ok tt) × (number_at (set_to t k n).table k ≡ n)

-- "Setting an equal number is accepted", and the table stays as it was.
abbrev pub EqualIsAccepted : Type 0
EqualIsAccepted = (t : Table) (k : ℕ) → allowed t ≡ true → k < count → set_to t k (number_at t k) ≡ record { answer = Ok tt; table = t }

abbrev pub RefusedNamesNearest : Type 0
RefusedNamesNearest =
    (t : Table) (k n : ℕ) → allowed t ≡ true → k < count → n < 2 ^ 16 → allowed_for k n (partner_number t k) ≡ false
    → (m : ℕ) × (set_to t k n ≡ record { answer = Err (denied number_not_allowed m); table = t }) × Nearest k n (partner_number t k) m

abbrev pub SetKeepsAllowed : Type 0
SetKeepsAllowed =
    (t : Table) (k n : ℕ) → length t.numbers ≡ count → allowed t ≡ true → allowed (set_to t k n).table ≡ true

abbrev pub RefusedKeeps : Type 0
RefusedKeeps = (t : Table) (k n : ℕ) (why : Denied) → (set_to t k n).answer ≡ Err why → (set_to t k n).table ≡ t

abbrev pub SetKeepsCount : Type 0
SetKeepsCount = (t : Table) (k n : ℕ) → length (set_to t k n).table.numbers ≡ length t.numbers

abbrev pub SetChangesOne : Type 0
SetChangesOne = (t : Table) (k n j : ℕ) → j ≢ k → number_at (set_to t k n).table j ≡ number_at t j

-- 2. The factory table has the factory number that is printed for each id, and it is allowed.
abbrev pub FactoryIsPrinted : Type 0
FactoryIsPrinted = map (factory_in lines) ids ≡ map some factory.numbers

abbrev pub FactoryIsAllowed : Type 0
FactoryIsAllowed = allowed factory ≡ true

-- 3. For the order of a restore, between two allowed tables: the setting's new number agrees with the partner's present one, or else
-- the partner's new number agrees with the setting's present one; and once one of the two is set, the other's new number agrees.
pub record Order (from to : Table) (k : ℕ) : Type 0 where
  pub else_partner : agrees (role_at k) (number_at to k) (number_at from (partner_at k)) ≡ false
      → agrees (role_at (partner_at k)) (number_at to (partner_at k)) (number_at from k) ≡ true
  pub then_setting : agrees (role_at k) (number_at to k) (number_at to (partner_at k)) ≡ true
  pub then_partner : agrees (role_at (partner_at k)) (number_at to (partner_at k)) (number_at to k) ≡ true

abbrev pub PairsHaveAnOrder : Type 0
PairsHaveAnOrder = (from to : Table) → allowed from ≡ true → allowed to ≡ true → (k : ℕ) → k < count → Order from to k
