-- Which Sets restore a table, and in which order. Document 01, "Restore list and its following": "Ascending id, one Set for each differing
-- setting. Where both of a pair differ, the lower id goes first if its new number agrees with the partner's present one, else the higher."
-- `from` is the present table, `to` the one that is wanted; settings are named by their places. Assumes nothing.
use Rattle.std.specs.Prelude.{ℕ, zero, suc, Bool, cond, not, ◌&&◌, List, [], ◌∷◌, ◌++◌, map, ltb, eqb, Option, Some, None}
use Rattle.settings.specs.Columns.{count, partner_at, role_at}
use Rattle.settings.specs.Rules.{agrees}
use Rattle.tables.specs.Rules.{number_at}
use Rattle.settings.specs.Calls.{setting_at}
use Rattle.tables.specs.declared.Table.{Table}
use Rattle.requests.specs.declared.Wanted.{Wanted}

-- a setting that differs
unfoldable pub differs : Table → Table → ℕ → Bool
differs from to k = not (eqb (number_at from k) (number_at to k))

-- of a pair, by its lower and its higher id: both differ, and the lower's new number does not agree with the higher's present one
unfoldable pub higher_first : Table → Table → ℕ → ℕ → Bool
higher_first from to lower higher =
    differs from to lower && (differs from to higher && not (agrees (role_at lower) (number_at to lower) (number_at from higher)))

-- the same of the pair that a setting is in
unfoldable pub exchanged : Table → Table → ℕ → Bool
exchanged from to k = cond (ltb k (partner_at k)) (higher_first from to k (partner_at k)) (higher_first from to (partner_at k) k)

-- the setting that has its turn at a place: the one of that place, but where the higher goes first the two of a pair change places
unfoldable pub placed : Table → Table → ℕ → ℕ
placed from to k = cond (exchanged from to k) (partner_at k) k

abbrev pub turn_at : Table → Table → ℕ → List ℕ
turn_at from to k = cond (differs from to (placed from to k)) (placed from to k ∷ []) []

-- this many places from place k on
unfoldable pub turns_from : ℕ → ℕ → Table → Table → List ℕ
turns_from zero k from to = []
turns_from (suc left) k from to = turn_at from to k ++ turns_from left (suc k) from to

-- the differing settings, in the order in which their Sets go
unfoldable pub order : Table → Table → List ℕ
order from to = turns_from count 0 from to

-- a Set: the setting, and the number that is wanted for it
abbrev pub wanted : Table → ℕ → Wanted
wanted to k = record { setting = setting_at k; number = number_at to k }

-- the Set that has its turn at a place, where that setting differs
unfoldable pub set_at : Table → Table → ℕ → Option Wanted
set_at from to k = cond (ltb k count && differs from to (placed from to k)) (Some (wanted to (placed from to k))) None

abbrev pub due_sets : Table → Table → List Wanted
due_sets from to = map (wanted to) (order from to)
