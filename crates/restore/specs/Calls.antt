-- What each public call answers, for every input. Assumes nothing.
use Rattle.std.specs.Prelude.{ℕ, zero, suc, ◌*◌, Some, None, Ok, Err, Bool, cond, ◌&&◌, List, [], ◌∷◌, ◌++◌, length, ltb, Option}
use Rattle.paper.specs.Numbers as paper
use Rattle.paper.specs.declared.Refusal.{Refusal}
use Rattle.laws.specs.Promise.{Given}
use Rattle.settings.specs.Columns.{count}
use Rattle.tables.specs.Rules.{allowed}
use Rattle.tables.specs.declared.Table.{Table}
use Rattle.requests.specs.Requests.{set_request}
use Rattle.restore.specs.Order.{due_sets}
use Rattle.requests.specs.declared.Wanted.{Wanted}
use Rattle.restore.specs.Answers.{Listed, Sets, Due}

-- both tables are allowed
abbrev pub both_allowed : Table → Table → Bool
both_allowed from to = allowed from && allowed to

-- "Frames stand end to end."
abbrev pub frames_for : List Wanted → List ℕ
frames_for [] = []
frames_for (w ∷ more) = set_request w.setting.index w.number ++ frames_for more

-- "Refusals: 11 under 390 bytes of room, always, then 12." A Set is at most 15 bytes long.
abbrev pub list_room : ℕ
list_room = 15 * count

abbrev pub unlisted : Refusal → Given Listed
unlisted refusal = record { answer = Err refusal; written = [] }

abbrev pub listed_as : List Wanted → Given Listed
listed_as due = record { answer = Ok (record { len = length (frames_for due); sets = length due }); written = frames_for due }

unfoldable pub listing : Table → Table → ℕ → Given Listed
listing from to room =
    cond (ltb room list_room) (unlisted paper.short_buffer) (cond (both_allowed from to) (listed_as (due_sets from to)) (unlisted paper.not_allowed))

-- how many Sets there are
unfoldable pub sets_due : Table → Table → Sets
sets_due from to = cond (both_allowed from to) (Ok (length (due_sets from to))) (Err paper.not_allowed)

-- the Set that is due when this many before it are done, or none
abbrev pub set_after : List Wanted → ℕ → Option Wanted
set_after [] n = None
set_after (w ∷ more) zero = Some w
set_after (w ∷ more) (suc n) = set_after more n

abbrev pub due_after : List Wanted → ℕ → Due
due_after due n = Ok (set_after due n)

unfoldable pub due_in : Table → Table → ℕ → Due
due_in from to n = cond (both_allowed from to) (due_after (due_sets from to) n) (Err paper.not_allowed)
