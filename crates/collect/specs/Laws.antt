-- What is proved of the definitions, as statements to compare with the papers. Each is proved under its name in proofs/Theorems.antt.
-- (The numbers of a collector and of a table are `count` in every value of the type, which `length` says.) Assumes nothing.
use Rattle.std.specs.Prelude.{ℕ, suc, ◌<◌, ◌≡◌, ◌≢◌, ◌↔◌, Bool, true, false, cond, ◌&&◌, List, [], ◌∷◌, ◌++◌, length, take, drop, ltb}
use Rattle.laws.specs.Lists.{same}
use Rattle.endian.specs.Numbers.{little, from_little, said}
use Rattle.settings.specs.Columns.{count, id_at, width_at}
use Rattle.settings.specs.Calls.{setting_at}
use Rattle.settings.specs.declared.Setting.{Setting}
use Rattle.tables.specs.Rules.{factory}
use Rattle.tables.specs.Rules as tables
use Rattle.tables.specs.declared.Table.{Table}
use Rattle.paper.specs.Numbers.{get_code, not_allowed}
use Rattle.paper.specs.declared.Refusal.{Refusal}
use Rattle.reply.specs.Events.{Event, heard, refused_frame, no_answer, OnStream, answers}
use Rattle.collect.specs.Collecting.{fits, advanced, begun, allowed}
use Rattle.collect.specs.Calls.{told, starting, collecting}
use Rattle.collect.specs.declared.Collector.{Collector}
use Rattle.collect.specs.declared.Stage.{Stage}
use Rattle.collect.specs.declared.Collected.{Collected}
use Rattle.collect.specs.declared.place.Intake.{Intake}

-- A row of calls, each on the collector that the last one handed back.
abbrev pub calls : Collected → List Event → Collected
calls last [] = last
calls last (e ∷ more) = calls (collecting last.collector e) more

-- 1. A state is allowed exactly when a start and events that a stream can give make it, call by call.
pub record Reached (c : Collector) : Type 0 where
  pub events : List Event
  pub stream : OnStream events
  pub arrives : (calls starting events).collector ≡ c

abbrev pub AllowedIsReached : Type 0
AllowedIsReached = (c : Collector) → length c.numbers ≡ count → (allowed c ≡ true) ↔ Reached c

-- Every call on another is refused 12, with the collector "as it was, with counts [..] 0" and the factory table, and on no other.
abbrev pub refused_by : Refusal → Collector → Collected
refused_by refusal c = record { collector = c; stage = Stage.Refused refusal; answered = 0; table = factory }

abbrev pub RefusedIsStray : Type 0
RefusedIsStray =
    (c : Collector) → length c.numbers ≡ count
    → ((told c ≡ refused_by not_allowed c) ↔ (Reached c → ⊥)) × ((e : Event) → (collecting c e ≡ refused_by not_allowed c) ↔ (Reached c → ⊥))

-- The collector that a row of calls hands back, by what an event makes of a collector: for proofs above.
abbrev pub run : Collector → List Event → Collector
run c [] = c
run c (e ∷ more) = run (advanced c e) more

abbrev pub CallsFollow : Type 0
CallsFollow = (events : List Event) → (calls starting events).collector ≡ run begun events

-- 2. The table given holds exactly the numbers that the matching replies carried. Said in bytes, and with no collector: a good reply to
-- the Get of place k with number n.
abbrev pub good_reply : ℕ → ℕ → List ℕ
good_reply k n = said (id_at k) 0 (little (width_at k) n)

-- what an event carries for place k, with the numbers so far: the number of a good reply, if it fits; any other reply to the Get ends it;
-- "no answer" is a silence; everything else carries nothing
unfoldable pub carries : List ℕ → ℕ → Event → Intake
carries so_far k (heard command bytes) =
    let n = from_little (drop 3 bytes) in
    cond (answers get_code (id_at k) command bytes)
    (cond (same bytes (good_reply k n) && fits so_far k n) (Intake.Takes n) Intake.Stops)
    Intake.Waits
carries so_far k refused_frame = Intake.Waits
carries so_far k no_answer = Intake.Silence

-- what a row of events carries: the numbers, one after the other, and whether one of the events ended it before every setting had one
pub record Carried : Type 0 where
  pub numbers : List ℕ
  pub ended : Bool

abbrev pub following : (ℕ → Carried) → Carried → Carried → Carried → Intake → Carried
following next stop later silent (Intake.Takes n) = next n
following next stop later silent Intake.Stops = stop
following next stop later silent Intake.Waits = later
following next stop later silent Intake.Silence = silent

-- with how many silences came since the last number: the third in a row ends it
abbrev pub carried_after : ℕ → List ℕ → List Event → Carried
carried_after silences so_far [] = record { numbers = so_far; ended = false }
carried_after silences so_far (e ∷ more) =
    let stop : Carried = record { numbers = so_far; ended = true } in
    cond (ltb (length so_far) count)
    (following (λ n. carried_after 0 (so_far ++ n ∷ []) more) stop (carried_after silences so_far more)
    (cond (ltb (suc silences) 3) (carried_after (suc silences) so_far more) stop)
    (carries so_far (length so_far) e))
    (record { numbers = so_far; ended = false })

abbrev pub carried : List Event → Carried
carried events = carried_after 0 [] events

-- How far the reading is, by what was carried: done exactly where every setting has a number; stopped exactly where an event ended it;
-- waiting exactly where a setting is left and none did. The setting named is the one after those that have a number.
pub data Tells (all : Carried) : Stage → Type 0 where
  tells_done : length all.numbers ≡ count → Tells all Stage.Done
  tells_stopped : all.ended ≡ true → Tells all (Stage.Stopped (setting_at (length all.numbers)))
  tells_waiting : length all.numbers < count → all.ended ≡ false → Tells all (Stage.Waiting (setting_at (length all.numbers)))

-- what the last call answers
pub record Holds (all : Carried) (last : Collected) : Type 0 where
  pub numbers_are : take last.collector.len last.collector.numbers ≡ all.numbers
  pub answered_are : last.answered ≡ length all.numbers
  pub stage_when : (s : Stage) → (last.stage ≡ s) ↔ Tells all s
  pub table_is : last.stage ≡ Stage.Done → last.table ≡ record { numbers = all.numbers }

abbrev pub TableIsCarried : Type 0
TableIsCarried = (events : List Event) → OnStream events → Holds (carried events) (calls starting events)

-- `told` says of the collector that was handed back what was told of it.
abbrev pub ToldIsLast : Type 0
ToldIsLast = (events : List Event) → told (calls starting events).collector ≡ calls starting events

-- Where no setting is waited for, the collector has ended: whatever comes, the answer stays.
abbrev pub EndedStays : Type 0
EndedStays =
    (events : List Event) (e : Event) → let last = calls starting events in
    ((s : Setting) → last.stage ≢ Stage.Waiting s) → collecting last.collector e ≡ last

-- 3. A table that is given as done is allowed; every other is the factory table.
pub record Handed (last : Collected) : Type 0 where
  pub done_allowed : last.stage ≡ Stage.Done → tables.allowed last.table ≡ true
  pub else_factory : last.stage ≢ Stage.Done → last.table ≡ factory

abbrev pub TableIsAllowed : Type 0
TableIsAllowed = Handed starting × ((c : Collector) (e : Event) → length c.numbers ≡ count → Handed (collecting c e))

-- 4. A board that holds an allowed table and answers each Get in order is read: the last call gives that table.
abbrev pub replies : ℕ → List ℕ → List Event
replies k [] = []
replies k (n ∷ more) = heard get_code (good_reply k n) ∷ replies (suc k) more

abbrev pub BoardIsRead : Type 0
BoardIsRead =
    (t : Table) → length t.numbers ≡ count → tables.allowed t ≡ true
    → calls starting (replies 0 t.numbers)
    ≡ record {
      collector = record { len = count; numbers = t.numbers; silences = 0; stopped = false };
      stage = Stage.Done;
      answered = count;
      table = t;
    }
