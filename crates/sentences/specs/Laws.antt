-- What is proved of the sentences. Each is proved under its name in proofs/Theorems.antt. (That a follower or a collector is allowed exactly
-- when a start and events give it is AllowedIsReached of `follow` and of `collect`.) Assumes nothing.
use Rattle.std.specs.Prelude.{ℕ, ◌-◌, ◌≤◌, ◌<◌, ◌≡◌, ◌≢◌, ◌↔◌, Ok, Err, true, false, ◌&&◌, List, [], ◌∷◌, ◌++◌, length}
use Rattle.settings.specs.Columns.{count}
use Rattle.settings.specs.declared.Setting.{Setting}
use Rattle.tables.specs.Rules as tables
use Rattle.tables.specs.declared.Table.{Table}
use Rattle.restore.specs.Order.{due_sets}
use Rattle.requests.specs.declared.Wanted.{Wanted}
use Rattle.requests.specs.declared.Request.{Request}
use Rattle.reply.specs.Events.{Event, OnStream}
use Rattle.follow.specs.Following.{standing, total, follower_allowed}
use Rattle.follow.specs.Calls.{starting as following}
use Rattle.follow.specs.Laws.{matched, calls}
use Rattle.follow.specs.declared.Follower.{Follower}
use Rattle.follow.specs.declared.Standing as follows
use Rattle.collect.specs.Collecting.{allowed}
use Rattle.collect.specs.Calls.{stage_of, starting}
use Rattle.collect.specs.Laws.{calls as collects, carried}
use Rattle.collect.specs.declared.Stage.{Stage}
use Rattle.collect.specs.declared.Collector.{Collector}
use Rattle.collect.specs.declared.Collected.{Collected}
use Rattle.paper.specs.Numbers.{number_of}
use Rattle.paper.specs.declared.Refusal.{Refusal}
use Rattle.backup.specs.Answers.{Checked, bad}
use Rattle.backup.specs.Text.{text_of, good}
use Rattle.backup.specs.Calls.{parsing, read_as}
use Rattle.tally.specs.Results.{tally_allowed}
use Rattle.tally.specs.declared.Tally.{Tally}
use Rattle.lines.specs.Lines.{most, chars, line_of, Says}
use Rattle.lines.specs.Numbers.{decimal}
use Rattle.sentences.specs.Texts.{Verdict, numbered, followed_text, progress_text, collected_text, saved_text, checked_text, summed_text}
use Rattle.sentences.specs.declared.Kept.{Kept}

-- 1. The line of a restore says "done" exactly where a start and events give the follower, it is done, and it has confirmed as many Sets as
-- its list has.
pub record AllDone (f : Follower) : Type 0 where
  pub is_allowed : follower_allowed f ≡ true
  pub is_done_lem : standing f ≡ follows.Standing.Done
  pub all_confirmed : f.confirmed ≡ total f

abbrev pub DoneIsDone : Type 0
DoneIsDone = (f : Follower) → Says (line_of (followed_text f)) 0 "done: " ↔ AllDone f

-- It says "equal" exactly where such a follower found nothing to set: its list has no Set.
pub record NothingDue (f : Follower) : Type 0 where
  pub is_allowed : follower_allowed f ≡ true
  pub is_equal_lem : standing f ≡ follows.Standing.Equal
  pub none_due : total f ≡ 0

abbrev pub EqualIsEqual : Type 0
EqualIsEqual = (f : Follower) → Says (line_of (followed_text f)) 0 "equal: " ↔ NothingDue f

-- Every word and number of that line, and of the one of its progress, for any follower that a start and events give.
abbrev pub joined : List (List ℕ) → List ℕ
joined [] = []
joined (part ∷ more) = part ++ joined more

pub record NumbersSaid (f : Follower) (confirmed due : ℕ) : Type 0 where
  pub done_is : standing f ≡ follows.Standing.Done
      → followed_text f ≡ joined (chars "done: " ∷ decimal confirmed ∷ chars " of " ∷ decimal due ∷ chars " settings confirmed" ∷ [])
  pub equal_is : standing f ≡ follows.Standing.Equal → followed_text f ≡ chars "equal: nothing to set"
  pub stopped_is : (wanted : Wanted) → standing f ≡ follows.Standing.Stopped wanted
      → followed_text f
      ≡ joined
      (chars "stopped: " ∷ decimal confirmed ∷ chars " of " ∷ decimal due ∷ chars " settings confirmed, " ∷ decimal (due - confirmed)
      ∷ chars " not confirmed"
      ∷ [])
  pub waiting_is : (request : Request) → standing f ≡ follows.Standing.Waiting request
      → followed_text f ≡ joined (chars "not ended: " ∷ decimal confirmed ∷ chars " of " ∷ decimal due ∷ chars " settings confirmed" ∷ [])
  pub progress_is : progress_text f ≡ joined (decimal confirmed ∷ chars " of " ∷ decimal due ∷ chars " confirmed" ∷ [])

abbrev pub FollowersSay : Type 0
FollowersSay = (f : Follower) → follower_allowed f ≡ true → NumbersSaid f f.confirmed (total f)

-- 2. The same of the public calls, with no follower in it: between two allowed tables, after a row of events, the line says "done" exactly
-- where the list has a Set and as many replies matched the Set due when they came as the list has Sets; it says "equal" exactly where the
-- list is empty; and the numbers printed are that of the replies which matched and that of the list's Sets.
abbrev pub followed_by : Table → Table → List Event → Follower
followed_by from to events = (calls (following from to) events).follower

pub record LineSays (from to : Table) (events : List Event) : Type 0 where
  pub done_when : Says (line_of (followed_text (followed_by from to events))) 0 "done: "
      ↔ ((0 < length (due_sets from to)) × (matched (due_sets from to) events ≡ length (due_sets from to)))
  pub equal_when : Says (line_of (followed_text (followed_by from to events))) 0 "equal: " ↔ (length (due_sets from to) ≡ 0)
  pub numbers_are : NumbersSaid (followed_by from to events) (matched (due_sets from to) events) (length (due_sets from to))

abbrev pub LineIsMatched : Type 0
LineIsMatched = (from to : Table) (events : List Event) → (tables.allowed from && tables.allowed to) ≡ true → OnStream events → LineSays from to events

-- 3. The line of a board that was read says "all" exactly where a start and events give the collector and it is done. A file is said to be saved exactly
-- where, besides, the caller says that it is on the disk; and to be as it was exactly where, besides, the caller says that.
pub record Complete (c : Collector) : Type 0 where
  pub is_allowed : allowed c ≡ true
  pub is_done_lem : stage_of c.len c.stopped ≡ Stage.Done

abbrev pub ReadIsRead : Type 0
ReadIsRead = (c : Collector) → Says (line_of (collected_text c)) 0 "all " ↔ Complete c

abbrev pub SavedIsSaved : Type 0
SavedIsSaved = (c : Collector) (kept : Kept) → Says (line_of (saved_text c kept)) 0 "saved: " ↔ (Complete c × (kept ≡ Kept.Whole))

abbrev pub NotSavedIsNot : Type 0
NotSavedIsNot =
    (c : Collector) (kept : Kept) → Says (line_of (saved_text c kept)) 0 "not saved: the file is as it was" ↔ (Complete c × (kept ≡ Kept.Not))

-- The words and numbers of the line of a board that was read, by how far its collector is and how many settings were answered.
pub record ReadSaid (c : Collector) (stage : Stage) (answered : ℕ) : Type 0 where
  pub all_is : stage ≡ Stage.Done → collected_text c ≡ joined (chars "all " ∷ decimal answered ∷ chars " settings read" ∷ [])
  pub stopped_is : (setting : Setting) → stage ≡ Stage.Stopped setting
      → collected_text c ≡ joined (chars "stopped: " ∷ decimal answered ∷ chars " of " ∷ decimal count ∷ chars " settings read" ∷ [])
  pub waiting_is : (setting : Setting) → stage ≡ Stage.Waiting setting
      → collected_text c ≡ joined (chars "not ended: " ∷ decimal answered ∷ chars " of " ∷ decimal count ∷ chars " settings read" ∷ [])

-- That line said of the public calls, with no collector in it: after a row of events the line says "all" exactly where the replies
-- carried a number for every setting, and the number printed is that of the numbers carried.
abbrev pub collected_by : List Event → Collected
collected_by events = collects starting events

pub record CarriedSays (events : List Event) : Type 0 where
  pub all_when : Says (line_of (collected_text (collected_by events).collector)) 0 "all " ↔ (length (carried events).numbers ≡ count)
  pub numbers_are : ReadSaid (collected_by events).collector (collected_by events).stage (length (carried events).numbers)

abbrev pub LineIsCarried : Type 0
LineIsCarried = (events : List Event) → OnStream events → CarriedSays events

-- 4. A backup is said to be good exactly where it is accepted: where it is byte for byte the text of an allowed table.
abbrev pub GoodIsGood : Type 0
GoodIsGood = (verdict : Verdict) → Says (line_of (checked_text verdict)) 0 "good: " ↔ (verdict ≡ Ok tt)

-- The same of any verdict of `backup`, which `judged` tells.
abbrev pub TextIsGood : Type 0
TextIsGood = (verdict : Checked) → Says (line_of (checked_text (numbered verdict))) 0 "good: " ↔ (verdict ≡ Ok tt)

pub record IsBackup (text : List ℕ) : Type 0 where
  pub table : Table
  pub is_whole : length table.numbers ≡ count
  pub is_allowed : tables.allowed table ≡ true
  pub is_text : text ≡ text_of table

abbrev pub GoodIsBackup : Type 0
GoodIsBackup = (text : List ℕ) → Says (line_of (checked_text (numbered (parsing text).verdict))) 0 "good: " ↔ IsBackup text

-- 5. The line of a yard says after its first two counts that none stopped, was silent or was not begun exactly where the tally is allowed
-- and has none; and it begins with no board done and none equal exactly where the tally is allowed and has none of these.
unfoldable pub front_text : Tally → List ℕ
front_text t = chars "yard: " ++ decimal t.done ++ chars " done, " ++ decimal t.equal

pub record NoneLeft (t : Tally) : Type 0 where
  pub is_allowed : tally_allowed t ≡ true
  pub none_stopped : t.stopped ≡ 0
  pub none_silent : t.silent ≡ 0
  pub none_unbegun : t.unbegun ≡ 0

abbrev pub WellIsWell : Type 0
WellIsWell = (t : Tally) → Says (line_of (summed_text t)) (length (front_text t)) " equal, 0 stopped, 0 silent, 0 not begun; " ↔ NoneLeft t

pub record NoneReady (t : Tally) : Type 0 where
  pub is_allowed : tally_allowed t ≡ true
  pub none_done : t.done ≡ 0
  pub none_equal : t.equal ≡ 0

abbrev pub NoneIsNone : Type 0
NoneIsNone = (t : Tally) → Says (line_of (summed_text t)) 0 "yard: 0 done, 0 equal, " ↔ NoneReady t

-- Every sum in it, word by word.
abbrev pub SumsAreSaid : Type 0
SumsAreSaid =
    (t : Tally) → tally_allowed t ≡ true
    → summed_text t
    ≡ joined
    (chars "yard: " ∷ decimal t.done ∷ chars " done, " ∷ decimal t.equal ∷ chars " equal, " ∷ decimal t.stopped ∷ chars " stopped, "
    ∷ decimal t.silent
    ∷ chars " silent, "
    ∷ decimal t.unbegun
    ∷ chars " not begun; "
    ∷ decimal t.confirmed
    ∷ chars " of "
    ∷ decimal t.due
    ∷ chars " settings confirmed"
    ∷ [])

-- 6. A state that no calls of its machine give is told as refused 12, and no other.
abbrev pub StrayFollower : Type 0
StrayFollower =
    (f : Follower) → (Says (line_of (followed_text f)) 0 "refused 12" ↔ (follower_allowed f ≡ false))
    × (Says (line_of (progress_text f)) 0 "refused 12" ↔ (follower_allowed f ≡ false))

abbrev pub StrayCollector : Type 0
StrayCollector =
    (c : Collector) (kept : Kept) → (Says (line_of (collected_text c)) 0 "refused 12" ↔ (allowed c ≡ false))
    × (Says (line_of (saved_text c kept)) 0 "refused 12" ↔ (allowed c ≡ false))

abbrev pub StrayTally : Type 0
StrayTally = (t : Tally) → Says (line_of (summed_text t)) 0 "refused 12" ↔ (tally_allowed t ≡ false)

-- 7. The number of settings printed is the collector's own, which is all of them where all are read;
pub record CollectorSays (c : Collector) : Type 0 where
  pub read_is : allowed c ≡ true → ReadSaid c (stage_of c.len c.stopped) c.len
  pub saved_is : Complete c → saved_text c Kept.Whole ≡ joined (chars "saved: " ∷ decimal c.len ∷ chars " settings" ∷ [])
  pub unsure_is : Complete c → saved_text c Kept.Unsure ≡ chars "not sure: a power cut may bring the old file back"
  pub unread_is : (kept : Kept) → allowed c ≡ true → c.len < count → saved_text c kept ≡ chars "not saved: not every setting was read"
  pub all_read : Complete c → c.len ≡ count

abbrev pub CollectorsCount : Type 0
CollectorsCount = (c : Collector) → CollectorSays c

-- and that of a good file is the number of settings in the table that it holds.
abbrev pub FilesCount : Type 0
FilesCount =
    (text : List ℕ) (table : Table) → parsing text ≡ read_as (good table)
    → checked_text (numbered (parsing text).verdict)
    ≡ joined (chars "good: " ∷ decimal (length table.numbers) ∷ chars " settings, every number in range, every pair agrees" ∷ [])

-- A refused one is told by the number of its refusal, whatever that is, and by its line where it has one.
abbrev pub RefusalIsTold : Type 0
RefusalIsTold =
    (number row : ℕ)
    → (checked_text (Err (record { number = number; line = 0 })) ≡ joined (chars "refused " ∷ decimal number ∷ []))
    × (row ≢ 0
    → checked_text (Err (record { number = number; line = row })) ≡ joined (chars "refused " ∷ decimal number ∷ chars ", line " ∷ decimal row ∷ []))

-- So is a bad text, by the number of its refusal, whatever that and its line are.
abbrev pub TextIsTold : Type 0
TextIsTold =
    (refusal : Refusal) (row : ℕ)
    → (checked_text (numbered (Err (bad refusal 0))) ≡ joined (chars "refused " ∷ decimal (number_of refusal) ∷ []))
    × (row ≢ 0
    → checked_text (numbered (Err (bad refusal row)))
    ≡ joined (chars "refused " ∷ decimal (number_of refusal) ∷ chars ", line " ∷ decimal row ∷ []))

-- 8. No sentence is cut: each fits a line, with any counts.
abbrev pub Fits : List ℕ → Type 0
Fits text = length text ≤ most

abbrev pub FollowersFit : Type 0
FollowersFit = (f : Follower) → Fits (followed_text f) × Fits (progress_text f)

abbrev pub FilesFit : Type 0
FilesFit = (c : Collector) (kept : Kept) (verdict : Verdict) → Fits (collected_text c) × (Fits (saved_text c kept) × Fits (checked_text verdict))

abbrev pub YardsFit : Type 0
YardsFit = (t : Tally) → Fits (summed_text t)
