-- A collector asks a Get for each setting in order and takes the numbers that the board answers. All of it is ours; where the words are
-- in quotes they are document 01's of the follower, "Restore list and its following", which is the model. Assumes nothing.
use Rattle.std.specs.Prelude.{ℕ, suc, min, Bool, true, false, cond, not, ◌&&◌, List, length, get_or, set, drop, replicate, ltb, leb, eqb, Some, None}
use Rattle.laws.specs.Lists.{every, up_to}
use Rattle.paper.specs.Numbers.{get_code}
use Rattle.endian.specs.Numbers.{from_little}
use Rattle.settings.specs.Columns.{count, id_at, width_at, partner_at}
use Rattle.settings.specs.Rules.{allowed_for}
use Rattle.reply.specs.Replies.{rest}
use Rattle.reply.specs.Calls.{heeding}
use Rattle.reply.specs.Answers.{Heeded}
use Rattle.reply.specs.Events.{Event, heard, refused_frame, no_answer, most_tries}
use Rattle.reply.specs.declared.Status.{Status}
use Rattle.collect.specs.declared.Collector.{Collector}
use Rattle.collect.specs.declared.place.Intake.{Intake}

-- A number fits place k when it is in the setting's own range and agrees with the partner's number, if that was answered before (a number
-- agrees with itself). So every table that is done is allowed, and a stop names the setting at which it goes wrong.
unfoldable pub fits : List ℕ → ℕ → ℕ → Bool
fits numbers k n = allowed_for k n (cond (ltb (partner_at k) k) (get_or numbers (partner_at k) 0) n)

-- a good reply with the due id: the right width and a number that fits, or it stops
unfoldable pub valued : List ℕ → ℕ → List ℕ → Intake
valued numbers k value =
    cond (eqb (length value) (width_at k)) (cond (fits numbers k (from_little value)) (Intake.Takes (from_little value)) Intake.Stops) Intake.Stops

-- a Get reply with the due id: "and anything else ends it as stopped"; "all other replies, [..] and refused frames included, keep waiting"
abbrev pub on_status : List ℕ → ℕ → List ℕ → Status → Intake
on_status numbers k value Status.Good = valued numbers k value
on_status numbers k value Status.UnknownId = Intake.Stops
on_status numbers k value Status.NotSupported = Intake.Stops
on_status numbers k value Status.ParameterError = Intake.Stops

abbrev pub on_heeded : List ℕ → ℕ → List ℕ → Heeded → Intake
on_heeded numbers k value None = Intake.Waits
on_heeded numbers k value (Some status) = on_status numbers k value status

-- what is taken of an event while the setting at place k is due, with the numbers answered so far
unfoldable pub intake_of : List ℕ → ℕ → Event → Intake
intake_of numbers k (heard command bytes) = on_heeded numbers k (rest bytes) (heeding get_code (id_at k) command bytes)
intake_of numbers k refused_frame = Intake.Waits
intake_of numbers k no_answer = Intake.Silence

-- a collector after what came to its Get
unfoldable pub took : Collector → ℕ → Collector
took c n = record { len = suc c.len; numbers = set c.numbers c.len n; silences = 0; stopped = c.stopped }

unfoldable pub halted : Collector → Collector
halted c = record { len = c.len; numbers = c.numbers; silences = c.silences; stopped = true }

-- "The caller may say "no answer", which stops": a Get changes nothing on the board, so it is asked again, three times in all (ours), and the
-- third "no answer" in a row stops
abbrev pub counted : ℕ → ℕ
counted silences = min most_tries (suc silences)

unfoldable pub silenced : Collector → Collector
silenced c =
    record {
      len = c.len;
      numbers = c.numbers;
      silences = counted c.silences;
      stopped = leb most_tries (counted c.silences);
    }

abbrev pub moved : Collector → Intake → Collector
moved c (Intake.Takes n) = took c n
moved c Intake.Stops = halted c
moved c Intake.Waits = c
moved c Intake.Silence = silenced c

-- and after an event. "All confirmed ends as done. Ended stays ended."
unfoldable pub is_waiting : Collector → Bool
is_waiting c = not c.stopped && ltb c.len count

unfoldable pub advanced : Collector → Event → Collector
advanced c e = cond (is_waiting c) (moved c (intake_of c.numbers c.len e)) c

-- the start: nothing is answered, the first setting is due
unfoldable pub begun : Collector
begun = record { len = 0; numbers = replicate count 0; silences = 0; stopped = false }

-- A state is allowed when a start and events give it (the law AllowedIsReached): no more settings are answered than there are, and fewer
-- where it stopped, every number answered fits those before it, and 0 is past them; there are fewer than three silences while a setting is
-- due, at most three where it stopped, and none where all are answered.
abbrev pub within : ℕ → ℕ → Bool → Bool
within len silences stopped =
    cond stopped (ltb len count && leb silences most_tries)
    (cond (ltb len count) (ltb silences most_tries) (eqb len count && eqb silences 0))

unfoldable pub all_fit : List ℕ → ℕ → Bool
all_fit numbers len = up_to len (λ j. fits numbers j (get_or numbers j 0))

abbrev pub none_after : List ℕ → ℕ → Bool
none_after numbers len = every (eqb 0) (drop len numbers)

unfoldable pub allowed : Collector → Bool
allowed c = within c.len c.silences c.stopped && (all_fit c.numbers c.len && none_after c.numbers c.len)
