-- What is proved of the definitions, as statements to compare with the papers. Each is proved under its name in proofs/Theorems.antt.
-- Assumes nothing.
use Rattle.std.specs.Prelude.{ℕ, ◌^◌, ◌<◌, ◌≡◌, ◌≢◌, ◌↔◌, true, false, not, ◌&&◌, List, [], ◌∷◌, ◌++◌, length, drop, replicate}
use Rattle.std.proofs.Math.Option.{some}
use Rattle.paper.specs.Numbers as paper
use Rattle.laws.specs.Lists.{Bytes}
use Rattle.wire.specs.Laws.{Writable}
use Rattle.laws.specs.Refusals.{row, first_of}
use Rattle.settings.specs.Columns.{count, id_at, width_at}
use Rattle.settings.specs.Rules.{allowed_for, Nearest}
use Rattle.tables.specs.Rules.{allowed, number_at, partner_number, changed}
use Rattle.tables.specs.declared.Table.{Table}
use Rattle.who.specs.Parts.{identity_allowed}
use Rattle.who.specs.Laws.{Holds}
use Rattle.endian.specs.Numbers.{little, said}
use Rattle.paper.specs.Numbers.{get_code, set_code}
use Rattle.answers.specs.Answers.{core_allowed, with_table, Sent, silent, sent, error, Decision, staying, frame_answer, makes}
use Rattle.answers.specs.Refusals.{rows, number_of, Told}
use Rattle.answers.specs.Calls.{answering}
use Rattle.answers.specs.AsHeld.{decided_of}
use Rattle.paper.specs.declared.Refusal.{Refusal}
use Rattle.answers.specs.declared.Core.{Core}
use Rattle.answers.specs.declared.Outcome.{Outcome}
use Rattle.answers.specs.declared.Message.{Message}
use Rattle.answers.specs.declared.Sends.{Sends}
use Rattle.answers.specs.declared.Decided.{Decided}

-- 1. Every reply fits a frame.
pub data Fits : Sent → Type 0 where
  nothing : Fits silent
  a_frame : {command : ℕ} {bytes : List ℕ} → Writable command bytes → Fits (sent command bytes)
  an_error : Fits error

abbrev pub RepliesFit : Type 0
RepliesFit =
    (core : Core) (command : ℕ) (bytes : List ℕ) → identity_allowed core.identity ≡ true → command < 256
    → Fits (frame_answer core command bytes).reply

-- 2. "On 1 to 10 the settings and readings stay."
abbrev pub RefusedStays : Type 0
RefusedStays =
    (core : Core) (command : ℕ) (bytes : List ℕ) (refusal : Refusal)
    → (frame_answer core command bytes).outcome ≡ Outcome.Refused refusal → (frame_answer core command bytes).core ≡ core

-- 3. The table afterwards is what a complete, valid Set makes of it, whatever else the frame is; it stays allowed, and the board who it was.
abbrev pub AnswerMakes : Type 0
AnswerMakes = (core : Core) (command : ℕ) (bytes : List ℕ) → (frame_answer core command bytes).core.table ≡ makes core.table command bytes

abbrev pub IdentityStays : Type 0
IdentityStays = (core : Core) (command : ℕ) (bytes : List ℕ) → (frame_answer core command bytes).core.identity ≡ core.identity

-- its readings stay too, unless a restart is reported
abbrev pub ReadingsStay : Type 0
ReadingsStay =
    (core : Core) (command : ℕ) (bytes : List ℕ)
    → (frame_answer core command bytes).outcome ≢ Outcome.Restarted → (frame_answer core command bytes).core.readings ≡ core.readings

abbrev pub MakesKeepsAllowed : Type 0
MakesKeepsAllowed =
    (table : Table) (command : ℕ) (bytes : List ℕ) → length table.numbers ≡ count
    → (allowed table ≡ true → allowed (makes table command bytes) ≡ true) × (length (makes table command bytes).numbers ≡ count)

-- 4. A good Get answers the number now held.
abbrev pub GetAnswersHeld : Type 0
GetAnswersHeld =
    (core : Core) (k : ℕ) → k < count
    → frame_answer core get_code (said (id_at k) paper.no_flags []) ≡ staying core Outcome.Answered (sent get_code (said (id_at k) paper.good_flag (little (width_at k) (number_at core.table k))))

-- and a Get of a read-only id the value that it holds
abbrev pub GetAnswersReadOnly : Type 0
GetAnswersReadOnly =
    (core : Core) (id : ℕ) (value : List ℕ) → Holds core.identity core.readings id value
    → frame_answer core get_code (said id paper.no_flags []) ≡ staying core Outcome.Answered (sent get_code (said id paper.good_flag value))

-- 5. A good Set answers what it stored and stores what it answered, that setting alone; one that is not allowed stores nothing, and answers
-- flag 04 and the nearest allowed number.
abbrev pub SetStoresIt : Type 0
SetStoresIt =
    (core : Core) (k n : ℕ) → allowed core.table ≡ true → k < count → allowed_for k n (partner_number core.table k) ≡ true
    → frame_answer core set_code (said (id_at k) paper.no_flags (little (width_at k) n)) ≡ staying (with_table core (changed core.table k n)) Outcome.Answered (sent set_code (said (id_at k) paper.good_flag (little (width_at k) n)))

abbrev pub SetRefusedNamesNearest : Type 0
SetRefusedNamesNearest =
    (core : Core) (k n : ℕ) → allowed core.table ≡ true → k < count → n < 256 ^ width_at k
    → allowed_for k n (partner_number core.table k) ≡ false
    → (m : ℕ) × Nearest k n (partner_number core.table k) m
    × (frame_answer core set_code (said (id_at k) paper.no_flags (little (width_at k) n)) ≡ staying core (Outcome.Refused paper.number_not_allowed) (sent set_code (said (id_at k) paper.parameter_flag (little (width_at k) m))))

-- 6. Refusals 5 to 10 are "given exactly when" their condition holds and none before it does, 12 before them, and no other number is.
abbrev pub RefusalGivenWhen : Type 0
RefusalGivenWhen =
    (core : Core) (command : ℕ) (bytes : List ℕ)
    → number_of (answering core command bytes).outcome ≡ first_of (row 12 (not (identity_allowed core.identity && allowed core.table)) ∷ rows core command bytes)

-- A core is allowed exactly when 12 is not the answer, whatever the frame: what `is_allowed` answers is what the call looks at.
abbrev pub AllowedIsAnswered : Type 0
AllowedIsAnswered = (core : Core) (command : ℕ) (bytes : List ℕ) → (core_allowed core ≡ false) ↔ (number_of (answering core command bytes).outcome ≡ some 12)

-- 7. The public call's answer holds what is decided: the outcome, the core, and the reply as nothing, as the error frame, or as a command with
-- its data as few bytes, at the front of 35, the rest of which are 0.
abbrev pub held : ℕ → List ℕ → Message
held command bytes = record { command = command; bytes = record { len = length bytes; bytes = bytes ++ drop (length bytes) (replicate 35 0) } }

pub data HeldAs : Sent → Sends → Type 0 where
  nothing : HeldAs silent Sends.Nothing
  an_error : HeldAs error Sends.Error
  a_frame : {command : ℕ} {bytes : List ℕ} → HeldAs (sent command bytes) (Sends.Frame (held command bytes))

pub record Holding (d : Decision) (answer : Decided) : Type 0 where
  pub outcome_is : answer.outcome ≡ d.outcome
  pub core_is : answer.core ≡ d.core
  pub reply_is : HeldAs d.reply answer.sends

abbrev pub AnswerHolds : Type 0
AnswerHolds = (core : Core) (command : ℕ) (bytes : List ℕ) → let d = answering core command bytes in Holding d (decided_of d)

-- 8. The outcome, the reply and the board afterwards belong together. (Data are bytes in every value of the type.)
abbrev pub OutcomeAndReply : Type 0
OutcomeAndReply =
    (core : Core) (command : ℕ) (bytes : List ℕ) → Bytes bytes
    → let d = answering core command bytes in Told core command bytes d.outcome d.reply d.core
