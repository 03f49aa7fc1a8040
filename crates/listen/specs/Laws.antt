-- What is proved of the definitions, as statements to compare with the papers. Each is proved under its name in proofs/Theorems.antt.
-- Assumes nothing.
use Rattle.std.specs.Prelude.{ℕ, zero, ◌+◌, ◌≤◌, ◌<◌, ◌≡◌, ◌↔◌, Bool, true, false, cond, ◌&&◌, not, List, [], ◌∷◌, ◌++◌, length, take, ltb, leb, eqb}
use Rattle.std.proofs.Math.Option.{Option, none, some}
use Rattle.laws.specs.Promise.{Given}
use Rattle.laws.specs.Refusals.{row, first_of}
use Rattle.laws.specs.Cutting.{Step, Offer, calls, ready}
use Rattle.paper.specs.declared.Refusal.{Refusal}
use Rattle.paper.specs.Numbers.{most_data, short_buffer, not_allowed, number_of}
use Rattle.wire.specs.Parsing.{Ended, good, refused}
use Rattle.wire.specs.declared.Frame.{Frame}
use Rattle.stream.specs.Stream.{frames_from, left_by}
use Rattle.stream.specs.Calls.{allowed, unfinished, held_of}
use Rattle.wire.specs.Laws.{Writable}
use Rattle.stream.specs.Laws.{to_the_end}
use Rattle.reply.specs.Events.{Event, heard, refused_frame, no_answer, OnStream}
use Rattle.listen.specs.Calls.{is_over, starting, asking, listening}
use Rattle.listen.specs.declared.Listener.{Listener}
use Rattle.listen.specs.declared.Told.{Told}
use Rattle.listen.specs.declared.Listened.{Listened}

-- 1. The stream in any cutting. What a read tells of the stream: a frame with its data, of the length that is said (one of another length is
-- none that a stream has: it counts as refused 12, which no frame is); a frame that is refused; or no frame.
abbrev pub frames_in : Told → List ℕ → List Ended
frames_in Told.Nothing written = []
frames_in (Told.Frame frame) written = cond (eqb frame.len (length written)) (good frame.command written) (refused not_allowed) ∷ []
frames_in (Told.Broken refusal) written = refused refusal ∷ []
frames_in Told.NoAnswer written = []
frames_in (Told.Refused refusal) written = []

-- one read: whether a request was sent before it and when, the time that it is handed, and with how much room
pub record Turn : Type 0 where
  pub asks : Bool
  pub sent : ℕ
  pub time : ℕ
  pub room : ℕ

abbrev pub readied : Listener → Turn → Listener
readied l turn = cond turn.asks (asking l turn.sent) l

abbrev pub listens : Listener → Turn → List ℕ → Step Listener Ended
listens l turn piece =
    let given = listening (readied l turn) piece turn.time turn.room in
    record {
      state = given.answer.listener;
      events = frames_in given.answer.told given.written;
      taken = given.answer.taken;
    }

-- a listener whose unfinished frame the earlier bytes left, with any times
abbrev pub listener_at : List ℕ → ℕ → ℕ → Listener
listener_at earlier begun asked = record { held = held_of (left_by earlier); begun = begun; asked = asked }

-- The start is outside a frame, at the time that it is handed.
abbrev pub StartIsOutside : Type 0
StartIsOutside = (time : ℕ) → starting time ≡ listener_at [] time time

-- The frames told, good and broken, are exactly those of the bytes taken, in order, and the frame held is what those bytes leave: in any
-- cutting, what a read did not take being handed on first, at any times, with any room, with reads that gave nothing, and with requests
-- anywhere between. So patience never loses, doubles or invents a frame.
pub record Cut (earlier bytes : List ℕ) (all : Step Listener Ended) : Type 0 where
  pub within : all.taken ≤ length bytes
  pub held_is : all.state.held ≡ held_of (left_by (earlier ++ take all.taken bytes))
  pub frames_are : all.events ≡ frames_from (left_by earlier) (take all.taken bytes)
  pub goes_on : allowed all.state.held ≡ true

abbrev pub AnyCutting : Type 0
AnyCutting =
    (earlier bytes : List ℕ) (begun asked : ℕ) (offers : List (Offer Turn))
    → Cut earlier bytes (calls listens (listener_at earlier begun asked) bytes offers)

-- So reads that take every byte tell all its frames.
abbrev pub WholeIsTold : Type 0
WholeIsTold =
    (earlier bytes : List ℕ) (begun asked : ℕ) (offers : List (Offer Turn))
    → (calls listens (listener_at earlier begun asked) bytes offers).taken ≡ length bytes
    → ((calls listens (listener_at earlier begun asked) bytes offers).events ≡ frames_from (left_by earlier) bytes)
    × ((calls listens (listener_at earlier begun asked) bytes offers).state.held ≡ held_of (left_by (earlier ++ bytes)))

-- And reads in time, that are handed a byte at least and lend room enough, do take every byte, in as many reads as there are bytes.
abbrev pub asked_by : ℕ → Turn → ℕ
asked_by asked turn = cond turn.asks turn.sent asked

abbrev pub in_time : ℕ → ℕ → List (Offer Turn) → Bool
in_time begun asked [] = true
in_time begun asked (o ∷ more) =
    not (is_over begun (asked_by asked o.with) o.with.time) && in_time begun (asked_by asked o.with) more

abbrev pub AllIsTaken : Type 0
AllIsTaken =
    (earlier bytes : List ℕ) (begun asked : ℕ) (offers : List (Offer Turn)) → in_time begun asked offers ≡ true
    → ready (λ turn. leb most_data turn.room) offers ≡ true → length bytes ≤ length offers
    → (calls listens (listener_at earlier begun asked) bytes offers).taken ≡ length bytes

-- Each takes to the first frame end, as the stream's own call does. Said of any way to read:
abbrev pub ReadsToTheEnd : (Listener → List ℕ → ℕ → ℕ → Given Listened) → Type 0
ReadsToTheEnd read =
    (l : Listener) (piece : List ℕ) (time room : ℕ) → most_data ≤ room → allowed l.held ≡ true → is_over l.begun l.asked time ≡ false
    → (read l piece time room).answer.taken ≡ to_the_end (unfinished l.held) piece

abbrev pub ReadTakesToTheEnd : Type 0
ReadTakesToTheEnd = ReadsToTheEnd listening

-- 2. Patience. When the last request before a row's end was sent, which is the start where none was.
abbrev pub last_asked : ℕ → List (Offer Turn) → ℕ
last_asked asked [] = asked
last_asked asked (o ∷ more) = last_asked (asked_by asked o.with) more

-- two seconds since the request, or a minute since the trailer was begun, in milliseconds
pub data Over (begun asked time : ℕ) : Type 0 where
  request_over : asked + 2000 ≤ time → Over begun asked time
  trailer_over : begun + 60000 ≤ time → Over begun asked time

-- Whatever bytes came, in any cutting and at any times, a read tells "no answer" exactly when the time that it is handed is two seconds or
-- more after the last request, or a minute or more after the start.
abbrev pub PatienceEnds : Type 0
PatienceEnds =
    (start : ℕ) (bytes : List ℕ) (offers : List (Offer Turn)) (piece : List ℕ) (time room : ℕ) → most_data ≤ room
    → ((listening (calls listens (starting start) bytes offers).state piece time room).answer.told ≡ Told.NoAnswer)
    ↔ Over start (last_asked start offers) time

-- So after a request, and reads with no other between them, every read from two seconds after it on tells "no answer", whatever bytes came.
abbrev pub unasked : List (Offer Turn) → Bool
unasked [] = true
unasked (o ∷ more) = not o.with.asks && unasked more

abbrev pub RequestEnds : Type 0
RequestEnds =
    (earlier bytes : List ℕ) (begun asked sent : ℕ) (offers : List (Offer Turn)) → unasked offers ≡ true
    → (piece : List ℕ) (time room : ℕ) → most_data ≤ room → sent + 2000 ≤ time
    → (listening (calls listens (asking (listener_at earlier begun asked) sent) bytes offers).state piece time room).answer.told ≡ Told.NoAnswer

-- And it takes and writes nothing.
pub record Untouched (l : Listener) (piece : List ℕ) (time room : ℕ) : Type 0 where
  pub none_taken : (listening l piece time room).answer.taken ≡ zero
  pub none_written : (listening l piece time room).written ≡ []
  pub as_it_was : (listening l piece time room).answer.listener ≡ l

abbrev pub LateTakesNothing : Type 0
LateTakesNothing =
    (l : Listener) (piece : List ℕ) (time room : ℕ) → (listening l piece time room).answer.told ≡ Told.NoAnswer → Untouched l piece time room

-- 11 and 12: "no byte taken or written", and the listener comes back as it was.
abbrev pub nothing_done : Listener → Refusal → Given Listened
nothing_done l refusal = record { answer = record { listener = l; told = Told.Refused refusal; taken = 0 }; written = [] }

abbrev pub refusal_of : Told → Option ℕ
refusal_of Told.Nothing = none
refusal_of (Told.Frame frame) = none
refusal_of (Told.Broken refusal) = none
refusal_of Told.NoAnswer = none
refusal_of (Told.Refused refusal) = some (number_of refusal)

abbrev pub ReadGivenWhen : Type 0
ReadGivenWhen =
    (l : Listener) (piece : List ℕ) (time room : ℕ)
    → refusal_of (listening l piece time room).answer.told ≡ first_of (row 11 (ltb room 35) ∷ row 12 (not (allowed l.held)) ∷ [])

pub record CallIsRefused : Type 0 where
  pub short : (l : Listener) (piece : List ℕ) (time room : ℕ) → room < 35 → listening l piece time room ≡ nothing_done l short_buffer
  pub stray : (l : Listener) (piece : List ℕ) (time room : ℕ) → 35 ≤ room → allowed l.held ≡ false → listening l piece time room ≡ nothing_done l not_allowed

-- 3. What the caller of one read may lean on, whatever it handed in: no more bytes are taken than the piece has; and a frame that is told
-- has its data at the front of the buffer, as many bytes as are said, within what the writer takes.
abbrev pub TakenIsWithin : Type 0
TakenIsWithin = (l : Listener) (piece : List ℕ) (time room : ℕ) → (listening l piece time room).answer.taken ≤ length piece

pub record Whole (command len : ℕ) (written : List ℕ) : Type 0 where
  pub long : len ≡ length written
  pub writable : Writable command written

abbrev pub FrameIsWhole : Type 0
FrameIsWhole =
    (l : Listener) (piece : List ℕ) (time room : ℕ) (frame : Frame) → (listening l piece time room).answer.told ≡ Told.Frame frame
    → Whole frame.command frame.len (listening l piece time room).written

-- "The data fill the front of the buffer only when 1 to 4 are passed": where no frame is told, nothing is written.
abbrev pub is_frame : Told → Bool
is_frame Told.Nothing = false
is_frame (Told.Frame frame) = true
is_frame (Told.Broken refusal) = false
is_frame Told.NoAnswer = false
is_frame (Told.Refused refusal) = false

abbrev pub OnlyAFrameIsWritten : Type 0
OnlyAFrameIsWritten =
    (l : Listener) (piece : List ℕ) (time room : ℕ) → is_frame (listening l piece time room).answer.told ≡ false → (listening l piece time room).written ≡ []

-- What is told, as the event that the follower and the collector know, if it is one; every one of them is an event of a stream.
abbrev pub events_in : Told → List ℕ → List Event
events_in Told.Nothing written = []
events_in (Told.Frame frame) written = heard frame.command (take frame.len written) ∷ []
events_in (Told.Broken refusal) written = refused_frame ∷ []
events_in Told.NoAnswer written = no_answer ∷ []
events_in (Told.Refused refusal) written = []

abbrev pub EventsAreOnStream : Type 0
EventsAreOnStream =
    (l : Listener) (piece : List ℕ) (time room : ℕ)
    → OnStream (events_in (listening l piece time room).answer.told (listening l piece time room).written)
