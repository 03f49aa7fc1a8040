-- What is proved of the definitions, as statements to compare with the papers. Each is proved under its name in proofs/Theorems.antt.
-- Assumes nothing.
use Rattle.std.specs.Prelude.{ℕ, suc, ◌+◌, ◌≤◌, ◌<◌, ◌≡◌, Bool, true, false, not, cond, ◌||◌, ◌↔◌, ◌≢◌, Some, None, Ok, Err, List, [], ◌∷◌, ◌++◌, length, take, ltb, leb, eqb}
use Rattle.laws.specs.Promise.{Given}
use Rattle.laws.specs.Cutting.{Step, Offer, calls, ready}
use Rattle.paper.specs.declared.Refusal.{Refusal}
use Rattle.paper.specs.Numbers.{colon, newline, most_nibble, most_data, short_buffer, not_allowed, number_of}
use Rattle.wire.specs.Frame.{frame}
use Rattle.wire.specs.Parsing.{Ended, good, refused, body_says, broken_says}
use Rattle.laws.specs.Lists.{every, Bytes}
use Rattle.wire.specs.Laws.{Writable}
use Rattle.stream.specs.Stream.{Unfinished, outside, inside, ended_by, frames_from, left_from, frames_of, left_by, first_end, taken}
use Rattle.stream.specs.Calls.{most_held, held_of, unfinished, allowed, hearing}
use Rattle.stream.specs.Answers.{Event}
use Rattle.stream.specs.declared.Held.{Held}
use Rattle.stream.specs.declared.Heard.{Heard}

-- 1. Demand 2: "A frame written by one end is read by the other as the same command and data": on the stream, whatever follows it.
abbrev pub WrittenIsHeard : Type 0
WrittenIsHeard =
    (command : ℕ) (bytes : List ℕ) → command ≤ most_nibble → length bytes ≤ most_data → Bytes bytes → (rest : List ℕ)
    → (frames_of (frame command bytes ++ rest) ≡ good command bytes ∷ frames_of rest)
    × (left_by (frame command bytes ++ rest) ≡ left_by rest)
    × (taken outside (frame command bytes ++ rest) ≡ length (frame command bytes))

-- What a colon ends: nothing outside a frame; inside one that frame, as broken.
abbrev pub broken_in : Unfinished → List Ended
broken_in outside = []
broken_in (inside chars) = broken_says (length chars) ∷ []

-- The same from anywhere: first what the frame's own colon ends, then the frame, then what follows as if it stood alone.
abbrev pub HeardFromAnywhere : Type 0
HeardFromAnywhere =
    (u : Unfinished) (command : ℕ) (bytes : List ℕ) → command ≤ most_nibble → length bytes ≤ most_data → Bytes bytes → (rest : List ℕ)
    → (frames_from u (frame command bytes ++ rest) ≡ broken_in u ++ good command bytes ∷ frames_of rest)
    × (left_from u (frame command bytes ++ rest) ≡ left_by rest)

-- what is heard on the stream is within what the writer takes
pub data Writables : List Ended → Type 0 where
  nothing : Writables []
  broken : {refusal : Refusal} {rest : List Ended} → Writables rest → Writables (refused refusal ∷ rest)
  whole : {command : ℕ} {bytes : List ℕ} {rest : List Ended} → Writable command bytes → Writables rest → Writables (good command bytes ∷ rest)

abbrev pub HeardIsWritable : Type 0
HeardIsWritable = (u : Unfinished) (bytes : List ℕ) → Writables (frames_from u bytes)

-- What a state says of the bytes, with no word of how it is reached: a reading is inside a frame exactly when a colon came and neither a
-- newline nor a colon after it, and then has every character since, as it came.
pub record Since (bytes chars : List ℕ) : Type 0 where
  pub before : List ℕ
  pub bytes_are : bytes ≡ before ++ colon ∷ chars
  pub none_ends : every (λ c. not (eqb c newline || eqb c colon)) chars ≡ true

abbrev pub InsideIsSince : Type 0
InsideIsSince = (bytes chars : List ℕ) → (left_by bytes ≡ inside chars) ↔ Since bytes chars

-- Which frames a byte ends, by that alone: "Inside one, a newline ends it. A colon inside one ends it as broken and begins the next"; any other
-- byte ends none there, and where no frame is unfinished no byte ends one.
pub record OneMore (bytes : List ℕ) : Type 0 where
  pub newline_ends : (chars : List ℕ) → Since bytes chars → frames_of (bytes ++ newline ∷ []) ≡ frames_of bytes ++ body_says chars ∷ []
  pub colon_breaks : (chars : List ℕ) → Since bytes chars → frames_of (bytes ++ colon ∷ []) ≡ frames_of bytes ++ broken_says (length chars) ∷ []
  pub other_stays : (b : ℕ) → b ≢ newline → b ≢ colon → frames_of (bytes ++ b ∷ []) ≡ frames_of bytes
  pub none_outside : (b : ℕ) → ((chars : List ℕ) → Since bytes chars → ⊥) → frames_of (bytes ++ b ∷ []) ≡ frames_of bytes

abbrev pub ByteEndsFrame : Type 0
ByteEndsFrame = (bytes : List ℕ) → OneMore bytes

-- Demand 2, on the stream: "a frame read whole is byte for byte the one the writer makes": where a newline ends a good frame, the bytes up to
-- it end with exactly what the writer makes of command and data.
abbrev pub HeardIsWritten : Type 0
HeardIsWritten =
    (bytes : List ℕ) (command : ℕ) (into : List ℕ) → ended_by (left_by bytes) newline ≡ good command into ∷ []
    → (before : List ℕ) × (bytes ++ newline ∷ [] ≡ before ++ frame command into)

-- "Outside a frame every byte but a colon is skipped": bytes with no colon begin no frame and end none.
abbrev pub NoColonIsSkipped : Type 0
NoColonIsSkipped = (bytes : List ℕ) → every (λ b. not (eqb b colon)) bytes ≡ true → (left_by bytes ≡ outside) × (frames_of bytes ≡ [])

-- 2. The stream in any cutting. What a call on the stream comes to: a frame with its data, of the length that is said (one of another length
-- is none that a stream has: it counts as refused 12, which no frame is); a frame's refusal (1 to 4); or no frame (under 11 and 12 too, which
-- are the call's).
abbrev pub frame_in : Event → List ℕ → List Ended
frame_in (Ok None) written = []
frame_in (Ok (Some frame)) written = cond (eqb frame.len (length written)) (good frame.command written) (refused not_allowed) ∷ []
frame_in (Err refusal) written = cond (ltb 4 (number_of refusal)) [] (refused refusal ∷ [])

abbrev pub step_of : Given Heard → Step Held Ended
step_of given =
    record {
      state = given.answer.held;
      events = frame_in given.answer.event given.written;
      taken = given.answer.taken;
    }

abbrev pub hears : Held → ℕ → List ℕ → Step Held Ended
hears held room piece = step_of (hearing held piece room)

-- Demand 3: "after any bytes in any cutting, what a call did not take being handed on first": what happened is the frames of the bytes taken,
-- in order, and the state is what those bytes leave; from any state that bytes left, with any room in each call.
pub record Cut (earlier bytes : List ℕ) (all : Step Held Ended) : Type 0 where
  pub within : all.taken ≤ length bytes
  pub state_is : all.state ≡ held_of (left_by (earlier ++ take all.taken bytes))
  pub events_are : all.events ≡ frames_from (left_by earlier) (take all.taken bytes)

abbrev pub AnyCutting : Type 0
AnyCutting = (earlier bytes : List ℕ) (offers : List (Offer ℕ)) → Cut earlier bytes (calls hears (held_of (left_by earlier)) bytes offers)

-- A row of calls that takes every byte, whatever the pieces, empty ones among them: what happened is the frames of all the bytes, from where
-- the held frame is. (Its array has 74 entries in every value of the type.)
abbrev pub WholeIsHeard : Type 0
WholeIsHeard =
    (held : Held) → length held.chars.bytes ≡ most_held → allowed held ≡ true → (bytes : List ℕ) (offers : List (Offer ℕ))
    → (calls hears held bytes offers).taken ≡ length bytes
    → calls hears held bytes offers
    ≡ record { state = held_of (left_from (unfinished held) bytes); events = frames_from (unfinished held) bytes; taken = length bytes }

-- Calls that are handed a byte at least and lend room enough take every byte, in as many calls as there are bytes.
abbrev pub AllIsTaken : Type 0
AllIsTaken =
    (held : Held) (bytes : List ℕ) (offers : List (Offer ℕ)) → allowed held ≡ true
    → ready (λ room. leb most_data room) offers ≡ true → length bytes ≤ length offers → (calls hears held bytes offers).taken ≡ length bytes

-- A frame is refused by one of 1 to 4, and no higher number is a frame's.
abbrev pub RefusedIsSmall : Type 0
RefusedIsSmall =
    (held : Held) (piece : List ℕ) (room : ℕ) (refusal : Refusal) → allowed held ≡ true → most_data ≤ room
    → (hearing held piece room).answer.event ≡ Err refusal → number_of refusal ≤ 4

-- "Under 11 and 12 a state handed in comes back as it was, with counts and lengths 0", and no byte is written: "11 if the data buffer is under
-- 35 bytes", then 12 for a state that is not allowed.
abbrev pub refused_by : Refusal → Held → Given Heard
refused_by refusal held = record { answer = record { held = held; event = Err refusal; taken = 0 }; written = [] }

abbrev pub CallIsRefused : Type 0
CallIsRefused =
    (held : Held) (piece : List ℕ) (room : ℕ)
    → (room < 35 → hearing held piece room ≡ refused_by short_buffer held)
    × (35 ≤ room → allowed held ≡ false → hearing held piece room ≡ refused_by not_allowed held)

-- "The data fill the front of the buffer only when 1 to 4 are passed": under any refusal, and where no frame ended, nothing is written.
abbrev pub is_frame : Event → Bool
is_frame (Ok None) = false
is_frame (Ok (Some frame)) = true
is_frame (Err refusal) = false

abbrev pub OnlyAFrameIsWritten : Type 0
OnlyAFrameIsWritten =
    (held : Held) (piece : List ℕ) (room : ℕ) → is_frame (hearing held piece room).answer.event ≡ false → (hearing held piece room).written ≡ []

-- The cutting changes nothing: rows of calls that take as many of the same bytes come to the same, from any state.
abbrev pub CuttingChangesNothing : Type 0
CuttingChangesNothing =
    (held : Held) → length held.chars.bytes ≡ most_held → (bytes : List ℕ) (offers offers' : List (Offer ℕ))
    → (calls hears held bytes offers).taken ≡ (calls hears held bytes offers').taken → calls hears held bytes offers ≡ calls hears held bytes offers'

-- "An empty piece takes 0 and changes nothing."
abbrev pub EmptyChangesNothing : Type 0
EmptyChangesNothing =
    (held : Held) (room : ℕ) → length held.chars.bytes ≡ most_held → allowed held ≡ true → most_data ≤ room
    → hearing held [] room ≡ record { answer = record { held = held; event = Ok None; taken = 0 }; written = [] }

-- The end that a call stops at is the first: no frame ends before it, and where it is within the piece one ends there.
pub record FirstAt (u : Unfinished) (piece : List ℕ) : Type 0 where
  pub none_before : frames_from u (take (first_end u piece) piece) ≡ []
  pub one_there : first_end u piece < length piece → (f : Ended) × (frames_from u (take (suc (first_end u piece)) piece) ≡ f ∷ [])

abbrev pub FirstEndIsFirst : Type 0
FirstEndIsFirst = (u : Unfinished) (piece : List ℕ) → FirstAt u piece

-- "The number of bytes taken equals the place of the first frame end, plus one, or the whole length."
abbrev pub to_the_end : Unfinished → List ℕ → ℕ
to_the_end u piece = cond (ltb (first_end u piece) (length piece)) (first_end u piece + 1) (length piece)

abbrev pub HearsToTheEnd : Type 0
HearsToTheEnd =
    (held : Held) (piece : List ℕ) (room : ℕ) → allowed held ≡ true → most_data ≤ room
    → (hearing held piece room).answer.taken ≡ to_the_end (unfinished held) piece

-- 3. "A state handed in is allowed when [..] its held frame is one that bytes could have left". (Its array has 74 entries in every value of
-- the type.)
abbrev pub AllowedIsLeft : Type 0
AllowedIsLeft =
    (held : Held) → length held.chars.bytes ≡ most_held → (allowed held ≡ true) ↔ ((bytes : List ℕ) × (held_of (left_by bytes) ≡ held))
