-- What each public call answers, for every input. Document 01, "Numbers of refusal": "The order is 11, 12, then 1 to 10 as listed."
-- Assumes nothing.
use Rattle.std.specs.Prelude.{ℕ, zero, Bool, true, false, cond, Some, None, Ok, Err, not, ◌&&◌, ◌||◌, List, [], ◌∷◌, take, ltb, eqb}
use Rattle.laws.specs.Lists.{every}
use Rattle.laws.specs.Promise.{Given}
use Rattle.spans.specs.Few.{few, those, tidy}
use Rattle.paper.specs.declared.Refusal.{Refusal}
use Rattle.paper.specs.Numbers.{most_data, short_buffer, not_allowed}
use Rattle.wire.specs.Parsing.{Ended}
use Rattle.wire.specs.Calls.{read_as}
use Rattle.wire.specs.Answers.{Read}
use Rattle.stream.specs.Stream.{Unfinished, outside, inside, next, ended_by, ends_frame, frames_from, left_from, taken}
use Rattle.stream.specs.Answers.{Event}
use Rattle.stream.specs.declared.Held.{Held}
use Rattle.stream.specs.declared.Heard.{Heard}

-- The unfinished frame as it is held between two calls: 74 characters say "over 73", so no more are kept. One value for each thing that
-- there is to remember.

abbrev pub most_held : ℕ
most_held = 74

unfoldable pub held_of : Unfinished → Held
held_of outside = record { inside = false; chars = few most_held [] }
held_of (inside chars) = record { inside = true; chars = few most_held (take most_held chars) }

unfoldable pub unfinished : Held → Unfinished
unfinished held = cond held.inside (inside (those held.chars)) outside

-- neither a newline nor a colon: a character that stays in its frame
abbrev pub stays : ℕ → Bool
stays b = not (ends_frame b)

-- the states that bytes can leave (the law AllowedIsLeft of Laws.antt says so, both ways)
unfoldable pub allowed : Held → Bool
allowed held = tidy held.chars && (held.inside || eqb held.chars.len zero) && every stays (those held.chars)

-- The stream reader. "The stream is read by the same frame rule, bytes taken and refusals 1 to 4, with no reply. That call and the one for
-- a whole frame refuse 11 if the data buffer is under 35 bytes"; then 12 for a state that no bytes could have left. "Under 11 and 12 a state
-- handed in comes back as it was, with counts and lengths 0."

abbrev pub unheard : Held → Refusal → Given Heard
unheard held refusal = record { answer = record { held = held; event = Err refusal; taken = zero }; written = [] }

-- an ended frame as an event of the stream
abbrev pub event_from : Read → Event
event_from (Ok frame) = Ok (Some frame)
event_from (Err refusal) = Err refusal

-- what happened, by the frames that ended: a call ends one at most
abbrev pub event_of : List Ended → Event
event_of [] = Ok None
event_of (e ∷ rest) = event_from (read_as e).answer

abbrev pub data_of_first : List Ended → List ℕ
data_of_first [] = []
data_of_first (e ∷ rest) = (read_as e).written

-- what a byte makes of an unfinished frame, where so many bytes are taken with it
abbrev pub ended_as : Unfinished → ℕ → ℕ → Given Heard
ended_as u b taken =
    record {
      answer = record { held = held_of (next u b); event = event_of (ended_by u b); taken = taken };
      written = data_of_first (ended_by u b);
    }

-- what a piece makes of an unfinished frame: the bytes taken are read from where it is
abbrev pub heard_of : Unfinished → List ℕ → Given Heard
heard_of u piece =
    let bytes = take (taken u piece) piece in
    record {
      answer = record { held = held_of (left_from u bytes); event = event_of (frames_from u bytes); taken = taken u piece };
      written = data_of_first (frames_from u bytes);
    }

unfoldable pub hearing : Held → List ℕ → ℕ → Given Heard
hearing held piece room =
    cond (ltb room most_data) (unheard held short_buffer)
    (cond (not (allowed held)) (unheard held not_allowed)
    (heard_of (unfinished held) piece))
