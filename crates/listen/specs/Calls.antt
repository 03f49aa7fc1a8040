-- What each public call answers, for every input. What the box hears of the bytes meets its patience.
-- Assumes nothing.
use Rattle.std.specs.Prelude.{ℕ, zero, ◌-◌, Bool, cond, Some, None, Ok, Err, not, ◌||◌, List, [], ltb, leb}
use Rattle.laws.specs.Promise.{Given}
use Rattle.paper.specs.declared.Refusal.{Refusal}
use Rattle.paper.specs.Numbers.{most_data, short_buffer, not_allowed}
use Rattle.stream.specs.Stream.{outside}
use Rattle.stream.specs.Calls.{allowed, held_of}
use Rattle.stream.specs.Answers.{Event}
use Rattle.stream.specs.declared.Heard.{Heard}
use Rattle.listen.specs.Hearing.{box_hearing}
use Rattle.listen.specs.declared.Listener.{Listener}
use Rattle.listen.specs.declared.Told.{Told}
use Rattle.listen.specs.declared.Listened.{Listened}

-- How long the box waits (ours), in milliseconds, whatever bytes come: two seconds for the answer to a request, a minute for a trailer.

abbrev pub request_time : ℕ
request_time = 2000

abbrev pub trailer_time : ℕ
trailer_time = 60000

-- one of the two has passed; a subtraction stops at 0, so a clock that goes back is no time passed
unfoldable pub is_over : ℕ → ℕ → ℕ → Bool
is_over begun asked time = leb request_time (time - asked) || leb trailer_time (time - begun)

-- outside a frame; the trailer is begun and a request sent at this time
abbrev pub starting : ℕ → Listener
starting time = record { held = held_of outside; begun = time; asked = time }

-- a request was sent at this time; the unfinished frame stays
abbrev pub asking : Listener → ℕ → Listener
asking l time = record { held = l.held; begun = l.begun; asked = time }

-- nothing is done: the listener is as it was, and nothing is taken
abbrev pub idle : Listener → Told → Listened
idle l told = record { listener = l; told = told; taken = zero }

-- 11 and 12: "a state handed in comes back as it was, with counts and lengths 0"
abbrev pub refusing : Listener → Refusal → Listened
refusing l refusal = idle l (Told.Refused refusal)

-- the time is over: nothing is taken
abbrev pub late : Listener → Listened
late l = idle l Told.NoAnswer

-- a frame that ended well, one that is broken, or none
abbrev pub told_by : Event → Told
told_by (Ok None) = Told.Nothing
told_by (Ok (Some frame)) = Told.Frame frame
told_by (Err refusal) = Told.Broken refusal

abbrev pub reported : Listener → Heard → Listened
reported l heard =
    record {
      listener = record { held = heard.held; begun = l.begun; asked = l.asked };
      told = told_by heard.event;
      taken = heard.taken;
    }

-- the bytes written are those that the stream writes
abbrev pub wordless : Listened → Given Listened
wordless answer = record { answer = answer; written = [] }

abbrev pub reporting : Listener → Given Heard → Given Listened
reporting l given = record { answer = reported l given.answer; written = given.written }

unfoldable pub listening : Listener → List ℕ → ℕ → ℕ → Given Listened
listening l piece time room =
    cond (ltb room most_data) (wordless (refusing l short_buffer))
    (cond (not (allowed l.held)) (wordless (refusing l not_allowed))
    (cond (is_over l.begun l.asked time) (wordless (late l)) (reporting l (box_hearing l.held piece room))))
