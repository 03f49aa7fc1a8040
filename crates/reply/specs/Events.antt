-- What the box hears while it waits for a reply. Assumes nothing.
use Rattle.std.specs.Prelude.{ℕ, Bool, ◌&&◌, ◌||◌, List, [], ◌∷◌, get_or, eqb}
use Rattle.laws.specs.Lists.{same, Bytes}
use Rattle.endian.specs.Numbers.{said}
use Rattle.reply.specs.Replies.{rest}

-- a frame of a command and its data, a frame that the stream refused, or the caller says "no answer"
pub data Event : Type 0 where
  heard : ℕ → List ℕ → Event
  refused_frame : Event
  no_answer : Event

-- how many times in all a Get is sent to which no answer comes (ours)
abbrev pub most_tries : ℕ
most_tries = 3

-- events whose data are bytes, as those of every frame read from the stream are
pub data OnStream : List Event → Type 0 where
  nothing : OnStream []
  a_frame : {command : ℕ} {bytes : List ℕ} {more : List Event} → Bytes bytes → OnStream more → OnStream (heard command bytes ∷ more)
  a_refusal : {more : List Event} → OnStream more → OnStream (refused_frame ∷ more)
  a_silence : {more : List Event} → OnStream more → OnStream (no_answer ∷ more)

-- "flags 00, 01, 02 or 04", said of the byte itself
abbrev pub is_flag : ℕ → Bool
is_flag flag = eqb flag 0 || (eqb flag 1 || (eqb flag 2 || eqb flag 4))

-- whether a frame answers the request of a code and an id, in bytes: that code, and as data the id, a flag of a status and a value
unfoldable pub answers : ℕ → ℕ → ℕ → List ℕ → Bool
answers code id command bytes = eqb command code && (same bytes (said id (get_or bytes 2 0) (rest bytes)) && is_flag (get_or bytes 2 0))
