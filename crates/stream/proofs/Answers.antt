-- What a call on the stream answers, case by case: the laws by which it is proved and by which callers speak of it. Assumes nothing.
use mathlib.Core.Path.{◌≡◌, refl, sym}
use mathlib.Core.Bool.{Bool, true, false, cond, not, false≢true}
use mathlib.Core.List.{List, [], ◌∷◌}
use Prim.Native.Nat.{ℕ, ◌≤◌, ◌<◌}
use borrow.Author.Tests.{lt-ltb, le-ltb}
use lib.ListN.{take}
use lib.Dec.{ltb}
use Rattle.laws.specs.Promise.{Given}
use Rattle.paper.specs.Numbers.{short_buffer, not_allowed}
use Rattle.wire.specs.Parsing.{Ended, good, refused}
use Rattle.stream.specs.Stream.{frames_from, taken}
use Rattle.stream.specs.Calls.{hearing, unheard, heard_of, allowed, unfinished, event_of, data_of_first}
use Rattle.stream.specs.Laws.{CallIsRefused, is_frame, OnlyAFrameIsWritten}
use Rattle.stream.specs.declared.Held.{Held}
use Rattle.stream.specs.declared.Heard.{Heard}

pub hearing_short : (held : Held) (piece : List ℕ) (room : ℕ) → room < 35 → hearing held piece room ≡ unheard held short_buffer
unfolding hearing
hearing_short held piece room h = simp (lt-ltb room 35 h)

pub hearing_stray : (held : Held) (piece : List ℕ) (room : ℕ) → 35 ≤ room → allowed held ≡ false → hearing held piece room ≡ unheard held not_allowed
unfolding hearing
hearing_stray held piece room h e = simp (le-ltb room 35 h, e)

pub hearing_heard : (held : Held) (piece : List ℕ) (room : ℕ) → 35 ≤ room → allowed held ≡ true
    → hearing held piece room ≡ heard_of (unfinished held) piece
unfolding hearing
hearing_heard held piece room h e = simp (le-ltb room 35 h, e)

pub call_refused : CallIsRefused
call_refused held piece room = (hearing_short held piece room, hearing_stray held piece room)

-- data come with a good frame alone
no_data : (frames : List Ended) → is_frame (event_of frames) ≡ false → data_of_first frames ≡ []
no_data [] e = refl
no_data (good command bytes ∷ rest) e = absurd (false≢true (sym e))
no_data (refused number ∷ rest) e = refl

pub only_frame : OnlyAFrameIsWritten
unfolding hearing
only_frame held piece room = by (ltb room 35) (not (allowed held))
  where
    given : Bool → Bool → Given Heard
    given short stray = cond short (unheard held short_buffer) (cond stray (unheard held not_allowed) (heard_of (unfinished held) piece))

    by : (short stray : Bool) → is_frame (given short stray).answer.event ≡ false → (given short stray).written ≡ []
    by true stray e = refl
    by false true e = refl
    by false false e = no_data (frames_from (unfinished held) (take (taken (unfinished held) piece) piece)) e
