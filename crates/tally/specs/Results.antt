-- What a yard comes to, trailer by trailer, and what each trailer adds to the sums (ours). Document 01 calls "counting sent Sets as
-- confirmed" a slip of the trade; here a Set is confirmed when the follower of its trailer says so. Assumes nothing.
use Rattle.std.specs.Prelude.{ℕ, zero, ◌+◌, Bool, true, false, cond, ◌&&◌, leb}
use Rattle.follow.specs.Following.{standing, total, follower_allowed}
use Rattle.follow.specs.declared.Follower.{Follower}
use Rattle.follow.specs.declared.Standing.{Standing}
use Rattle.tally.specs.declared.Tally.{Tally}

-- how a trailer came out: its restore was followed, and where that stopped the board answered something else or gave no answer; it gave no
-- answer while it was read; or it was not begun
pub data Result : Type 0 where
  restored : Follower → Bool → Result
  silent : Result
  not_begun : Result

-- this many trailers of each kind, and no Set
abbrev pub tally_of : ℕ → ℕ → ℕ → ℕ → ℕ → Tally
tally_of done equal stopped mute unbegun =
    record { done = done; equal = equal; stopped = stopped; silent = mute; unbegun = unbegun; confirmed = zero; due = zero }

abbrev pub nothing : Tally
nothing = tally_of 0 0 0 0 0

-- an end: all confirmed, nothing differed, or stopped
abbrev pub has_ended : Standing → Bool
has_ended (Standing.Waiting due) = false
has_ended Standing.Equal = true
has_ended Standing.Done = true
has_ended (Standing.Stopped due) = true
has_ended (Standing.Refused number) = false

-- stopped
abbrev pub is_stopped : Standing → Bool
is_stopped (Standing.Waiting due) = false
is_stopped Standing.Equal = false
is_stopped Standing.Done = false
is_stopped (Standing.Stopped due) = true
is_stopped (Standing.Refused number) = false

-- a follower that stopped, at another answer or at none
abbrev pub stopped_as : Bool → Tally
stopped_as answered = cond answered (tally_of 0 0 1 0 0) (tally_of 0 0 0 1 0)

-- one trailer, by where its follower is; nothing where that is no end
abbrev pub ended_as : Standing → Bool → Tally
ended_as (Standing.Waiting due) answered = nothing
ended_as Standing.Equal answered = tally_of 0 1 0 0 0
ended_as Standing.Done answered = tally_of 1 0 0 0 0
ended_as (Standing.Stopped due) answered = stopped_as answered
ended_as (Standing.Refused number) answered = nothing

-- with this many Sets confirmed, of this many that were due
abbrev pub with_sets : Tally → ℕ → ℕ → Tally
with_sets t confirmed due =
    record { done = t.done; equal = t.equal; stopped = t.stopped; silent = t.silent; unbegun = t.unbegun; confirmed = confirmed; due = due }

-- What one trailer adds: where its follower is, the Sets that its follower counted as confirmed, and those of its list.
abbrev pub share_of : Result → Tally
share_of (restored f answered) = with_sets (ended_as (standing f) answered) f.confirmed (total f)
share_of silent = tally_of 0 0 0 1 0
share_of not_begun = tally_of 0 0 0 0 1

-- a follower that a start and events give, at an end
unfoldable pub fits : Result → Bool
fits (restored f answered) = follower_allowed f && has_ended (standing f)
fits silent = true
fits not_begun = true

-- no count is over a million
abbrev pub most : ℕ
most = 1000000

unfoldable pub tally_allowed : Tally → Bool
tally_allowed t =
    leb t.done most && leb t.equal most && leb t.stopped most && leb t.silent most && leb t.unbegun most
    && leb t.confirmed most && leb t.due most

-- count by count
abbrev pub plus : Tally → Tally → Tally
plus t s =
    record {
      done = t.done + s.done;
      equal = t.equal + s.equal;
      stopped = t.stopped + s.stopped;
      silent = t.silent + s.silent;
      unbegun = t.unbegun + s.unbegun;
      confirmed = t.confirmed + s.confirmed;
      due = t.due + s.due;
    }
