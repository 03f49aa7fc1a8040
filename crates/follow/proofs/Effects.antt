-- What a frame does to a follower that waits, case by case. Assumes nothing.
use mathlib.Core.Path.{◌≡◌}
use mathlib.Core.List.{List}
use Prim.Native.Nat.{ℕ}
use Rattle.paper.specs.Numbers.{set_code}
use Rattle.reply.specs.Replies.{rest}
use Rattle.reply.specs.Calls.{heeding}
use Rattle.reply.specs.Answers.{Heeded}
use Rattle.requests.specs.declared.Wanted.{Wanted}
use Rattle.follow.specs.Following.{on_heeded, on_reply}

-- by what the frame says to the Set
pub heeded_is : (due : Wanted) (command : ℕ) (bytes : List ℕ) (h : Heeded) → heeding set_code due.setting.id command bytes ≡ h
    → on_heeded due (rest bytes) h ≡ on_reply due command bytes
unfolding on_reply
heeded_is due command bytes h e = rw e
