-- What the program asks of a Set and of how far it is, in words that its functions cite. Assumes nothing.
use Rattle.std.specs.Prelude.{◌≤◌}
use Rattle.requests.specs.declared.Wanted.{Wanted}
use Rattle.requests.specs.declared.Request.{Request}
use Rattle.follow.specs.declared.Standing.{Standing}

-- a Set of one or two bytes
pub record Narrow (due : Wanted) : Type 0 where
  pub some : 1 ≤ due.setting.width
  pub few : due.setting.width ≤ 2

-- a request to send: a Set is of one or two bytes
abbrev pub Sent : Request → Type 0
Sent (Request.Get id) = Unit {0}
Sent (Request.Set due) = Narrow due

-- how far a follower is that waits for such a request, or for none
abbrev pub Awaits : Standing → Type 0
Awaits (Standing.Waiting request) = Sent request
Awaits Standing.Equal = Unit {0}
Awaits Standing.Done = Unit {0}
Awaits (Standing.Stopped due) = Unit {0}
Awaits (Standing.Refused refusal) = Unit {0}
