-- What each public call answers, for every input. Assumes nothing.
use Rattle.std.specs.Prelude.{Bool, cond, not, ◌&&◌, Ok, Err}
use Rattle.paper.specs.Numbers as paper
use Rattle.follow.specs.Calls.{told}
use Rattle.follow.specs.declared.Follower.{Follower}
use Rattle.tally.specs.Results.{Result, is_stopped, share_of, fits, tally_allowed, plus}
use Rattle.tally.specs.declared.Tally.{Tally}
use Rattle.tally.specs.declared.Counted.{Counted}

abbrev pub counted : Tally → Counted
counted t = record { tally = t; verdict = Ok tt }

-- 12: "a state handed in comes back as it was"
abbrev pub uncounted : Tally → Counted
uncounted t = record { tally = t; verdict = Err paper.not_allowed }

-- one more trailer, of any kind
unfoldable pub counting : Tally → Result → Counted
counting t result = cond (tally_allowed t && fits result) (counted (plus t (share_of result))) (uncounted t)

-- begun anew at the end of the round: "A restore that stopped on silence is begun anew once [..]; a refusal by the board is never tried again"
unfoldable pub begun_anew : Follower → Bool → Bool → Bool
begun_anew f answered last = is_stopped (told f).standing && not answered && not last
