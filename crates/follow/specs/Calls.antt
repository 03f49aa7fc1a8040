-- What each public call answers, for every input. Assumes nothing.
use Rattle.std.specs.Prelude.{zero, cond}
use Rattle.paper.specs.Numbers as paper
use Rattle.tables.specs.declared.Table.{Table}
use Rattle.reply.specs.Events.{Event}
use Rattle.follow.specs.Following.{standing, advanced, begun, follower_allowed}
use Rattle.follow.specs.declared.Follower.{Follower}
use Rattle.follow.specs.declared.Standing.{Standing}
use Rattle.follow.specs.declared.Followed.{Followed}

-- the follower, how far it is, and the number confirmed
abbrev pub answered : Follower → Followed
answered f = record { follower = f; standing = standing f; confirmed = f.confirmed }

-- 12: "a state handed in comes back as it was, with counts and lengths 0"
abbrev pub unanswered : Follower → Followed
unanswered f = record { follower = f; standing = Standing.Refused paper.not_allowed; confirmed = zero }

unfoldable pub told : Follower → Followed
told f = cond (follower_allowed f) (answered f) (unanswered f)

-- "Following starts from the same two tables (else 12)."
unfoldable pub starting : Table → Table → Followed
starting from to = told (begun from to)

unfoldable pub following : Follower → Event → Followed
following f e = cond (follower_allowed f) (answered (advanced f e)) (unanswered f)
