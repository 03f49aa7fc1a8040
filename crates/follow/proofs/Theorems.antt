-- The statements of specs/Laws.antt, proved. Assumes nothing.
use mathlib.Core.Path.{◌≡◌}
use mathlib.Core.Logic.{◌↔◌}
use mathlib.Core.Bool.{true, false}
use mathlib.Core.List.{List, map}
use Prim.Native.Nat.{◌<◌}
use lib.ListN.{length}
use Rattle.tables.specs.declared.Table.{Table}
use Rattle.restore.specs.Order.{due_sets}
use Rattle.restore.specs.Calls.{both_allowed}
use Rattle.reply.specs.Events.{Event, OnStream}
use Rattle.follow.specs.Following.{standing, begun}
use Rattle.follow.specs.Laws.{AllowedIsReached, RefusedIsStray, CountIsTold, StandingExactly, AllConfirmed, NamedIsListed, HandedIsTold, ToldIsLast, CallsFollow, matched, own_reply, run}
use Rattle.follow.specs.declared.Standing.{Standing}
use Rattle.follow.proofs.Reaching as reaching

pub allowed_is_reached : AllowedIsReached
allowed_is_reached = reaching.allowed_reached

pub refused_is_stray : RefusedIsStray
refused_is_stray = reaching.stray_refused

pub count_is_told : CountIsTold
count_is_told = reaching.counts_told

pub standing_exactly : StandingExactly
standing_exactly = reaching.stands_exactly

pub all_confirmed : AllConfirmed
all_confirmed = reaching.all_told

pub named_is_listed : NamedIsListed
named_is_listed = reaching.named_listed

pub handed_is_told : HandedIsTold
handed_is_told = reaching.handed_told

pub told_is_last : ToldIsLast
told_is_last = reaching.told_last

pub calls_follow : CallsFollow
calls_follow = reaching.follow_calls

-- The same of the follower itself, for proofs above.
pub count_is_matched : (from to : Table) (events : List Event) → both_allowed from to ≡ true → OnStream events
    → (run (begun from to) events).confirmed ≡ matched (due_sets from to) events
count_is_matched = reaching.counts

pub done_is_all : (from to : Table) (events : List Event) → both_allowed from to ≡ true → OnStream events
    → (standing (run (begun from to) events) ≡ Standing.Done)
    ↔ ((0 < length (due_sets from to)) × (matched (due_sets from to) events ≡ length (due_sets from to)))
done_is_all = reaching.done_all

pub equal_is_none : (from to : Table) (events : List Event) → both_allowed from to ≡ true
    → (standing (run (begun from to) events) ≡ Standing.Equal) ↔ (length (due_sets from to) ≡ 0)
equal_is_none = reaching.equal_nothing

pub all_are_confirmed : (from to : Table) → both_allowed from to ≡ true
    → run (begun from to) (map own_reply (due_sets from to)) ≡ record { from = from; to = to; confirmed = length (due_sets from to); stopped = false }
all_are_confirmed = reaching.all_confirmed
