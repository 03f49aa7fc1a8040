-- Following. Document 01, "Restore list and its following": "A list with no Set ends as *equal*. A Set reply with the due id, flag 00 and the
-- due number in its width confirms and moves on; a Set reply with the due id and anything else ends it as *stopped*; all other replies, Get
-- replies and refused frames included, keep waiting. The caller may say "no answer", which stops. All confirmed ends as *done*. Ended stays
-- ended." Assumes nothing.
use Rattle.std.specs.Prelude.{ℕ, suc, Bool, true, false, cond, ◌&&◌, List, length, eqb, ltb, leb, Some, None, Ok, Err}
use Rattle.paper.specs.Numbers.{set_code}
use Rattle.endian.specs.Numbers.{from_little}
use Rattle.tables.specs.declared.Table.{Table}
use Rattle.reply.specs.Replies.{rest}
use Rattle.reply.specs.Calls.{heeding}
use Rattle.reply.specs.Events.{Event, heard, refused_frame, no_answer}
use Rattle.reply.specs.Answers.{Heeded}
use Rattle.reply.specs.declared.Status.{Status}
use Rattle.restore.specs.Order.{due_sets}
use Rattle.restore.specs.Calls.{both_allowed, due_in}
use Rattle.requests.specs.declared.Wanted.{Wanted}
use Rattle.requests.specs.declared.Request.{Request}
use Rattle.restore.specs.Answers.{Due}
use Rattle.follow.specs.declared.Follower.{Follower}
use Rattle.follow.specs.declared.Standing.{Standing}
use Rattle.follow.specs.declared.effect.Effect.{Effect}

-- "the due number in its width"
unfoldable pub carries : Wanted → List ℕ → Bool
carries due value = eqb (length value) due.setting.width && eqb (from_little value) due.number

-- "A Set reply with the due id, flag 00 and the due number in its width confirms [..]; a Set reply with the due id and anything else" stops;
-- "all other replies, Get replies and refused frames included, keep waiting"
abbrev pub on_status : Wanted → List ℕ → Status → Effect
on_status due value Status.Good = cond (carries due value) Effect.Confirms Effect.Stops
on_status due value Status.UnknownId = Effect.Stops
on_status due value Status.NotSupported = Effect.Stops
on_status due value Status.ParameterError = Effect.Stops

abbrev pub on_heeded : Wanted → List ℕ → Heeded → Effect
on_heeded due value None = Effect.Waits
on_heeded due value (Some status) = on_status due value status

unfoldable pub on_reply : Wanted → ℕ → List ℕ → Effect
on_reply due command bytes = on_heeded due (rest bytes) (heeding set_code due.setting.id command bytes)

-- by the request that is due, which is a Set; a Get would keep waiting
abbrev pub on_request : Request → ℕ → List ℕ → Effect
on_request (Request.Get id) command bytes = Effect.Waits
on_request (Request.Set due) command bytes = on_reply due command bytes

abbrev pub effect_of : Request → Event → Effect
effect_of request (heard command bytes) = on_request request command bytes
effect_of request refused_frame = Effect.Waits
effect_of request no_answer = Effect.Stops

-- how far a follower is, by the Set that is due after those confirmed; 12 where a table is not allowed
abbrev pub stands_at : Bool → ℕ → Due → Standing
stands_at stopped confirmed (Ok (Some due)) = cond stopped (Standing.Stopped due) (Standing.Waiting (Request.Set due))
stands_at stopped confirmed (Ok None) = cond (eqb confirmed 0) Standing.Equal Standing.Done
stands_at stopped confirmed (Err refusal) = Standing.Refused refusal

unfoldable pub standing : Follower → Standing
standing f = stands_at f.stopped f.confirmed (due_in f.from f.to f.confirmed)

-- "confirms and moves on"
abbrev pub moved : Follower → Effect → Follower
moved f Effect.Confirms = record { from = f.from; to = f.to; confirmed = suc f.confirmed; stopped = f.stopped }
moved f Effect.Stops = record { from = f.from; to = f.to; confirmed = f.confirmed; stopped = true }
moved f Effect.Waits = f

-- "Ended stays ended.": an event has its effect on a follower that waits, and none on another
abbrev pub effect_at : Standing → Event → Effect
effect_at (Standing.Waiting request) e = effect_of request e
effect_at Standing.Equal e = Effect.Waits
effect_at Standing.Done e = Effect.Waits
effect_at (Standing.Stopped due) e = Effect.Waits
effect_at (Standing.Refused refusal) e = Effect.Waits

unfoldable pub advanced : Follower → Event → Follower
advanced f e = moved f (effect_at (standing f) e)

-- "Following starts from the same two tables"
abbrev pub begun : Table → Table → Follower
begun from to = record { from = from; to = to; confirmed = 0; stopped = false }

-- The followers that a start and events give (the law AllowedIsReached of Laws.antt says so, both ways): both tables are allowed, no more
-- Sets are confirmed than the list has, and fewer where it stopped.
abbrev pub total : Follower → ℕ
total f = length (due_sets f.from f.to)

unfoldable pub follower_allowed : Follower → Bool
follower_allowed f = both_allowed f.from f.to && cond f.stopped (ltb f.confirmed (total f)) (leb f.confirmed (total f))
