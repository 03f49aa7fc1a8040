-- What is proved of the calls, as statements to compare with the papers. Each is proved under its name in proofs/Theorems.antt.
-- Assumes nothing.
use Rattle.std.specs.Prelude.{ℕ, zero, suc, ◌<◌, ◌≡◌, ◌↔◌, Bool, true, false, cond, ◌&&◌, List, [], ◌∷◌, map, length, take, eqb, Some, Ok}
use Rattle.laws.specs.Lists.{same}
use Rattle.endian.specs.Numbers.{little, said}
use Rattle.tables.specs.Rules.{allowed}
use Rattle.tables.specs.declared.Table.{Table}
use Rattle.paper.specs.Numbers.{set_code, not_allowed}
use Rattle.restore.specs.Order.{due_sets}
use Rattle.restore.specs.Calls.{due_after}
use Rattle.paper.specs.declared.Refusal.{Refusal}
use Rattle.requests.specs.declared.Wanted.{Wanted}
use Rattle.requests.specs.declared.Request.{Request}
use Rattle.reply.specs.Events.{Event, heard, refused_frame, no_answer, OnStream, answers}
use Rattle.follow.specs.Following.{standing, advanced, begun, follower_allowed}
use Rattle.follow.specs.Calls.{answered, unanswered, told, starting, following}
use Rattle.follow.specs.declared.Follower.{Follower}
use Rattle.follow.specs.declared.Followed.{Followed}
use Rattle.follow.specs.declared.Standing.{Standing}

-- A row of calls, each made on the follower that the one before handed back.
abbrev pub calls : Followed → List Event → Followed
calls last [] = last
calls last (e ∷ more) = calls (following last.follower e) more

-- 1. "A state handed in is allowed [..]; a follower's, when a start and replies give it": exactly then, the start being one of allowed tables
-- and the events such as a stream can give.
pub record Reached (f : Follower) : Type 0 where
  pub events : List Event
  pub begins : (allowed f.from && allowed f.to) ≡ true
  pub stream : OnStream events
  pub arrives : (calls (starting f.from f.to) events).follower ≡ f

abbrev pub AllowedIsReached : Type 0
AllowedIsReached = (f : Follower) → (follower_allowed f ≡ true) ↔ Reached f

-- and every call on another is refused 12, with the follower "as it was, with counts [..] 0", and on no other: allowed tables with a count that
-- their list cannot give, or stopped after its last Set, are refused like tables that are not allowed.
abbrev pub refused_by : Refusal → Follower → Followed
refused_by refusal f = record { follower = f; standing = Standing.Refused refusal; confirmed = 0 }

abbrev pub RefusedIsStray : Type 0
RefusedIsStray =
    (f : Follower) → ((told f ≡ refused_by not_allowed f) ↔ (Reached f → ⊥)) × ((e : Event) → (following f e ≡ refused_by not_allowed f) ↔ (Reached f → ⊥))

-- 2. "Counting sent Sets as confirmed" is a slip of the trade: demand 2 wants "the number of replies that matched the Set due when they came".
-- Matched, with no follower in it: a row of Sets and a row of events, where an event matches the first Set if it is the very reply that a
-- board gives which has stored it: the Set's own id, flag 00 and its number in its width.
abbrev pub own_data : Wanted → List ℕ
own_data due = said due.setting.id 0 (little due.setting.width due.number)

abbrev pub matches : Wanted → Event → Bool
matches due (heard command bytes) = eqb command set_code && same bytes (own_data due)
matches due refused_frame = false
matches due no_answer = false

-- no Set is due any more after any answer to it, or silence
abbrev pub ends : Wanted → Event → Bool
ends due (heard command bytes) = answers set_code due.setting.id command bytes
ends due refused_frame = false
ends due no_answer = true

unfoldable pub matched : List Wanted → List Event → ℕ
matched [] events = zero
matched (due ∷ later) [] = zero
matched (due ∷ later) (e ∷ more) =
    cond (matches due e) (suc (matched later more)) (cond (ends due e) zero (matched (due ∷ later) more))

-- whether one of the events ended the Set that was due then and did not match it
unfoldable pub is_ended : List Wanted → List Event → Bool
is_ended [] events = false
is_ended (due ∷ later) [] = false
is_ended (due ∷ later) (e ∷ more) = cond (matches due e) (is_ended later more) (cond (ends due e) true (is_ended (due ∷ later) more))

-- The number that the last of a row of calls tells is the number matched; "counts [..] 0" where the start is refused.
abbrev pub CountIsTold : Type 0
CountIsTold =
    (from to : Table) (events : List Event) → OnStream events
    → (calls (starting from to) events).confirmed ≡ cond (allowed from && allowed to) (matched (due_sets from to) events) 0

-- 3. How far it is, as the last of a row of calls tells it: 12 exactly where a table is not allowed; equal exactly where there was no Set; done
-- exactly where there were Sets and all were matched; stopped exactly where an event ended the due one without matching it, and that Set is
-- named; waiting exactly where a Set is left and none was so ended, and the Set due is named.
pub data Tells (from to : Table) (events : List Event) : Standing → Type 0 where
  refused : (allowed from && allowed to) ≡ false → Tells from to events (Standing.Refused not_allowed)
  equal : (allowed from && allowed to) ≡ true → length (due_sets from to) ≡ 0 → Tells from to events Standing.Equal
  done : (allowed from && allowed to) ≡ true → 0 < length (due_sets from to) → matched (due_sets from to) events ≡ length (due_sets from to)
      → Tells from to events Standing.Done
  stopped : {due : Wanted} → (allowed from && allowed to) ≡ true → is_ended (due_sets from to) events ≡ true
      → due_after (due_sets from to) (matched (due_sets from to) events) ≡ Ok (Some due) → Tells from to events (Standing.Stopped due)
  waiting : {due : Wanted} → (allowed from && allowed to) ≡ true → is_ended (due_sets from to) events ≡ false
      → due_after (due_sets from to) (matched (due_sets from to) events) ≡ Ok (Some due) → Tells from to events (Standing.Waiting (Request.Set due))

abbrev pub StandingExactly : Type 0
StandingExactly =
    (from to : Table) (events : List Event) (answer : Standing) → OnStream events
    → ((calls (starting from to) events).standing ≡ answer) ↔ Tells from to events answer

-- 4. A board that stores each Set and says so has all of them confirmed; and the Sets that the calls name one by one, each confirmed as it is
-- named, are those of the restore list in its order.
abbrev pub own_reply : Wanted → Event
own_reply due = heard set_code (own_data due)

abbrev pub AllConfirmed : Type 0
AllConfirmed =
    (from to : Table) → (allowed from && allowed to) ≡ true
    → (calls (starting from to) (map own_reply (due_sets from to))).confirmed ≡ length (due_sets from to)

abbrev pub on_named : (Wanted → List Wanted) → Standing → List Wanted
on_named next (Standing.Waiting (Request.Set due)) = next due
on_named next (Standing.Waiting (Request.Get id)) = []
on_named next Standing.Equal = []
on_named next Standing.Done = []
on_named next (Standing.Stopped due) = []
on_named next (Standing.Refused refusal) = []

-- the Sets named by this many calls
abbrev pub named : ℕ → Followed → List Wanted
named zero last = []
named (suc n) last = on_named (λ due. due ∷ named n (following last.follower (own_reply due))) last.standing

abbrev pub NamedIsListed : Type 0
NamedIsListed = (from to : Table) (n : ℕ) → named n (starting from to) ≡ cond (allowed from && allowed to) (take n (due_sets from to)) []

-- 5. The follower that is handed back holds what was told of it, its count and how far it is; and `told` says the same of it again. So the
-- sums and the sentences, which take a follower whole, speak of what the calls have told.
abbrev pub HandedIsTold : Type 0
HandedIsTold =
    (from to : Table) (events : List Event) → (allowed from && allowed to) ≡ true
    → let last = calls (starting from to) events in (last.follower.confirmed ≡ last.confirmed) × (standing last.follower ≡ last.standing)

abbrev pub ToldIsLast : Type 0
ToldIsLast = (from to : Table) (events : List Event) → told (calls (starting from to) events).follower ≡ calls (starting from to) events

-- 6. The follower that a row of calls hands back, by what an event makes of a follower: for proofs above, which speak of followers.
abbrev pub run : Follower → List Event → Follower
run f [] = f
run f (e ∷ more) = run (advanced f e) more

abbrev pub CallsFollow : Type 0
CallsFollow =
    (from to : Table) (events : List Event)
    → calls (starting from to) events ≡ cond (allowed from && allowed to) (answered (run (begun from to) events)) (unanswered (begun from to))
