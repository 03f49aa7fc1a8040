-- How far a follower is, and which followers are allowed. Assumes nothing.
use mathlib.Core.Path.{◌≡◌, refl, sym, ap, ◌∙◌}
use mathlib.Core.Bool.{Bool, true, false, cond, false≢true}
use Prim.Native.Nat.{ℕ, ◌≤◌, ◌<◌}
use native.Mathlib.Omega.{arith}
use borrow.Author.Tests.{ltb-true, leb-true}
use lib.ListN.{length}
use lib.Dec.{ltb, leb, eqb}
use Rattle.laws.proofs.Bools.{and_right}
use Rattle.settings.specs.Columns.{count}
use Rattle.tables.specs.declared.Table.{Table}
use Rattle.settings.proofs.Theorems.{rows_hold}
use Rattle.restore.specs.Order.{due_sets}
use Rattle.restore.specs.Calls.{both_allowed, due_in}
use Rattle.restore.specs.Laws.{Tells, a_set, none_left, not_allowed_lem}
use Rattle.requests.specs.declared.Wanted.{Wanted}
use Rattle.requests.specs.declared.Request.{Request}
use Rattle.std.specs.Prelude.{Some, None, Ok, Err}
use Rattle.restore.specs.Answers.{Due}
use Rattle.restore.proofs.Theorems.{due_tells, sets_are_few}
use Rattle.reply.specs.Events.{Event, refused_frame}
use Rattle.follow.specs.Following.{stands_at, standing, moved, effect_at, advanced, total, follower_allowed}
use Rattle.follow.specs.AsHeld.{Narrow, Sent, Awaits}
use Rattle.follow.specs.Calls.{answered, unanswered, told, following}
use Rattle.follow.specs.declared.Follower.{Follower}
use Rattle.follow.specs.declared.Standing.{Standing}

-- which Set a follower waits for
abbrev is_waiting : Standing → Bool
is_waiting (Standing.Waiting due) = true
is_waiting Standing.Equal = false
is_waiting Standing.Done = false
is_waiting (Standing.Stopped due) = false
is_waiting (Standing.Refused refusal) = false

abbrev waited_for : Request → Standing → Request
waited_for other (Standing.Waiting due) = due
waited_for other Standing.Equal = other
waited_for other Standing.Done = other
waited_for other (Standing.Stopped due) = other
waited_for other (Standing.Refused refusal) = other

pub waits_for : (stopped : Bool) (w : Wanted) (due : Request) → cond stopped (Standing.Stopped w) (Standing.Waiting (Request.Set w)) ≡ Standing.Waiting due → Request.Set w ≡ due
waits_for true w due e = absurd (false≢true (ap is_waiting e))
waits_for false w due e = ap (waited_for (Request.Set w)) e

none_waits : (b : Bool) → is_waiting (cond b Standing.Equal Standing.Done) ≡ false
none_waits true = refl
none_waits false = refl

-- what is due, by the answer of `due_after`
tells : (from to : Table) (n : ℕ) (d : Due) → due_in from to n ≡ d → Tells from to n d
tells from to n d e = rw (sym e) (due_tells from to n)

pub record Next (from to : Table) (n : ℕ) (due : Wanted) : Type 0 where
  pub both_allowed_lem : both_allowed from to ≡ true
  pub more : n < length (due_sets from to)
  pub narrow : Narrow due

pub record Last (from to : Table) (n : ℕ) : Type 0 where
  pub both_allowed_lem : both_allowed from to ≡ true
  pub none : length (due_sets from to) ≤ n

abbrev pub Known : (from to : Table) (n : ℕ) → Due → Type 0
Known from to n (Ok (Some due)) = Next from to n due
Known from to n (Ok None) = Last from to n
Known from to n (Err refusal) = both_allowed from to ≡ false

known : (from to : Table) (n : ℕ) (d : Due) → Tells from to n d → Known from to n d
known from to n d (a_set k is below ok more) =
    let row = rows_hold k below in
    record { both_allowed_lem = ok; more = more; narrow = record { some = row.width_some; few = row.width_most } }
known from to n d (none_left ok none) = record { both_allowed_lem = ok; none = none }
known from to n d (not_allowed_lem e) = e

pub due_known : (from to : Table) (n : ℕ) (d : Due) → due_in from to n ≡ d → Known from to n d
due_known from to n d e = known from to n d (tells from to n d e)

module _ (f : Follower) where
  pub allowed_stray : both_allowed f.from f.to ≡ false → false ≡ follower_allowed f
  unfolding follower_allowed
  allowed_stray e = rw e

  -- no more are confirmed than there are settings
  pub confirmed_few : follower_allowed f ≡ true → f.confirmed ≤ count
  unfolding follower_allowed
  confirmed_few e = by f.stopped (and_right (both_allowed f.from f.to) _ e)
    where
      few : total f ≤ count
      few = sets_are_few f.from f.to

      by : (b : Bool) → cond b (ltb f.confirmed (total f)) (leb f.confirmed (total f)) ≡ true → f.confirmed ≤ count
      by true e = let less : f.confirmed < total f = ltb-true _ _ e in let all : total f ≤ count = few in omega arith
      by false e = let less : f.confirmed ≤ total f = leb-true _ _ e in let all : total f ≤ count = few in omega arith

  -- how far it is, and what an event makes of it
  pub standing_is : (d : Due) → due_in f.from f.to f.confirmed ≡ d → stands_at f.stopped f.confirmed d ≡ standing f
  unfolding standing
  standing_is d e = rw e

  pub advanced_is : (e : Event) (o : Standing) → standing f ≡ o → moved f (effect_at o e) ≡ advanced f e
  unfolding advanced
  advanced_is e o h = rw h

  -- a follower that waits has a Set before it
  pub waiting_narrow : (due : Request) → standing f ≡ Standing.Waiting due → Sent due
  unfolding standing
  waiting_narrow due = by (due_in f.from f.to f.confirmed) (due_known f.from f.to f.confirmed _ refl)
    where
      by : (d : Due) → Known f.from f.to f.confirmed d → stands_at f.stopped f.confirmed d ≡ Standing.Waiting due → Sent due
      by (Ok (Some w)) k e = rw (sym (waits_for f.stopped w due e)) k.narrow
      by (Ok None) k e = absurd (false≢true (sym (none_waits (eqb f.confirmed 0)) ∙ ap is_waiting e))
      by (Err refusal) k e = absurd (false≢true (ap is_waiting e))

  pub standing_awaits : (o : Standing) → standing f ≡ o → Awaits o
  standing_awaits (Standing.Waiting due) e = waiting_narrow due e
  standing_awaits Standing.Equal e = tt
  standing_awaits Standing.Done e = tt
  standing_awaits (Standing.Stopped due) e = tt
  standing_awaits (Standing.Refused refusal) e = tt

  refused_still : (o : Standing) → moved f (effect_at o refused_frame) ≡ f
  refused_still (Standing.Waiting due) = refl
  refused_still Standing.Equal = refl
  refused_still Standing.Done = refl
  refused_still (Standing.Stopped due) = refl
  refused_still (Standing.Refused refusal) = refl

  pub refused_keeps : advanced f refused_frame ≡ f
  refused_keeps = sym (advanced_is refused_frame (standing f) refl) ∙ refused_still (standing f)

  -- the calls
  pub told_good : follower_allowed f ≡ true → answered f ≡ told f
  unfolding told
  told_good e = rw e

  pub told_stray : follower_allowed f ≡ false → unanswered f ≡ told f
  unfolding told
  told_stray e = rw e

  pub following_good : (e : Event) → follower_allowed f ≡ true → answered (advanced f e) ≡ following f e
  unfolding following
  following_good e h = rw h

  pub following_stray : (e : Event) → follower_allowed f ≡ false → unanswered f ≡ following f e
  unfolding following
  following_stray e h = rw h

  pub following_refused : told f ≡ following f refused_frame
  unfolding told following
  following_refused = rw refused_keeps
