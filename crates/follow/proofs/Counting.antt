-- A follower over a row of events: what it has confirmed is what matched, and it is one that a start and events give. Assumes nothing.
use mathlib.Core.Path.{◌≡◌, refl, sym, ap, ap₂, ◌∙◌}
use mathlib.Core.Bool.{Bool, true, false, cond, false≢true}
use mathlib.Core.List.{List, [], ◌∷◌}
use Prim.Native.Nat.{ℕ, zero, suc, ◌+◌, ◌≤◌, ◌<◌}
use native.Mathlib.Nat.{zero-add, add-zero}
use native.Mathlib.Omega.{arith}
use borrow.Author.Tests.{lt-ltb, le-leb, ltb-true, ltb-false, leb-true}
use lib.ListN.{length, drop}
use lib.Dec.{ltb, eqb}
use Rattle.laws.proofs.Bools.{and_right, both}
use Rattle.settings.specs.Columns.{count}
use Rattle.tables.specs.Rules.{allowed, number_at}
use Rattle.tables.specs.declared.Table.{Table}
use Rattle.settings.proofs.Theorems.{rows_hold, range_has_room}
use Rattle.tables.proofs.Tables.{range_at}
use Rattle.restore.specs.Order.{wanted, due_sets}
use Rattle.restore.specs.Calls.{both_allowed, due_after, due_in}
use Rattle.restore.specs.Laws.{Tells, a_set, none_left, not_allowed_lem}
use Rattle.requests.specs.declared.Wanted.{Wanted}
use Rattle.requests.specs.declared.Request.{Request}
use Rattle.std.specs.Prelude.{Some, None, Ok, Err}
use Rattle.restore.specs.Answers.{Due}
use Rattle.restore.proofs.Theorems.{due_tells}
use Rattle.restore.proofs.Rows.{due_is}
use Rattle.reply.specs.Events.{Event, OnStream, a_frame, a_refusal, a_silence}
use Rattle.follow.specs.Following.{effect_of, standing, moved, effect_at, advanced, begun, follower_allowed}
use Rattle.follow.specs.Laws.{run, matches, ends, matched, is_ended}
use Rattle.follow.specs.declared.Follower.{Follower}
use Rattle.follow.specs.declared.Standing.{Standing}
use Rattle.follow.specs.declared.effect.Effect.{Effect}
use Rattle.follow.proofs.Standings.{standing_is, advanced_is}
use Rattle.follow.proofs.Matching.{Sound, AsRead, frame_read, broken_read, silence_read, effect_is}

-- the first of some events, and the others
first : {e : Event} {more : List Event} → OnStream (e ∷ more) → AsRead e
first (a_frame small r) = frame_read small
first (a_refusal r) = broken_read
first (a_silence r) = silence_read

later : {e : Event} {more : List Event} → OnStream (e ∷ more) → OnStream more
later (a_frame small r) = r
later (a_refusal r) = r
later (a_silence r) = r

next : (n m : ℕ) → suc n + m ≡ n + suc m
next n m = omega arith

-- the Set that is due is the first of those that are left
abbrev head_due : List Wanted → Due
head_due [] = Ok None
head_due (w ∷ left) = Ok (Some w)

after_drop : (l : List Wanted) (n : ℕ) → due_after l n ≡ head_due (drop n l)
after_drop [] zero = refl
after_drop [] (suc n) = refl
after_drop (w ∷ l) zero = refl
after_drop (w ∷ l) (suc n) = after_drop l n

pub drop_next : (l left : List Wanted) (n : ℕ) (w : Wanted) → drop n l ≡ w ∷ left → drop (suc n) l ≡ left
drop_next [] left zero w e = ap (drop 1) e
drop_next [] left (suc n) w e = ap (drop 1) e
drop_next (x ∷ l) left zero w e = ap (drop 1) e
drop_next (x ∷ l) left (suc n) w e = drop_next l left n w e

-- every Set of the list is of an id and a number that have their room
wanted_sound : (to : Table) → allowed to ≡ true → (k : ℕ) → k < count → Sound (wanted to k)
wanted_sound to ok k h = record { id_fits = (rows_hold k h).id_holds; number_fits = range_has_room k (number_at to k) h (range_at to ok k h) }

module _ (from to : Table) (ok : both_allowed from to ≡ true) where
  abbrev pub at : ℕ → Bool → Follower
  at n stopped = record { from = from; to = to; confirmed = n; stopped = stopped }

  pub due_left : (n : ℕ) (l : List Wanted) → drop n (due_sets from to) ≡ l → due_in from to n ≡ head_due l
  due_left n l e = sym (due_is from to n ok) ∙ after_drop (due_sets from to) n ∙ ap head_due e

  pub sound_due : (n : ℕ) (w : Wanted) → due_in from to n ≡ Ok (Some w) → Sound w
  sound_due n w e = by (Ok (Some w)) (rw (sym e) (due_tells from to n)) refl
    where
      wanted_of : Due → Wanted
      wanted_of (Ok (Some due)) = due
      wanted_of (Ok None) = w
      wanted_of (Err refusal) = w

      is_set : Due → Bool
      is_set (Ok (Some due)) = true
      is_set (Ok None) = false
      is_set (Err refusal) = false

      by : (d : Due) → Tells from to n d → d ≡ Ok (Some w) → Sound w
      by d (a_set k is below both more) f = rw (sym (ap wanted_of f)) (wanted_sound to (and_right (allowed from) _ ok) k below)
      by d (none_left both none) f = absurd (false≢true (ap is_set f))
      by d (not_allowed_lem bad) f = absurd (false≢true (ap is_set f))

  -- a stopped follower, and one with no Set left, stay
  stays : (f : Follower) → ((e : Event) → advanced f e ≡ f) → (events : List Event) → run f events ≡ f
  stays f h [] = refl
  stays f h (e ∷ more) = rw (h e) (stays f h more)

  stopped_stays : (n : ℕ) (w : Wanted) → due_in from to n ≡ Ok (Some w) → (e : Event) → advanced (at n true) e ≡ at n true
  stopped_stays n w due e = sym (advanced_is (at n true) e (Standing.Stopped w) (sym (standing_is (at n true) (Ok (Some w)) due)))

  none_stays : (n : ℕ) (stopped : Bool) → due_in from to n ≡ Ok None → (e : Event) → advanced (at n stopped) e ≡ at n stopped
  none_stays n stopped due e = by (eqb n 0) refl
    where
      by : (b : Bool) → eqb n 0 ≡ b → advanced (at n stopped) e ≡ at n stopped
      by true z = sym (advanced_is (at n stopped) e Standing.Equal (sym (standing_is (at n stopped) (Ok None) due) ∙ rw z))
      by false z = sym (advanced_is (at n stopped) e Standing.Done (sym (standing_is (at n stopped) (Ok None) due) ∙ rw z))

  -- one that waits moves by the effect
  pub waits_moves : (n : ℕ) (w : Wanted) → due_in from to n ≡ Ok (Some w) → (e : Event) → advanced (at n false) e ≡ moved (at n false) (effect_of (Request.Set w) e)
  waits_moves n w due e = sym (advanced_is (at n false) e (Standing.Waiting (Request.Set w)) (sym (standing_is (at n false) (Ok (Some w)) due)))

  -- what is confirmed is what matched of the Sets that were left, and it has stopped where one of them was ended
  goes_as : (n : ℕ) (l : List Wanted) (events : List Event) → drop n (due_sets from to) ≡ l → OnStream events
      → run (at n false) events ≡ at (n + matched l events) (is_ended l events)
  unfolding matched is_ended
  goes_as n [] events e r = stays (at n false) (none_stays n false (due_left n [] e)) events ∙ ap (λ (k : ℕ). at k false) (sym (add-zero n))
  goes_as n (w ∷ l) [] e r = ap (λ (k : ℕ). at k false) (sym (add-zero n))
  goes_as n (w ∷ l) (x ∷ more) e r = by (matches w x) (ends w x) refl refl
      (goes_as (suc n) l more (drop_next (due_sets from to) l n w e) (later r)) (goes_as n (w ∷ l) more e (later r))
    where
      due : due_in from to n ≡ Ok (Some w)
      due = due_left n (w ∷ l) e

      moves : advanced (at n false) x ≡ moved (at n false) (cond (matches w x) Effect.Confirms (cond (ends w x) Effect.Stops Effect.Waits))
      moves = waits_moves n w due x ∙ ap (moved (at n false)) (effect_is w (sound_due n w due) x (first r))

      by : (s t : Bool) → matches w x ≡ s → ends w x ≡ t → run (at (suc n) false) more ≡ at (suc n + matched l more) (is_ended l more)
          → run (at n false) more ≡ at (n + matched (w ∷ l) more) (is_ended (w ∷ l) more)
          → run (advanced (at n false) x) more
          ≡ at (n + cond (matches w x) (suc (matched l more)) (cond (ends w x) zero (matched (w ∷ l) more)))
          (cond (matches w x) (is_ended l more) (cond (ends w x) true (is_ended (w ∷ l) more)))
      by true t m d confirmed waited = rw (moves, m) (confirmed ∙ ap (λ (k : ℕ). at k (is_ended l more)) (next n (matched l more)))
      by false true m d confirmed waited =
          rw (moves, m, d) (stays (at n true) (stopped_stays n w due) more ∙ ap (λ (k : ℕ). at k true) (sym (add-zero n)))
      by false false m d confirmed waited = rw (moves, m, d) waited

  pub run_is : (events : List Event) → OnStream events → run (at 0 false) events ≡ at (matched (due_sets from to) events) (is_ended (due_sets from to) events)
  run_is events r =
      goes_as 0 (due_sets from to) events refl r ∙ ap (λ (k : ℕ). at k (is_ended (due_sets from to) events)) (zero-add (matched (due_sets from to) events))

  -- the followers of these tables that are allowed
  pub going_allowed : (n : ℕ) → n ≤ length (due_sets from to) → follower_allowed (at n false) ≡ true
  unfolding follower_allowed
  going_allowed n h = rw (ok, le-leb n (length (due_sets from to)) h)

  ended_allowed : (n : ℕ) → n < length (due_sets from to) → follower_allowed (at n true) ≡ true
  unfolding follower_allowed
  ended_allowed n h = rw (ok, lt-ltb n (length (due_sets from to)) h)

  pub going_few : (n : ℕ) → follower_allowed (at n false) ≡ true → n ≤ length (due_sets from to)
  unfolding follower_allowed
  going_few n e = leb-true _ _ (and_right (both_allowed from to) _ e)

  pub ended_few : (n : ℕ) → follower_allowed (at n true) ≡ true → n < length (due_sets from to)
  unfolding follower_allowed
  ended_few n e = ltb-true _ _ (and_right (both_allowed from to) _ e)

  -- what is left, by how many there are
  pub some_left : (n : ℕ) → n < length (due_sets from to) → (w : Wanted) × (due_in from to n ≡ Ok (Some w))
  some_left n h = by (due_in from to n) (due_tells from to n) refl
    where
      by : (d : Due) → Tells from to n d → due_in from to n ≡ d → (w : Wanted) × (due_in from to n ≡ Ok (Some w))
      by d (a_set k is below both more) e = (wanted to k, e)
      by d (none_left both none) e = absurd (omega arith)
      by d (not_allowed_lem bad) e = absurd (false≢true (sym bad ∙ ok))

  pub all_done : (n : ℕ) → length (due_sets from to) ≤ n → due_in from to n ≡ Ok None
  all_done n h = by (due_in from to n) (due_tells from to n) refl
    where
      by : (d : Due) → Tells from to n d → due_in from to n ≡ d → due_in from to n ≡ Ok None
      by d (a_set k is below both more) e = absurd (omega arith)
      by d (none_left both none) e = e
      by d (not_allowed_lem bad) e = absurd (false≢true (sym bad ∙ ok))

  -- an event keeps a follower allowed
  moved_allowed : (n : ℕ) → n < length (due_sets from to) → (v : Effect) → follower_allowed (moved (at n false) v) ≡ true
  moved_allowed n h Effect.Confirms = going_allowed (suc n) (omega arith)
  moved_allowed n h Effect.Stops = ended_allowed n h
  moved_allowed n h Effect.Waits = going_allowed n (omega arith)

  advanced_allowed : (n : ℕ) (stopped : Bool) (e : Event) → follower_allowed (at n stopped) ≡ true → follower_allowed (advanced (at n stopped) e) ≡ true
  advanced_allowed n true e h =
      let due = some_left n (ended_few n h) in
      rw (stopped_stays n due.0 due.1 e) h
  advanced_allowed n false e h = by (ltb n (length (due_sets from to))) refl
    where
      by : (b : Bool) → ltb n (length (due_sets from to)) ≡ b → follower_allowed (advanced (at n false) e) ≡ true
      by true less =
          let more = ltb-true _ _ less in
          let due = some_left n more in
          rw (waits_moves n due.0 due.1 e) (moved_allowed n more (effect_of (Request.Set due.0) e))
      by false most = rw (none_stays n false (all_done n (ltb-false _ _ most)) e) h

-- An event keeps the two tables.
moved_from : (f : Follower) (v : Effect) → ((moved f v).from ≡ f.from) × ((moved f v).to ≡ f.to)
moved_from f Effect.Confirms = (refl, refl)
moved_from f Effect.Stops = (refl, refl)
moved_from f Effect.Waits = (refl, refl)

-- a follower of allowed tables that is allowed
pub record Goes (from to : Table) (f : Follower) : Type 0 where
  pub from_is : f.from ≡ from
  pub to_is : f.to ≡ to
  pub is_allowed : follower_allowed f ≡ true

goes_on : (from to : Table) → both_allowed from to ≡ true → (f : Follower) (e : Event) → Goes from to f → Goes from to (advanced f e)
unfolding advanced
goes_on from to ok f e g =
    let kept = moved_from f (effect_at (standing f) e) in
    let both_ok : both_allowed f.from f.to ≡ true = ap₂ (λ (a b : Table). both_allowed a b) g.from_is g.to_is ∙ ok in
    record {
      from_is = kept.0 ∙ g.from_is;
      to_is = kept.1 ∙ g.to_is;
      is_allowed = advanced_allowed f.from f.to both_ok f.confirmed f.stopped e g.is_allowed;
    }

pub goes_far : (from to : Table) → both_allowed from to ≡ true → (f : Follower) (events : List Event) → Goes from to f → Goes from to (run f events)
goes_far from to ok f [] g = g
goes_far from to ok f (e ∷ more) g = goes_far from to ok (advanced f e) more (goes_on from to ok f e g)

pub begins : (from to : Table) → both_allowed from to ≡ true → Goes from to (begun from to)
begins from to ok = record { from_is = refl; to_is = refl; is_allowed = going_allowed from to ok 0 (omega arith) }
