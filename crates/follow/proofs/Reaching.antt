-- A follower is allowed exactly when a start and events give it, and the calls tell what was matched. Assumes nothing.
use mathlib.Core.Path.{◌≡◌, refl, sym, ap, ap₂, subst, ◌∙◌}
use mathlib.Core.Logic.{◌≢◌, ◌↔◌}
use mathlib.Core.Bool.{Bool, true, false, cond, false≢true}
use mathlib.Core.List.{List, [], ◌∷◌, ◌++◌, map}
use Prim.Native.Nat.{ℕ, zero, suc, ◌+◌, ◌≤◌, ◌<◌}
use native.Mathlib.Nat.{zero-add, add-zero}
use native.Mathlib.Omega.{arith}
use borrow.Author.Tests.{ltb-true, ltb-false, eq-eqb, ne_eqb, eqb-true, eqb-false}
use lib.ListN.{length, take, drop, drop_of_length-le}
use lib.Seq.{take-length}
use lib.Dec.{ltb, eqb}
use Rattle.laws.proofs.Bools.{and_left}
use Rattle.laws.specs.Lists.{Bytes}
use Rattle.tables.specs.declared.Table.{Table}
use Rattle.restore.specs.Order.{due_sets}
use Rattle.restore.specs.Calls.{both_allowed, due_after, due_in}
use Rattle.restore.proofs.Rows.{due_is}
use Rattle.requests.specs.declared.Wanted.{Wanted}
use Rattle.requests.specs.declared.Request.{Request}
use Rattle.std.specs.Prelude.{Some, None, Ok, Err}
use Rattle.restore.specs.Answers.{Due}
use Rattle.reply.proofs.Flags.{said_small}
use Rattle.reply.specs.Events.{Event, no_answer, OnStream, nothing, a_frame, a_silence}
use Rattle.follow.specs.Following.{effect_of, stands_at, standing, moved, advanced, begun, follower_allowed}
use Rattle.follow.specs.Calls.{answered, unanswered, told, starting, following}
use Rattle.follow.specs.Laws.{calls, Reached, AllowedIsReached, RefusedIsStray, own_data, matched, is_ended, CountIsTold, Tells, refused, equal, done, stopped, waiting, StandingExactly, own_reply, AllConfirmed, on_named, named, NamedIsListed, HandedIsTold, ToldIsLast, run, CallsFollow}
use Rattle.follow.specs.declared.Follower.{Follower}
use Rattle.follow.specs.declared.Followed.{Followed}
use Rattle.follow.specs.declared.Standing.{Standing}
use Rattle.follow.specs.declared.effect.Effect.{Effect}
use Rattle.follow.proofs.Standings.{Known, due_known, allowed_stray, standing_is, told_good, told_stray, following_good, following_stray}
use Rattle.follow.proofs.Matching.{frame_read, effect_is, own_matches}
use Rattle.follow.proofs.Counting.{drop_next, at, due_left, sound_due, waits_moves, run_is, going_allowed, going_few, ended_few, some_left, all_done, Goes, goes_far, begins}

more_than_none : (n : ℕ) → n ≢ 0 → 0 < n
more_than_none zero h = absurd (h refl)
more_than_none (suc n) h = omega arith

run_append : (f : Follower) (xs ys : List Event) → run f (xs ++ ys) ≡ run (run f xs) ys
run_append f [] ys = refl
run_append f (x ∷ xs) ys = run_append (advanced f x) xs ys

drop_some : (l : List Wanted) (n : ℕ) → n < length l → (w : Wanted) × (left : List Wanted) × (drop n l ≡ w ∷ left)
drop_some [] n h = absurd (omega arith)
drop_some (w ∷ l) zero h = (w, l, refl)
drop_some (w ∷ l) (suc n) h = drop_some l n (omega arith)

own_bytes : (due : Wanted) → Bytes (own_data due)
own_bytes due = said_small due.setting.id due.setting.width due.number

-- a row of calls tells of the follower that the events give
told_run : (from to : Table) → both_allowed from to ≡ true → (f : Follower) (events : List Event) → Goes from to f → calls (answered f) events ≡ answered (run f events)
told_run from to ok f [] g = refl
told_run from to ok f (e ∷ more) g =
    rw (sym (following_good f e g.is_allowed)) (told_run from to ok (advanced f e) more (goes_far from to ok f (e ∷ []) g))

stray_run : (f : Follower) → follower_allowed f ≡ false → (events : List Event) → calls (unanswered f) events ≡ unanswered f
stray_run f bad [] = refl
stray_run f bad (e ∷ more) = rw (sym (following_stray f e bad)) (stray_run f bad more)

pub told_as : (from to : Table) → both_allowed from to ≡ true → (events : List Event) → calls (starting from to) events ≡ answered (run (begun from to) events)
unfolding starting
told_as from to ok events =
    let start : Goes from to (begun from to) = begins from to ok in
    rw (sym (told_good (begun from to) start.is_allowed)) (told_run from to ok (begun from to) events start)

told_not : (from to : Table) → both_allowed from to ≡ false → (events : List Event) → calls (starting from to) events ≡ unanswered (begun from to)
unfolding starting
told_not from to bad events =
    let stray : follower_allowed (begun from to) ≡ false = sym (allowed_stray (begun from to) bad) in
    rw (sym (told_stray (begun from to) stray)) (stray_run (begun from to) stray events)

pub follow_calls : CallsFollow
follow_calls from to events = by (both_allowed from to) refl
  where
    by : (b : Bool) → both_allowed from to ≡ b → calls (starting from to) events ≡ cond b (answered (run (begun from to) events)) (unanswered (begun from to))
    by true ok = told_as from to ok events
    by false bad = told_not from to bad events

pub handed_told : HandedIsTold
handed_told from to events ok =
    let is : calls (starting from to) events ≡ answered (run (begun from to) events) = told_as from to ok events in (
      ap (λ (t : Followed). t.follower.confirmed) is ∙ sym (ap (λ (t : Followed). t.confirmed) is),
      ap (λ (t : Followed). standing t.follower) is ∙ sym (ap (λ (t : Followed). t.standing) is),
    )

pub told_last : ToldIsLast
told_last from to events = by (both_allowed from to) refl
  where
    again : (t : Followed) → calls (starting from to) events ≡ t → told t.follower ≡ t → told (calls (starting from to) events).follower ≡ calls (starting from to) events
    again t is same = ap (λ (x : Followed). told x.follower) is ∙ same ∙ sym is

    by : (b : Bool) → both_allowed from to ≡ b → told (calls (starting from to) events).follower ≡ calls (starting from to) events
    by true ok =
        again (answered (run (begun from to) events)) (told_as from to ok events)
        (sym (told_good (run (begun from to) events) (goes_far from to ok (begun from to) events (begins from to ok)).is_allowed))
    by false bad =
        again (unanswered (begun from to)) (told_not from to bad events) (sym (told_stray (begun from to) (sym (allowed_stray (begun from to) bad))))

-- the board's own replies are ones that a stream can give
own_stream : (l : List Wanted) {more : List Event} → OnStream more → OnStream (map own_reply l ++ more)
own_stream [] r = r
own_stream (w ∷ l) r = a_frame (own_bytes w) (own_stream l r)

-- then silence or nothing
abbrev silence : Bool → List Event
silence true = no_answer ∷ []
silence false = []

silent : (quiet : Bool) → OnStream (silence quiet)
silent true = a_silence nothing
silent false = nothing

few_of : (from to : Table) (ok : both_allowed from to ≡ true) (n : ℕ) (stopped : Bool) → follower_allowed (at from to ok n stopped) ≡ true → n ≤ length (due_sets from to)
few_of from to ok n true e = let less : n < length (due_sets from to) = ended_few from to ok n e in omega arith
few_of from to ok n false e = going_few from to ok n e

module _ (from to : Table) (ok : both_allowed from to ≡ true) where
  -- the board's own replies to the Sets that are left, one after another
  own_moves : (n : ℕ) (w : Wanted) → due_in from to n ≡ Ok (Some w) → advanced (at from to ok n false) (own_reply w) ≡ at from to ok (suc n) false
  own_moves n w due =
      let confirms : effect_of (Request.Set w) (own_reply w) ≡ Effect.Confirms = rw (own_matches w) at (effect_is w (sound_due from to ok n w due) (own_reply w) (frame_read (own_bytes w))) in
      waits_moves from to ok n w due (own_reply w) ∙ ap (moved (at from to ok n false)) confirms

  all_own : (m n : ℕ) → n + m ≤ length (due_sets from to) → run (at from to ok n false) (map own_reply (take m (drop n (due_sets from to)))) ≡ at from to ok (n + m) false
  all_own zero n h = ap (λ (k : ℕ). at from to ok k false) (sym (add-zero n))
  all_own (suc m) n h =
      let some = drop_some (due_sets from to) n (omega arith) in
      let w : Wanted = some.0 in
      let is : drop n (due_sets from to) ≡ w ∷ some.1 = some.2 in
      let left : drop (suc n) (due_sets from to) ≡ some.1 = drop_next (due_sets from to) some.1 n w is in
      let next : suc n + m ≡ n + suc m = omega arith in
      let step : advanced (at from to ok n false) (own_reply w) ≡ at from to ok (suc n) false = own_moves n w (due_left from to ok n (w ∷ some.1) is) in
      ap (λ (l : List Wanted). run (at from to ok n false) (map own_reply (take (suc m) l))) is
      ∙ ap₂ (λ (f : Follower) (l : List Wanted). run f (map own_reply (take m l))) step (sym left)
      ∙ all_own m (suc n) (omega arith) ∙ ap (λ (k : ℕ). at from to ok k false) next

  there : (n : ℕ) → n ≤ length (due_sets from to) → run (begun from to) (map own_reply (take n (due_sets from to))) ≡ at from to ok n false
  there n h = all_own n 0 (rw (zero-add n) h) ∙ ap (λ (k : ℕ). at from to ok k false) (zero-add n)

  -- this many confirmed, and then silence or nothing
  after_silence : (n : ℕ) (quiet : Bool) → follower_allowed (at from to ok n quiet) ≡ true → run (at from to ok n false) (silence quiet) ≡ at from to ok n quiet
  after_silence n true h = let due = some_left from to ok n (ended_few from to ok n h) in waits_moves from to ok n due.0 due.1 no_answer
  after_silence n false h = refl

  arrive : (n : ℕ) (quiet : Bool) → follower_allowed (at from to ok n quiet) ≡ true → Reached (at from to ok n quiet)
  arrive n quiet h =
      let own : List Event = map own_reply (take n (due_sets from to)) in
      record {
        events = own ++ silence quiet;
        begins = ok;
        stream = own_stream (take n (due_sets from to)) (silent quiet);
        arrives = ap (λ (t : Followed). t.follower) (told_as from to ok (own ++ silence quiet)) ∙ run_append (begun from to) own (silence quiet)
            ∙ ap (λ (f : Follower). run f (silence quiet)) (there n (few_of from to ok n quiet h)) ∙ after_silence n quiet h;
      }

  -- the Sets that are named
  named_from : (n k : ℕ) → k ≤ length (due_sets from to) → named n (answered (at from to ok k false)) ≡ take n (drop k (due_sets from to))
  named_from zero k h = refl
  named_from (suc n) k h = by (ltb k (length (due_sets from to))) refl (named_from n (suc k))
    where
      next : Wanted → List Wanted
      next due = due ∷ named n (following (at from to ok k false) (own_reply due))

      ended : (b : Bool) → on_named next (cond b Standing.Equal Standing.Done) ≡ []
      ended true = refl
      ended false = refl

      by : (b : Bool) → ltb k (length (due_sets from to)) ≡ b
          → (suc k ≤ length (due_sets from to) → named n (answered (at from to ok (suc k) false)) ≡ take n (drop (suc k) (due_sets from to)))
          → on_named next (standing (at from to ok k false)) ≡ take (suc n) (drop k (due_sets from to))
      by true less later =
          let some = drop_some (due_sets from to) k (ltb-true _ _ less) in
          let w : Wanted = some.0 in
          let is : drop k (due_sets from to) ≡ w ∷ some.1 = some.2 in
          let due : due_in from to k ≡ Ok (Some w) = due_left from to ok k (w ∷ some.1) is in
          let left : drop (suc k) (due_sets from to) ≡ some.1 = drop_next (due_sets from to) some.1 k w is in
          let step : following (at from to ok k false) (own_reply w) ≡ answered (at from to ok (suc k) false) =
          sym (following_good (at from to ok k false) (own_reply w) (going_allowed from to ok k h)) ∙ ap answered (own_moves k w due) in
          ap (on_named next) (sym (standing_is (at from to ok k false) (Ok (Some w)) due))
          ∙ ap (λ (l : List Wanted). w ∷ l) (ap (named n) step ∙ later (ltb-true _ _ less) ∙ ap (take n) left) ∙ ap (take (suc n)) (sym is)
      by false most later =
          let none : length (due_sets from to) ≤ k = ltb-false _ _ most in
          ap (on_named next) (sym (standing_is (at from to ok k false) (Ok None) (all_done from to ok k none))) ∙ ended (eqb k 0)
          ∙ ap (take (suc n)) (sym (drop_of_length-le (due_sets from to) none))

-- the statements
both_of : (f : Follower) → follower_allowed f ≡ true → both_allowed f.from f.to ≡ true
unfolding follower_allowed
both_of f e = and_left (both_allowed f.from f.to) _ e

pub allowed_reached : AllowedIsReached
allowed_reached f = (
  λ e. arrive f.from f.to (both_of f e) f.confirmed f.stopped e,
  λ r.
      let start : Follower = begun f.from f.to in
      let is : run start r.events ≡ f = sym (ap (λ (t : Followed). t.follower) (told_as f.from f.to r.begins r.events)) ∙ r.arrives in
      subst (λ (g : Follower). follower_allowed g ≡ true) is
      (goes_far f.from f.to r.begins start r.events (begins f.from f.to r.begins)).is_allowed,
)

-- an allowed follower is never told as refused
abbrev pub is_refused : Standing → Bool
is_refused (Standing.Waiting due) = false
is_refused Standing.Equal = false
is_refused Standing.Done = false
is_refused (Standing.Stopped due) = false
is_refused (Standing.Refused refusal) = true

pub allowed_stands : (f : Follower) → follower_allowed f ≡ true → is_refused (standing f) ≡ false
allowed_stands f ok = by (due_in f.from f.to f.confirmed) refl (due_known f.from f.to f.confirmed _ refl)
  where
    set_stands : (b : Bool) (w : Wanted) → is_refused (cond b (Standing.Stopped w) (Standing.Waiting (Request.Set w))) ≡ false
    set_stands true w = refl
    set_stands false w = refl

    none_stands : (b : Bool) → is_refused (cond b Standing.Equal Standing.Done) ≡ false
    none_stands true = refl
    none_stands false = refl

    by : (d : Due) → due_in f.from f.to f.confirmed ≡ d → Known f.from f.to f.confirmed d → is_refused (standing f) ≡ false
    by (Ok (Some w)) e k = ap is_refused (sym (standing_is f (Ok (Some w)) e)) ∙ set_stands f.stopped w
    by (Ok None) e k = ap is_refused (sym (standing_is f (Ok None) e)) ∙ none_stands (eqb f.confirmed 0)
    by (Err refusal) e k = absurd (false≢true (sym k ∙ both_of f ok))

module _ (f : Follower) where
  -- refused exactly where the follower is stray, for an answer that is of an allowed follower where this one is allowed
  refused_when : (t : Followed) → (follower_allowed f ≡ true → (g : Follower) × (follower_allowed g ≡ true) × (answered g ≡ t)) → (follower_allowed f ≡ false → unanswered f ≡ t)
      → (t ≡ unanswered f) ↔ (Reached f → ⊥)
  refused_when t good stray = (
    λ e reached.
        let it = good ((allowed_reached f).1 reached) in
        false≢true (sym (allowed_stands it.0 it.1) ∙ ap (λ (x : Followed). is_refused x.standing) (it.2 ∙ e)),
    λ none. by (follower_allowed f) refl none,
  )
    where
      by : (b : Bool) → follower_allowed f ≡ b → (Reached f → ⊥) → t ≡ unanswered f
      by true ok none = absurd (none ((allowed_reached f).0 ok))
      by false bad none = sym (stray bad)

pub stray_refused : RefusedIsStray
stray_refused f = (
  refused_when f (told f) (λ ok. (f, ok, told_good f ok)) (told_stray f),
  λ e.
      refused_when f (following f e)
      (λ ok.
      let own : Goes f.from f.to f = record { from_is = refl; to_is = refl; is_allowed = ok } in
      (advanced f e, (goes_far f.from f.to (both_of f ok) f (e ∷ []) own).is_allowed, following_good f e ok))
      (following_stray f e),
)

module _ (from to : Table) (ok : both_allowed from to ≡ true) (events : List Event) (r : OnStream events) where
  abbrev end : Follower
  end = at from to ok (matched (due_sets from to) events) (is_ended (due_sets from to) events)

  told_end : calls (starting from to) events ≡ answered end
  told_end = told_as from to ok events ∙ ap answered (run_is from to ok events r)

  few : matched (due_sets from to) events ≤ length (due_sets from to)
  few = few_of from to ok _ (is_ended (due_sets from to) events)
      (subst (λ (f : Follower). follower_allowed f ≡ true) (run_is from to ok events r) (goes_far from to ok (begun from to) events (begins from to ok)).is_allowed)

  -- how far it is, by the Set that is due
  stands : (d : Due) → due_in from to (matched (due_sets from to) events) ≡ d → (calls (starting from to) events).standing ≡ stands_at end.stopped end.confirmed d
  stands d e = ap (λ (t : Followed). t.standing) told_end ∙ sym (standing_is end d e)

  tells_set : (w : Wanted) → due_after (due_sets from to) (matched (due_sets from to) events) ≡ Ok (Some w) → (b : Bool) → is_ended (due_sets from to) events ≡ b
      → Tells from to events (cond b (Standing.Stopped w) (Standing.Waiting (Request.Set w)))
  tells_set w due true e = stopped ok e due
  tells_set w due false e = waiting ok e due

  tells_none : length (due_sets from to) ≤ matched (due_sets from to) events → (b : Bool) → eqb (matched (due_sets from to) events) 0 ≡ b
      → Tells from to events (cond b Standing.Equal Standing.Done)
  tells_none none true e = let z : matched (due_sets from to) events ≡ 0 = eqb-true _ _ e in equal ok (omega arith)
  tells_none none false e =
      let some : 0 < matched (due_sets from to) events = more_than_none _ (eqb-false _ _ e) in
      let most : matched (due_sets from to) events ≤ length (due_sets from to) = few in
      done ok (omega arith) (omega arith)

  tells : Tells from to events (calls (starting from to) events).standing
  tells = by (ltb (matched (due_sets from to) events) (length (due_sets from to))) refl
    where
      by : (b : Bool) → ltb (matched (due_sets from to) events) (length (due_sets from to)) ≡ b → Tells from to events (calls (starting from to) events).standing
      by true less =
          let due = some_left from to ok _ (ltb-true _ _ less) in
          subst (Tells from to events) (sym (stands (Ok (Some due.0)) due.1)) (tells_set due.0 (due_is from to _ ok ∙ due.1) (is_ended (due_sets from to) events) refl)
      by false most =
          let none : length (due_sets from to) ≤ matched (due_sets from to) events = ltb-false _ _ most in
          subst (Tells from to events) (sym (stands (Ok None) (all_done from to ok _ none))) (tells_none none (eqb (matched (due_sets from to) events) 0) refl)

pub counts_told : CountIsTold
counts_told from to events r = by (both_allowed from to) refl
  where
    by : (b : Bool) → both_allowed from to ≡ b → (calls (starting from to) events).confirmed ≡ cond b (matched (due_sets from to) events) 0
    by true ok = ap (λ (t : Followed). t.confirmed) (told_end from to ok events r)
    by false bad = ap (λ (t : Followed). t.confirmed) (told_not from to bad events)

module _ (from to : Table) (events : List Event) (r : OnStream events) where
  tells_any : (b : Bool) → both_allowed from to ≡ b → Tells from to events (calls (starting from to) events).standing
  tells_any true ok = tells from to ok events r
  tells_any false bad = subst (Tells from to events) (sym (ap (λ (t : Followed). t.standing) (told_not from to bad events))) (refused bad)

  given : (answer : Standing) → Tells from to events answer → (calls (starting from to) events).standing ≡ answer
  given (Standing.Refused refusal) (refused bad) = ap (λ (t : Followed). t.standing) (told_not from to bad events)
  given Standing.Equal (equal ok none) =
      let most : matched (due_sets from to) events ≤ length (due_sets from to) = few from to ok events r in
      stands from to ok events r (Ok None) (all_done from to ok _ (omega arith)) ∙ rw (eq-eqb (matched (due_sets from to) events) 0 (omega arith))
  given Standing.Done (done ok some all) =
      let other : matched (due_sets from to) events ≢ 0 = λ none. absurd (omega arith) in
      stands from to ok events r (Ok None) (all_done from to ok _ (omega arith)) ∙ rw (ne_eqb (matched (due_sets from to) events) 0 other)
  given (Standing.Stopped due) (stopped ok e is) = stands from to ok events r (Ok (Some due)) (sym (due_is from to _ ok) ∙ is) ∙ rw e
  given (Standing.Waiting request) (waiting {due = due} ok e is) = stands from to ok events r (Ok (Some due)) (sym (due_is from to _ ok) ∙ is) ∙ rw e

pub stands_exactly : StandingExactly
stands_exactly from to events answer r =
    (λ e. subst (Tells from to events) e (tells_any from to events r (both_allowed from to) refl), λ t. given from to events r answer t)

pub all_confirmed : (from to : Table) → both_allowed from to ≡ true
    → run (begun from to) (map own_reply (due_sets from to)) ≡ record { from = from; to = to; confirmed = length (due_sets from to); stopped = false }
all_confirmed from to ok =
    ap (λ (l : List Wanted). run (begun from to) (map own_reply l)) (sym (take-length (due_sets from to))) ∙ there from to ok (length (due_sets from to)) (omega arith)

pub all_told : AllConfirmed
all_told from to ok =
    ap (λ (t : Followed). t.confirmed) (told_as from to ok (map own_reply (due_sets from to))) ∙ ap (λ (f : Follower). f.confirmed) (all_confirmed from to ok)

pub named_listed : NamedIsListed
named_listed from to n = by (both_allowed from to) n refl
  where
    by : (b : Bool) (n : ℕ) → both_allowed from to ≡ b → named n (starting from to) ≡ cond b (take n (due_sets from to)) []
    by true n ok = ap (named n) (told_as from to ok []) ∙ named_from from to ok n 0 (omega arith)
    by false zero bad = refl
    by false (suc n) bad = ap (named (suc n)) (told_not from to bad [])

-- The same of the follower itself, for proofs above.
module _ (from to : Table) (events : List Event) (ok : both_allowed from to ≡ true) where
  pub counts : OnStream events → (run (begun from to) events).confirmed ≡ matched (due_sets from to) events
  counts r = ap (λ (f : Follower). f.confirmed) (run_is from to ok events r)

  stands_told : standing (run (begun from to) events) ≡ (calls (starting from to) events).standing
  stands_told = ap (λ (t : Followed). t.standing) (sym (told_as from to ok events))

  pub done_all : OnStream events
      → (standing (run (begun from to) events) ≡ Standing.Done) ↔ ((0 < length (due_sets from to)) × (matched (due_sets from to) events ≡ length (due_sets from to)))
  done_all r = (
    λ e. as_done ((stands_exactly from to events Standing.Done r).0 (sym stands_told ∙ e)),
    λ all. stands_told ∙ (stands_exactly from to events Standing.Done r).1 (done ok all.0 all.1),
  )
    where
      as_done : Tells from to events Standing.Done → (0 < length (due_sets from to)) × (matched (due_sets from to) events ≡ length (due_sets from to))
      as_done (done both some all) = (some, all)

  -- any follower is one that events on a stream give
  pub equal_nothing : (standing (run (begun from to) events) ≡ Standing.Equal) ↔ (length (due_sets from to) ≡ 0)
  equal_nothing = (
    λ e. as_equal ((stands_exactly from to r.events Standing.Equal r.stream).0 (sym same ∙ e)),
    λ none. same ∙ (stands_exactly from to r.events Standing.Equal r.stream).1 (equal ok none),
  )
    where
      goes : Goes from to (run (begun from to) events)
      goes = goes_far from to ok (begun from to) events (begins from to ok)

      r : Reached (run (begun from to) events)
      r = (allowed_reached (run (begun from to) events)).0 goes.is_allowed

      same : standing (run (begun from to) events) ≡ (calls (starting from to) r.events).standing
      same =
          ap standing (sym r.arrives ∙ ap₂ (λ (a b : Table). (calls (starting a b) r.events).follower) goes.from_is goes.to_is
          ∙ ap (λ (t : Followed). t.follower) (told_as from to ok r.events))
          ∙ ap (λ (t : Followed). t.standing) (sym (told_as from to ok r.events))

      as_equal : Tells from to r.events Standing.Equal → length (due_sets from to) ≡ 0
      as_equal (equal both none) = none
