-- A row of events: the viewer that it gives, and its counts. Assumes nothing.
use mathlib.Core.Path.{◌≡◌, refl, sym, ap, ap₂, subst, ◌∙◌}
use mathlib.Core.Logic.{◌≢◌, ◌↔◌}
use mathlib.Core.Bool.{Bool, true, false, cond, ◌&&◌}
use mathlib.Core.List.{List, [], ◌∷◌}
use Prim.Native.Nat.{ℕ, suc, ◌+◌, ◌≤◌, ◌<◌}
use native.Mathlib.Omega.{arith}
use borrow.Author.Tests.{leb-true, le-leb, le-ltb, lt-ltb, ltb-true, ltb-false, eqb-true}
use lib.ListN.{drop, drop_of_length-le}
use lib.Seq.{drop-drop}
use lib.Dec.{ltb, leb, eqb}
use Rattle.laws.proofs.Bools.{and_left, and_right, both}
use Rattle.laws.proofs.Lists.{drop_turn}
use Rattle.reply.specs.Events.{Event, heard, refused_frame, no_answer}
use Rattle.paper.specs.Numbers.{not_allowed}
use Rattle.paper.specs.declared.Refusal.{Refusal}
use Rattle.view.specs.Values.{ids, count, id_at}
use Rattle.view.specs.Calls.{sight_at, is_waiting, sight_of, answers, shows, quiet, moved, silenced, advanced, begun, within, allowed, next_of, told, stray, starting, viewing}
use Rattle.view.specs.Laws.{calls, RefusedIsStray, sight_for, since, one_more, counted, silences_in, CountsAreTrue, EndedStays, SightIsTold}
use Rattle.view.specs.declared.Viewer.{Viewer}
use Rattle.view.specs.declared.Next.{Next}
use Rattle.view.specs.declared.Sight.{Sight}
use Rattle.view.specs.declared.Viewed.{Viewed}

abbrev pub state : ℕ → ℕ → ℕ → Viewer
state a u n = record { answered = a; understood = u; silences = n }

-- a viewer that is allowed: while an id is left there are at most three silences, and otherwise none
pub record Within (answered silences : ℕ) : Type 0 where
  pub few : answered ≤ count
  pub most : silences ≤ 3
  pub none : count ≤ answered → silences ≡ 0

within_is : (a n : ℕ) → within a n ≡ true → Within a n
within_is a n = by (ltb a count) refl
  where
    by : (t : Bool) → ltb a count ≡ t → cond t (leb n 3) (eqb a count && eqb n 0) ≡ true → Within a n
    by true h ok = let less : a < count = ltb-true a count h in record { few = omega arith; most = leb-true n 3 ok; none = λ k. absurd (omega arith) }
    by false h ok =
        let all : a ≡ count = eqb-true a count (and_left (eqb a count) (eqb n 0) ok) in
        let no_more : n ≡ 0 = eqb-true n 0 (and_right (eqb a count) (eqb n 0) ok) in
        record { few = omega arith; most = omega arith; none = λ k. no_more }

module _ (v : Viewer) (ok : allowed v ≡ true) where
  pub is_within : Within v.answered v.silences
  unfolding allowed
  is_within = within_is v.answered v.silences (and_right (leb v.understood v.answered) (within v.answered v.silences) ok)

  pub few_answered : v.answered ≤ count
  few_answered = is_within.few

  pub few_understood : v.understood ≤ v.answered
  unfolding allowed
  few_understood = leb-true v.understood v.answered (and_left (leb v.understood v.answered) (within v.answered v.silences) ok)

pub some_left : (a u n : ℕ) → u ≤ a → a < count → n ≤ 3 → allowed (state a u n) ≡ true
unfolding allowed
some_left a u n h k m = both _ _ (le-leb u a h) (rw (lt-ltb a count k) (le-leb n 3 m))

pub is_allowed : (a u : ℕ) → u ≤ a → a ≤ count → allowed (state a u 0) ≡ true
unfolding allowed
is_allowed a u h k = both _ _ (le-leb u a h) (by (ltb a count) refl)
  where
    by : (t : Bool) → ltb a count ≡ t → cond t (leb 0 3) (eqb a count && eqb 0 0) ≡ true
    by true h = refl
    by false h = let all : a ≡ count = (let most : count ≤ a = ltb-false a count h in omega arith) in rw all refl

-- whether an id is due
and_false : (a : Bool) → (a && false) ≡ false
and_false true = refl
and_false false = refl

module _ (v : Viewer) where
  pub waits : v.answered < count → v.silences < 3 → is_waiting v ≡ true
  unfolding is_waiting
  waits h k = both _ _ (lt-ltb v.answered count h) (lt-ltb v.silences 3 k)

  pub waits_answered : is_waiting v ≡ true → v.answered < count
  unfolding is_waiting
  waits_answered w = ltb-true v.answered count (and_left (ltb v.answered count) (ltb v.silences 3) w)

  pub waits_silences : is_waiting v ≡ true → v.silences < 3
  unfolding is_waiting
  waits_silences w = ltb-true v.silences 3 (and_right (ltb v.answered count) (ltb v.silences 3) w)

  pub ended_all : count ≤ v.answered → is_waiting v ≡ false
  unfolding is_waiting
  ended_all h = rw (le-ltb v.answered count h) refl

  pub ended_silent : 3 ≤ v.silences → is_waiting v ≡ false
  unfolding is_waiting
  ended_silent h = rw (le-ltb v.silences 3 h) (and_false (ltb v.answered count))

  -- it is told as such
  pub next_waits : is_waiting v ≡ true → next_of v ≡ Next.Waiting (id_at v.answered)
  next_waits w = rw (lt-ltb v.answered count (waits_answered w), lt-ltb v.silences 3 (waits_silences w))

-- a frame that says nothing
pub still : (v : Viewer) → moved v Sight.Nothing ≡ v
still v = ap₂ (λ (a u : ℕ). state a u v.silences) (omega arith) (omega arith)

-- an event to a viewer to which none is due
module _ (v : Viewer) (ended : is_waiting v ≡ false) where
  pub nothing_seen : (e : Event) → sight_of v e ≡ Sight.Nothing
  unfolding sight_of
  nothing_seen (heard command bytes) = rw ended
  nothing_seen refused_frame = refl
  nothing_seen no_answer = refl

  pub nothing_moves : (e : Event) → advanced v e ≡ v
  unfolding advanced
  nothing_moves (heard command bytes) = rw (nothing_seen (heard command bytes)) (still v)
  nothing_moves refused_frame = refl
  nothing_moves no_answer = rw ended

  pub nothing_told : (e : Event) → allowed v ≡ true → viewing v e ≡ told v Sight.Nothing
  unfolding viewing
  nothing_told e ok = rw (ok, nothing_seen e, nothing_moves e)

  pub nothing_follows : (events : List Event) (s : Sight) → allowed v ≡ true → ((calls (told v s) events).viewer ≡ v) × ((calls (told v s) events).next ≡ next_of v)
  nothing_follows [] s ok = (refl, refl)
  nothing_follows (e ∷ more) s ok =
      subst (λ (w : Viewed). ((calls w more).viewer ≡ v) × ((calls w more).next ≡ next_of v)) (sym (nothing_told e ok)) (nothing_follows more Sight.Nothing ok)

-- a call on an allowed viewer
pub viewed : (v : Viewer) (e : Event) → allowed v ≡ true → viewing v e ≡ told (advanced v e) (sight_of v e)
unfolding viewing
viewed v e ok = rw ok

-- and on any other
next_stands : (v : Viewer) (refusal : Refusal) → next_of v ≡ Next.Refused refusal → ⊥
next_stands v refusal = by (ltb v.answered count) (ltb v.silences 3)
  where
    by : (b s : Bool) → cond b (cond s (Next.Waiting (id_at v.answered)) (Next.Silent (id_at v.answered))) Next.Done ≡ Next.Refused refusal → ⊥
    by true true e = cc
    by true false e = cc
    by false s e = cc

pub refused_is_stray : RefusedIsStray
unfolding viewing
refused_is_stray v event = (by (allowed v) refl, λ bad. rw bad)
  where
    by : (b : Bool) → allowed v ≡ b → cond b (told (advanced v event) (sight_of v event)) (stray v) ≡ stray v → allowed v ≡ false
    by true ok e = absurd (next_stands (advanced v event) not_allowed (ap (λ (w : Viewed). w.next) e))
    by false bad e = bad

-- what a frame comes to, by the ids that are left
abbrev sight : Viewer → ℕ → List ℕ → Sight
sight v command bytes = sight_for (drop v.answered ids) command bytes

module _ (v : Viewer) (few : v.silences < 3) (command : ℕ) (bytes : List ℕ) where
  sight_is : sight_of v (heard command bytes) ≡ sight v command bytes
  unfolding sight_of
  sight_is = by (ltb v.answered count) refl
    where
      by : (t : Bool) → ltb v.answered count ≡ t → cond (is_waiting v) (sight_at (id_at v.answered) command bytes) Sight.Nothing ≡ sight_for (drop v.answered ids) command bytes
      by true h = rw (waits v (ltb-true v.answered count h) few, drop_turn ids v.answered (ltb-true v.answered count h))
      by false h = rw (ended_all v (ltb-false v.answered count h), drop_of_length-le ids {i = v.answered} (ltb-false v.answered count h))

  heard_told : allowed v ≡ true → viewing v (heard command bytes) ≡ told (moved v (sight v command bytes)) (sight v command bytes)
  unfolding advanced
  heard_told ok = viewed v (heard command bytes) ok ∙ ap (λ (s : Sight). told (moved v s) s) sight_is

quiet_is : (s : Sight) (n : ℕ) → quiet s n ≡ since (answers s) n
quiet_is Sight.Nothing n = refl
quiet_is (Sight.Understood id) n = refl
quiet_is (Sight.Strange id) n = refl

-- it stays allowed, with fewer than three silences
pub record Open (v : Viewer) : Type 0 where
  pub is_open : allowed v ≡ true
  pub few_silences : v.silences < 3

answered_open : (v : Viewer) (shown : ℕ) → shown ≤ 1 → v.answered < count → Open v → Open (state (v.answered + 1) (v.understood + shown) 0)
answered_open v shown one less o =
    let under : v.understood ≤ v.answered = few_understood v o.is_open in
    record { is_open = is_allowed (v.answered + 1) (v.understood + shown) (omega arith) (omega arith); few_silences = omega arith }

sight_open : (v : Viewer) (s : Sight) → v.answered < count → Open v → Open (moved v s)
sight_open v Sight.Nothing less o = rw (still v) o
sight_open v (Sight.Understood id) less o = answered_open v 1 (omega arith) less o
sight_open v (Sight.Strange id) less o = answered_open v 0 (omega arith) less o

moved_open : (v : Viewer) (command : ℕ) (bytes : List ℕ) → Open v → Open (moved v (sight_for (drop v.answered ids) command bytes))
moved_open v command bytes o = by (ltb v.answered count) refl
  where
    by : (t : Bool) → ltb v.answered count ≡ t → Open (moved v (sight_for (drop v.answered ids) command bytes))
    by true h = sight_open v (sight_for (drop v.answered ids) command bytes) (ltb-true v.answered count h) o
    by false h = rw (drop_of_length-le ids {i = v.answered} (ltb-false v.answered count h)) (rw (still v) o)

-- the events count from the id on that is due
record From (v : Viewer) (events : List Event) (last : Viewed) : Type 0 where
  pub stays : allowed last.viewer ≡ true
  pub answered_from : last.viewer.answered ≡ v.answered + counted answers (drop v.answered ids) v.silences events
  pub understood_from : last.viewer.understood ≡ v.understood + counted shows (drop v.answered ids) v.silences events
  pub silences_from : last.viewer.silences ≡ silences_in (drop v.answered ids) v.silences events
  pub next_own : last.next ≡ next_of last.viewer

-- after a frame
from_heard : (v : Viewer) (s : Sight) (command : ℕ) (bytes : List ℕ) (more : List Event) (last : Viewed)
    → s ≡ sight_for (drop v.answered ids) command bytes → From (moved v s) more last → From v (heard command bytes ∷ more) last
from_heard v s command bytes more last is later =
    let dropped = drop-drop (answers s) v.answered ids in
    record {
      stays = later.stays;
      answered_from = rw (← is, dropped, ← quiet_is s v.silences) (omega (arith, later.answered_from));
      understood_from = rw (← is, dropped, ← quiet_is s v.silences) (omega (arith, later.understood_from));
      silences_from = rw (← is, dropped, ← quiet_is s v.silences) later.silences_from;
      next_own = later.next_own;
    }

-- and after a silence: the next one of an id, the third, and one where no id is left
module _ (v : Viewer) (more : List Event) (last : Viewed) where
  from_next : v.answered < count → suc v.silences < 3 → From (silenced v) more last → From v (no_answer ∷ more) last
  from_next less few later =
      record {
        stays = later.stays;
        answered_from = rw (turn, lt-ltb (suc v.silences) 3 few) later.answered_from;
        understood_from = rw (turn, lt-ltb (suc v.silences) 3 few) later.understood_from;
        silences_from = rw (turn, lt-ltb (suc v.silences) 3 few) later.silences_from;
        next_own = later.next_own;
      }
    where
      turn : one_more (drop v.answered ids) v.silences ≡ suc v.silences
      turn = rw (drop_turn ids v.answered less)

  from_third : v.answered < count → suc v.silences ≡ 3 → allowed (silenced v) ≡ true → last.viewer ≡ silenced v → last.next ≡ next_of (silenced v) → From v (no_answer ∷ more) last
  from_third less third ok is next =
      record {
        stays = ap allowed is ∙ ok;
        answered_from = rw (turn, third) (ap (λ (w : Viewer). w.answered) is ∙ omega arith);
        understood_from = rw (turn, third) (ap (λ (w : Viewer). w.understood) is ∙ omega arith);
        silences_from = rw (turn, third) (ap (λ (w : Viewer). w.silences) is ∙ third);
        next_own = next ∙ ap next_of (sym is);
      }
    where
      turn : one_more (drop v.answered ids) v.silences ≡ suc v.silences
      turn = rw (drop_turn ids v.answered less)

  from_none : count ≤ v.answered → v.silences < 3 → From v more last → From v (no_answer ∷ more) last
  from_none most few later =
      record {
        stays = later.stays;
        answered_from = rw (turn, lt-ltb v.silences 3 few) later.answered_from;
        understood_from = rw (turn, lt-ltb v.silences 3 few) later.understood_from;
        silences_from = rw (turn, lt-ltb v.silences 3 few) later.silences_from;
        next_own = later.next_own;
      }
    where
      turn : one_more (drop v.answered ids) v.silences ≡ v.silences
      turn = rw (drop_of_length-le ids {i = v.answered} most)

silence_told : (v : Viewer) → allowed v ≡ true → is_waiting v ≡ true → viewing v no_answer ≡ told (silenced v) Sight.Nothing
unfolding advanced sight_of
silence_told v ok w = viewed v no_answer ok ∙ rw w

refused_told : (v : Viewer) → allowed v ≡ true → viewing v refused_frame ≡ told v Sight.Nothing
unfolding advanced sight_of
refused_told v ok = viewed v refused_frame ok

from_calls : (events : List Event) (v : Viewer) (s : Sight) → Open v → From v events (calls (told v s) events)
from_calls [] v s o = record { stays = o.is_open; answered_from = omega arith; understood_from = omega arith; silences_from = refl; next_own = refl }
from_calls (heard command bytes ∷ more) v s o =
    rw (heard_told v o.few_silences command bytes o.is_open)
    (from_heard v (sight v command bytes) command bytes more _ refl (from_calls more (moved v (sight v command bytes)) (sight v command bytes) (moved_open v command bytes o)))
from_calls (refused_frame ∷ more) v s o =
    let later = from_calls more v Sight.Nothing o in
    rw (refused_told v o.is_open)
    (record {
      stays = later.stays;
      answered_from = later.answered_from;
      understood_from = later.understood_from;
      silences_from = later.silences_from;
      next_own = later.next_own;
    })
from_calls (no_answer ∷ more) v s o = by (ltb v.answered count) (ltb (suc v.silences) 3) refl refl (from_calls more v Sight.Nothing o) (from_calls more (silenced v) Sight.Nothing)
  where
    under : v.understood ≤ v.answered
    under = few_understood v o.is_open

    by : (t k : Bool) → ltb v.answered count ≡ t → ltb (suc v.silences) 3 ≡ k → From v more (calls (told v Sight.Nothing) more)
        → (Open (silenced v) → From (silenced v) more (calls (told (silenced v) Sight.Nothing) more))
        → From v (no_answer ∷ more) (calls (viewing v no_answer) more)
    by true k h k-is stays later =
        let less : v.answered < count = ltb-true v.answered count h in
        let ok : allowed (silenced v) ≡ true = some_left v.answered v.understood (suc v.silences) under less (omega (arith, o.few_silences)) in
        rw (silence_told v o.is_open (waits v less o.few_silences)) (turned k k-is less ok later)
      where
        turned : (k : Bool) → ltb (suc v.silences) 3 ≡ k → v.answered < count → allowed (silenced v) ≡ true
            → (Open (silenced v) → From (silenced v) more (calls (told (silenced v) Sight.Nothing) more))
            → From v (no_answer ∷ more) (calls (told (silenced v) Sight.Nothing) more)
        turned true h less ok later =
            let few : suc v.silences < 3 = ltb-true (suc v.silences) 3 h in
            from_next v more _ less few (later (record { is_open = ok; few_silences = few }))
        turned false h less ok later =
            let third : suc v.silences ≡ 3 = (let most : 3 ≤ suc v.silences = ltb-false (suc v.silences) 3 h in omega (arith, o.few_silences)) in
            let all = nothing_follows (silenced v) (ended_silent (silenced v) (omega arith)) more Sight.Nothing ok in
            from_third v more _ less third ok all.0 all.1
    by false k h k-is stays later =
        let most : count ≤ v.answered = ltb-false v.answered count h in
        rw (nothing_told v (ended_all v most) no_answer o.is_open) (from_none v more _ most o.few_silences stays)

-- what is next, by the counts
module _ (v : Viewer) (ok : allowed v ≡ true) where
  abbrev next_by : Bool → Bool → Next
  next_by t s = cond t (cond s (Next.Waiting (id_at v.answered)) (Next.Silent (id_at v.answered))) Next.Done

  done_asked : (next_of v ≡ Next.Done) ↔ (v.answered ≡ count)
  done_asked = (by (ltb v.answered count) (ltb v.silences 3) refl, λ all. rw (le-ltb v.answered count (omega arith)))
    where
      by : (t s : Bool) → ltb v.answered count ≡ t → next_by t s ≡ Next.Done → v.answered ≡ count
      by true true h e = cc
      by true false h e = cc
      by false s h e = let most : count ≤ v.answered = ltb-false v.answered count h in omega (arith, few_answered v ok)

  silent_asked : (id : ℕ) → (next_of v ≡ Next.Silent id) ↔ ((v.silences ≡ 3) × (id ≡ id_at v.answered))
  silent_asked id = (by (ltb v.answered count) (ltb v.silences 3) refl, λ both. back both.0 both.1 (ltb v.answered count) refl)
    where
      by : (t s : Bool) → ltb v.silences 3 ≡ s → next_by t s ≡ Next.Silent id → (v.silences ≡ 3) × (id ≡ id_at v.answered)
      by true true k e = cc
      by true false k e = let most : 3 ≤ v.silences = ltb-false v.silences 3 k in (omega (arith, (is_within v ok).most), cc)
      by false s k e = cc

      back : v.silences ≡ 3 → id ≡ id_at v.answered → (t : Bool) → ltb v.answered count ≡ t → next_of v ≡ Next.Silent id
      back third is true h = rw (h, third, is)
      back third is false h = let none : v.silences ≡ 0 = (is_within v ok).none (ltb-false v.answered count h) in absurd (omega arith)

  waits_asked : (id : ℕ) → (next_of v ≡ Next.Waiting id) ↔ (((v.silences < 3) × (v.answered < count)) × (id ≡ id_at v.answered))
  waits_asked id = (by (ltb v.answered count) (ltb v.silences 3) refl refl, λ is. next_waits v (waits v is.0.1 is.0.0) ∙ ap Next.Waiting (sym is.1))
    where
      by : (t s : Bool) → ltb v.answered count ≡ t → ltb v.silences 3 ≡ s → next_by t s ≡ Next.Waiting id → ((v.silences < 3) × (v.answered < count)) × (id ≡ id_at v.answered)
      by true true h k e = ((ltb-true v.silences 3 k, ltb-true v.answered count h), cc)
      by true false h k e = cc
      by false s h k e = cc

  not_waiting : ((id : ℕ) → next_of v ≢ Next.Waiting id) → is_waiting v ≡ false
  not_waiting none = by (is_waiting v) refl
    where
      by : (t : Bool) → is_waiting v ≡ t → is_waiting v ≡ false
      by true w = absurd (none (id_at v.answered) (next_waits v w))
      by false w = w

begun_open : Open begun
begun_open = record { is_open = is_allowed begun.answered begun.understood (omega arith) (omega arith); few_silences = omega arith }

module _ (events : List Event) where
  all : From begun events (calls starting events)
  all = from_calls events begun Sight.Nothing begun_open

  pub calls_allowed : allowed (calls starting events).viewer ≡ true
  calls_allowed = all.stays

  asked : (calls starting events).viewer.answered ≡ counted answers ids 0 events
  asked = all.answered_from ∙ omega arith

pub counts_are_true : CountsAreTrue
counts_are_true events =
    let done = done_asked (calls starting events).viewer (calls_allowed events) in
    let silent = silent_asked (calls starting events).viewer (calls_allowed events) in
    let waiting = waits_asked (calls starting events).viewer (calls_allowed events) in
    let as_many = (all events).silences_from in
    record {
      asked_are = asked events;
      understood_are = (all events).understood_from ∙ omega arith;
      done_when = (λ e. sym (asked events) ∙ done.0 (sym (all events).next_own ∙ e), λ e. (all events).next_own ∙ done.1 (asked events ∙ e));
      silent_when = λ id. (
        λ e. let is = (silent id).0 (sym (all events).next_own ∙ e) in (sym as_many ∙ is.0, is.1 ∙ ap id_at (asked events)),
        λ is. (all events).next_own ∙ (silent id).1 (as_many ∙ is.0, is.1 ∙ ap id_at (sym (asked events))),
      );
      waits_when = λ id. (
        λ e. let is = (waiting id).0 (sym (all events).next_own ∙ e) in
            ((rw as_many at is.0.0, rw (asked events) at is.0.1), is.1 ∙ ap id_at (asked events)),
        λ is. (all events).next_own ∙ (waiting id).1 ((rw as_many is.0.0, rw (asked events) is.0.1), is.1 ∙ ap id_at (sym (asked events))),
      );
    }

pub ended_stays : EndedStays
ended_stays events e none =
    let v : Viewer = (calls starting events).viewer in
    let ok : allowed v ≡ true = calls_allowed events in
    let own : (calls starting events).next ≡ next_of v = (all events).next_own in
    nothing_told v (not_waiting v ok (λ id is. none id (own ∙ is))) e ok
    ∙ ap (λ (n : Next). (record { viewer = v; next = n; sight = Sight.Nothing })) (sym own)

pub sight_is_told : SightIsTold
unfolding viewing sight_of
sight_is_told =
    record {
      at_start = refl;
      at_silence = λ v. quiet_told v (allowed v);
      at_frame = λ events id command bytes is.
          let v : Viewer = (calls starting events).viewer in
          let due = (waits_asked v (calls_allowed events) id).0 (sym (all events).next_own ∙ is) in
          rw (calls_allowed events, waits v due.0.1 due.0.0, due.1);
    }
  where
    quiet_told : (v : Viewer) (b : Bool) → (cond b (told (advanced v no_answer) Sight.Nothing) (stray v)).sight ≡ Sight.Nothing
    quiet_told v true = refl
    quiet_told v false = refl
