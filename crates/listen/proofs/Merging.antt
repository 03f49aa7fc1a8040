-- What a listener tells of the stream is what the stream says, whatever the times. Assumes nothing.
use mathlib.Core.Path.{◌≡◌, refl, sym, ap, ap₂, subst, ◌∙◌}
use mathlib.Core.Bool.{Bool, true, false, cond, not}
use mathlib.Core.List.{List, [], ◌∷◌, ◌++◌}
use Prim.Native.Nat.{ℕ, suc, ◌+◌}
use borrow.Author.Tests.{ltb-true, ltb-false, not-true}
use lib.ListN.{length, take, drop}
use lib.Seq.{take-length}
use lib.Dec.{ltb, leb}
use Rattle.laws.specs.Promise.{Given}
use Rattle.laws.specs.Cutting.{Step, Offer, calls, ready}
use Rattle.laws.proofs.Bools.{and_left, and_right}
use Rattle.wire.specs.Parsing.{Ended}
use Rattle.stream.specs.Stream.{left_by}
use Rattle.stream.specs.Calls.{held_of}
use Rattle.stream.specs.Laws.{frame_in}
use Rattle.stream.specs.Laws as stream
use Rattle.stream.specs.declared.Held.{Held}
use Rattle.stream.specs.Answers.{Event}
use Rattle.std.specs.Prelude.{Some, None, Ok, Err}
use Rattle.paper.specs.declared.Refusal.{Refusal}
use Rattle.paper.specs.Numbers.{number_of}
use Rattle.stream.proofs.Helds.{held_long}
use Rattle.stream.proofs.Reached.{left_allowed}
use Rattle.listen.specs.declared.Listener.{Listener}
use Rattle.listen.specs.declared.Listened.{Listened}
use Rattle.listen.specs.Hearing.{box_hearing, box_hears}
use Rattle.listen.specs.Calls.{is_over, told_by, listening}
use Rattle.listen.specs.Laws.{frames_in, Turn, readied, listens, listener_at, asked_by, in_time, last_asked, AnyCutting, WholeIsTold, AllIsTaken}
use Rattle.listen.proofs.Hearing.{box_short, box_empty, box_cutting, box_all, one_cut, small_refusal}
use Rattle.listen.proofs.Settling.{listening_short, listening_late, listening_heard}

-- what is told, read as frames
frames_told : (e : Event) (written : List ℕ) → ((r : Refusal) → e ≡ Err r → ltb 4 (number_of r) ≡ false) → frames_in (told_by e) written ≡ frame_in e written
frames_told (Ok None) written small = refl
frames_told (Ok (Some frame)) written small = refl
frames_told (Err r) written small = rw (small r refl)

-- A listener beside the stream alone: the same frame held, the same frames told, the same bytes taken; and its two times.
pub record Alike (begun asked : ℕ) (mine : Step Listener Ended) (heard : Step Held Ended) : Type 0 where
  pub held_alike : mine.state.held ≡ heard.state
  pub events_alike : mine.events ≡ heard.events
  pub taken_alike : mine.taken ≡ heard.taken
  pub begun_is : mine.state.begun ≡ begun
  pub asked_is : mine.state.asked ≡ asked

abbrev step_from : Given Listened → Step Listener Ended
step_from given =
    record { state = given.answer.listener; events = frames_in given.answer.told given.written; taken = given.answer.taken }

-- a read whose time is over hears none of its bytes
abbrev pub heard_count : Bool → ℕ → ℕ
heard_count over n = cond over 0 n

module _ (earlier : List ℕ) (begun asked time room : ℕ) (bytes : List ℕ) (n : ℕ) where
  abbrev now : Listener
  now = listener_at earlier begun asked

  abbrev Beside : Bool → Type 0
  Beside over = Alike begun asked (step_from (listening now (take n bytes) time room)) (box_hears (held_of (left_by earlier)) room (take (heard_count over n) bytes))

  short_alike : (over : Bool) → ltb room 35 ≡ true → Beside over
  short_alike over e =
      let h = ltb-true room 35 e in
      rw (listening_short now (take n bytes) time room h, box_short (held_of (left_by earlier)) (take (heard_count over n) bytes) room h)
      (record { held_alike = refl; events_alike = refl; taken_alike = refl; begun_is = refl; asked_is = refl })

  long_alike : (over : Bool) → ltb room 35 ≡ false → is_over begun asked time ≡ over → Beside over
  long_alike true e f =
      let enough = ltb-false room 35 e in
      rw (listening_late now (take n bytes) time room enough (left_allowed earlier) f, box_empty (held_of (left_by earlier)) (held_long (left_by earlier)) room (left_allowed earlier) enough)
      (record { held_alike = refl; events_alike = refl; taken_alike = refl; begun_is = refl; asked_is = refl })
  long_alike false e f =
      let enough = ltb-false room 35 e in
      let heard = box_hearing (held_of (left_by earlier)) (take n bytes) room in
      rw (listening_heard now (take n bytes) time room enough (left_allowed earlier) f)
      (record {
        held_alike = refl;
        events_alike = frames_told heard.answer.event heard.written (small_refusal (held_of (left_by earlier)) (left_allowed earlier) (take n bytes) room enough);
        taken_alike = refl;
        begun_is = refl;
        asked_is = refl;
      })

  one_alike : Beside (is_over begun asked time)
  one_alike = by (ltb room 35) refl
    where
      by : (t : Bool) → ltb room 35 ≡ t → Beside (is_over begun asked time)
      by true e = short_alike (is_over begun asked time) e
      by false e = long_alike (is_over begun asked time) e refl

-- a request before it, or none, changes when the last one was sent
ready_is : (earlier : List ℕ) (begun asked : ℕ) (turn : Turn) → readied (listener_at earlier begun asked) turn ≡ listener_at earlier begun (asked_by asked turn)
ready_is earlier begun asked turn = by turn.asks refl
  where
    by : (t : Bool) → turn.asks ≡ t → readied (listener_at earlier begun asked) turn ≡ listener_at earlier begun (asked_by asked turn)
    by true e = rw e
    by false e = rw e

-- A row of reads beside a row of calls on the stream, which are offered what the reads in time are.
abbrev pub offered : ℕ → ℕ → List (Offer Turn) → List (Offer ℕ)
offered begun asked [] = []
offered begun asked (o ∷ more) =
    record { count = heard_count (is_over begun (asked_by asked o.with) o.with.time) o.count; with = o.with.room } ∷ offered begun (asked_by asked o.with) more

joined : (begun asked asked' : ℕ) (here later : Step Listener Ended) (heard heard' : Step Held Ended) → Alike begun asked here heard → Alike begun asked' later heard'
    → Alike begun asked'
    (record { state = later.state; events = here.events ++ later.events; taken = here.taken + later.taken })
    (record { state = heard'.state; events = heard.events ++ heard'.events; taken = heard.taken + heard'.taken })
joined begun asked asked' here later heard heard' h l =
    record {
      held_alike = l.held_alike;
      events_alike = rw (h.events_alike, l.events_alike);
      taken_alike = rw (h.taken_alike, l.taken_alike);
      begun_is = l.begun_is;
      asked_is = l.asked_is;
    }

pub all_alike : (earlier : List ℕ) (begun asked : ℕ) (bytes : List ℕ) (offers : List (Offer Turn))
    → Alike begun (last_asked asked offers) (calls listens (listener_at earlier begun asked) bytes offers) (calls box_hears (held_of (left_by earlier)) bytes (offered begun asked offers))
all_alike earlier begun asked bytes [] = record { held_alike = refl; events_alike = refl; taken_alike = refl; begun_is = refl; asked_is = refl }
all_alike earlier begun asked bytes (o ∷ more) =
    let sent : ℕ = asked_by asked o.with in
    let n : ℕ = heard_count (is_over begun sent o.with.time) o.count in
    let here : Step Listener Ended = listens (listener_at earlier begun asked) o.with (take o.count bytes) in
    let heard : Step Held Ended = box_hears (held_of (left_by earlier)) o.with.room (take n bytes) in
    let cut : stream.Cut earlier (take n bytes) heard = one_cut earlier (take n bytes) o.with.room in
    let alike : Alike begun sent here heard =
    subst (λ (l : Listener). Alike begun sent (step_from (listening l (take o.count bytes) o.with.time o.with.room)) heard)
    (sym (ready_is earlier begun asked o.with)) (one_alike earlier begun sent o.with.time o.with.room bytes o.count) in
    let after : List ℕ = earlier ++ take heard.taken (take n bytes) in
    let now : here.state ≡ listener_at after begun sent =
    λ i. record { held = (alike.held_alike ∙ cut.state_is) i; begun = alike.begun_is i; asked = alike.asked_is i } in
    let later = all_alike after begun sent (drop here.taken bytes) more in
    let mine : calls listens here.state (drop here.taken bytes) more ≡ calls listens (listener_at after begun sent) (drop here.taken bytes) more =
    ap (λ (l : Listener). calls listens l (drop here.taken bytes) more) now in
    let theirs : calls box_hears heard.state (drop heard.taken bytes) (offered begun sent more) ≡ calls box_hears (held_of (left_by after)) (drop here.taken bytes) (offered begun sent more) =
    ap₂ (λ (s : Held) (n : ℕ). calls box_hears s (drop n bytes) (offered begun sent more)) cut.state_is (sym alike.taken_alike) in
    joined begun sent (last_asked sent more) here (calls listens here.state (drop here.taken bytes) more) heard (calls box_hears heard.state (drop heard.taken bytes) (offered begun sent more))
    alike
    (subst (λ (s : Step Listener Ended). Alike begun (last_asked sent more) s (calls box_hears heard.state (drop heard.taken bytes) (offered begun sent more))) (sym mine)
    (subst (λ (s : Step Held Ended). Alike begun (last_asked sent more) (calls listens (listener_at after begun sent) (drop here.taken bytes) more) s) (sym theirs) later))

pub cutting : AnyCutting
cutting earlier bytes begun asked offers =
    let all : Step Listener Ended = calls listens (listener_at earlier begun asked) bytes offers in
    let alike = all_alike earlier begun asked bytes offers in
    let cut : stream.Cut earlier bytes (calls box_hears (held_of (left_by earlier)) bytes (offered begun asked offers)) = box_cutting earlier bytes (offered begun asked offers) in
    let holds : all.state.held ≡ held_of (left_by (earlier ++ take all.taken bytes)) = alike.held_alike ∙ rw alike.taken_alike cut.state_is in
    record {
      within = rw alike.taken_alike cut.within;
      held_is = holds;
      frames_are = alike.events_alike ∙ rw alike.taken_alike cut.events_are;
      goes_on = rw holds (left_allowed (earlier ++ take all.taken bytes));
    }

offered_many : (begun asked : ℕ) (offers : List (Offer Turn)) → length (offered begun asked offers) ≡ length offers
offered_many begun asked [] = refl
offered_many begun asked (o ∷ more) = ap suc (offered_many begun (asked_by asked o.with) more)

offered_ready : (begun asked : ℕ) (offers : List (Offer Turn)) → in_time begun asked offers ≡ true
    → ready (λ turn. leb 35 turn.room) offers ≡ ready (λ room. leb 35 room) (offered begun asked offers)
offered_ready begun asked [] e = refl
offered_ready begun asked (o ∷ more) e =
    let sent : ℕ = asked_by asked o.with in
    let own : Bool = not (is_over begun sent o.with.time) in
    let early : is_over begun sent o.with.time ≡ false = not-true _ (and_left own (in_time begun sent more) e) in
    rw (early, offered_ready begun sent more (and_right own (in_time begun sent more) e))

pub taking : AllIsTaken
taking earlier bytes begun asked offers early serves enough =
    (all_alike earlier begun asked bytes offers).taken_alike
    ∙ box_all (held_of (left_by earlier)) bytes (offered begun asked offers) (left_allowed earlier) (sym (offered_ready begun asked offers early) ∙ serves) (rw (offered_many begun asked offers) enough)

pub telling : WholeIsTold
telling earlier bytes begun asked offers all =
    let cut = cutting earlier bytes begun asked offers in
    let whole : take (calls listens (listener_at earlier begun asked) bytes offers).taken bytes ≡ bytes = ap (λ (n : ℕ). take n bytes) all ∙ take-length bytes in
    (cut.frames_are ∙ rw whole, cut.held_is ∙ rw whole)
