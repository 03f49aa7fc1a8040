-- A row of calls, and what the last one answers. Assumes nothing.
use mathlib.Core.Path.{◌≡◌, refl, sym, ap, ap₂, subst, ◌∙◌}
use mathlib.Core.Logic.{◌≢◌, ◌↔◌}
use mathlib.Core.Bool.{Bool, true, false, cond, false≢true}
use mathlib.Core.List.{List, [], ◌∷◌, ◌++◌, append-nil}
use Prim.Native.Nat.{ℕ, ◌-◌, ◌≤◌, ◌<◌}
use native.Mathlib.Omega.{arith}
use borrow.Author.Tests.{lt-ltb, le-ltb, ltb-true, ltb-false}
use lib.ListN.{length, take, replicate}
use lib.Seq.{take-append_seam}
use lib.Dec.{ltb, leb}
use Rattle.laws.proofs.Bools.{and_left}
use Rattle.settings.specs.Columns.{count}
use Rattle.settings.specs.Calls.{setting_at}
use Rattle.tables.specs.Rules.{factory}
use Rattle.tables.specs.Rules as tables
use Rattle.tables.specs.declared.Table.{Table}
use Rattle.reply.specs.Events.{Event}
use Rattle.reply.specs.Events.{most_tries}
use Rattle.collect.specs.Collecting.{is_waiting, advanced, begun, within, allowed}
use Rattle.collect.specs.Calls.{stage_of, table_of, good, stray, told, starting, collecting}
use Rattle.paper.specs.Numbers.{not_allowed}
use Rattle.collect.specs.Laws.{run, calls, Reached, AllowedIsReached, refused_by, RefusedIsStray, CallsFollow, Carried, Tells, tells_done, tells_stopped, tells_waiting, Holds, TableIsCarried, ToldIsLast, EndedStays, Handed, TableIsAllowed, replies, BoardIsRead}
use Rattle.collect.specs.declared.Collector.{Collector}
use Rattle.collect.specs.declared.Stage.{Stage}
use Rattle.collect.specs.declared.Collected.{Collected}
use Rattle.collect.proofs.Moving.{allowed_within, ended_stays, collecting_stray, collecting_good, told_stray, told_good}
use Rattle.collect.proofs.Fitting.{table_fit, fit_table}
use Rattle.collect.proofs.Reaching.{zeros, held, begun_held, Ends, taking, begun_ends, ends_allowed}
use Rattle.collect.proofs.Boards.{board_run, run_append, reached}
use Rattle.collect.proofs.Carrying.{taking_carried}

-- a row of calls from the start hands back what the events give
pub good_collector : (c : Collector) → (good c).collector ≡ c
unfolding good
good_collector c = refl

calls_good : (events earlier : List Event) → calls (good (run begun earlier)) events ≡ good (run (run begun earlier) events)
calls_good [] earlier = refl
calls_good (e ∷ more) earlier =
    let c : Collector = run begun earlier in
    let next : run begun (earlier ++ e ∷ []) ≡ advanced c e = run_append begun earlier (e ∷ []) in
    ap (λ (d : Collector). calls (collecting d e) more) (good_collector c)
    ∙ ap (λ (r : Collected). calls r more) (sym (collecting_good c e (ends_allowed (begun_ends earlier))) ∙ ap good (sym next))
    ∙ calls_good more (earlier ++ e ∷ [])
    ∙ ap (λ (d : Collector). good (run d more)) next

pub called : (events : List Event) → calls starting events ≡ good (run begun events)
unfolding starting
called events = calls_good events []

pub calls_run : CallsFollow
calls_run events = ap (λ (r : Collected). r.collector) (called events) ∙ good_collector (run begun events)

pub told_last : ToldIsLast
told_last events =
    let c : Collector = run begun events in
    ap told (calls_run events) ∙ sym (told_good c (ends_allowed (begun_ends events))) ∙ sym (called events)

pub reached_calls : AllowedIsReached
reached_calls c long = (
  λ ok.
      let some = reached c long ok c.stopped refl (allowed_within c ok) in
      record { events = some.0; stream = some.1; arrives = calls_run some.0 ∙ sym some.2 },
  λ r. subst (λ (d : Collector). allowed d ≡ true) (sym (calls_run r.events) ∙ r.arrives) (ends_allowed (begun_ends r.events)),
)

-- how far it is, by how many are answered
stage_due : (len : ℕ) (stopped : Bool) → len < count → stage_of len stopped ≢ Stage.Done
stage_due len true h e = let d = rw (lt-ltb len count h) at e in cc
stage_due len false h e = let d = rw (lt-ltb len count h) at e in cc

stage_done : (len : ℕ) (stopped : Bool) → count ≤ len → stage_of len stopped ≡ Stage.Done
stage_done len stopped h = rw (le-ltb len count h)

pub done_all : (len : ℕ) (stopped : Bool) → stage_of len stopped ≡ Stage.Done → count ≤ len
done_all len stopped e = by (ltb len count) refl
  where
    by : (b : Bool) → ltb len count ≡ b → count ≤ len
    by true t = absurd (stage_due len stopped (ltb-true _ _ t) e)
    by false t = ltb-false _ _ t

-- a collector holds what was carried
record Shape (c : Collector) (all : Carried) : Type 0 where
  len_is : c.len ≡ length all.numbers
  numbers_are : c.numbers ≡ all.numbers ++ zeros all.numbers
  stopped_is : c.stopped ≡ all.ended

shape : {c : Collector} {all : Carried} → Ends c all → Shape c all
shape e =
    record {
      len_is = ap (λ (d : Collector). d.len) e.is;
      numbers_are = ap (λ (d : Collector). d.numbers) e.is;
      stopped_is = ap (λ (d : Collector). d.stopped) e.is;
    }

-- no table is given while a setting is due
table_due : (len : ℕ) (numbers : List ℕ) → ltb len count ≡ true → table_of len numbers ≡ factory
table_due len numbers due = ap (λ (b : Bool). cond b factory (record { numbers = numbers })) due

no_zeros : (l : List ℕ) → length l ≡ count → l ++ zeros l ≡ l
no_zeros l e =
    let none : count - length l ≡ 0 = omega arith in
    ap (λ (m : ℕ). l ++ replicate m 0) none ∙ append-nil l

module _ (c : Collector) (all : Carried) (e : Ends c all) where
  abbrev l : List ℕ
  l = all.numbers

  all_held : c.len ≡ count → table_of c.len c.numbers ≡ record { numbers = l }
  all_held full =
      rw (le-ltb c.len count (omega arith))
      (ap (λ (x : List ℕ). record { numbers = x }) ((shape e).numbers_are ∙ no_zeros l (sym (shape e).len_is ∙ full)))

  done_is : stage_of c.len c.stopped ≡ Stage.Done → c.len ≡ count
  done_is d =
      let most : length l ≤ count = e.few in
      let len : c.len ≡ length l = (shape e).len_is in
      let least : count ≤ c.len = done_all c.len c.stopped d in
      omega arith

  -- how far it is
  stage_is : (good c).stage ≡ stage_of (length l) all.ended
  unfolding good
  stage_is = ap₂ stage_of (shape e).len_is (shape e).stopped_is

  ended_early : all.ended ≡ true → length l < count
  ended_early is =
      ltb-true _ _ (and_left (ltb (length l) count) (leb e.silences most_tries) (subst (λ (b : Bool). within (length l) e.silences b ≡ true) is e.in_ends))

  stage_tells : Tells all (stage_of (length l) all.ended)
  stage_tells = by (ltb (length l) count) all.ended refl refl
    where
      by : (a b : Bool) → ltb (length l) count ≡ a → all.ended ≡ b
          → Tells all (cond a (cond b (Stage.Stopped (setting_at (length l))) (Stage.Waiting (setting_at (length l)))) Stage.Done)
      by true true t s = tells_stopped s
      by true false t s = tells_waiting (ltb-true _ _ t) s
      by false b t s =
          let past : count ≤ length l = ltb-false _ _ t in
          let most : length l ≤ count = e.few in
          tells_done (omega arith)

  stage_told : (s : Stage) → Tells all s → stage_of (length l) all.ended ≡ s
  stage_told s (tells_done is) = stage_done (length l) all.ended (omega arith)
  stage_told s (tells_stopped is) = rw (lt-ltb _ _ (ended_early is), is)
  stage_told s (tells_waiting h is) = rw (lt-ltb _ _ h, is)

  -- what the last call tells of
  ends_holds : Holds all (good c)
  unfolding good
  ends_holds =
      record {
        numbers_are = ap₂ take (shape e).len_is (shape e).numbers_are ∙ take-append_seam l (zeros l);
        answered_are = (shape e).len_is;
        stage_when = λ s. (λ is. subst (Tells all) (sym stage_is ∙ is) stage_tells, λ t. stage_is ∙ stage_told s t);
        table_is = λ d. all_held (done_is d);
      }

  -- the table that is given
  ends_handed : Handed (good c)
  unfolding good
  ends_handed =
      record {
        done_allowed = λ d. subst (λ (t : Table). tables.allowed t ≡ true) (sym (all_held (done_is d))) (fit_table l (sym (shape e).len_is ∙ done_is d) e.fit);
        else_factory = λ other. by other (ltb c.len count) refl;
      }
    where
      by : stage_of c.len c.stopped ≢ Stage.Done → (b : Bool) → ltb c.len count ≡ b → table_of c.len c.numbers ≡ factory
      by other true t = table_due c.len c.numbers t
      by other false t = absurd (other (stage_done c.len c.stopped (ltb-false _ _ t)))

-- an allowed collector is never told as refused
abbrev is_refused : Stage → Bool
is_refused (Stage.Waiting due) = false
is_refused Stage.Done = false
is_refused (Stage.Stopped due) = false
is_refused (Stage.Refused refusal) = true

good_stands : (c : Collector) → is_refused (good c).stage ≡ false
unfolding good
good_stands c = by (ltb c.len count) c.stopped
  where
    by : (a b : Bool) → is_refused (cond a (cond b (Stage.Stopped (setting_at c.len)) (Stage.Waiting (setting_at c.len))) Stage.Done) ≡ false
    by true true = refl
    by true false = refl
    by false b = refl

module _ (c : Collector) (long : length c.numbers ≡ count) where
  -- refused exactly where the collector is stray, for an answer that is good where it is allowed
  refused_when : (t : Collected) (d : Collector) → (allowed c ≡ true → good d ≡ t) → (allowed c ≡ false → stray c ≡ t) → (t ≡ refused_by not_allowed c) ↔ (Reached c → ⊥)
  unfolding stray
  refused_when t d well bad = (
    λ e r. false≢true (sym (good_stands d) ∙ ap (λ (x : Collected). is_refused x.stage) (well ((reached_calls c long).1 r) ∙ e)),
    λ none. by (allowed c) refl none,
  )
    where
      by : (b : Bool) → allowed c ≡ b → (Reached c → ⊥) → t ≡ refused_by not_allowed c
      by true ok none = absurd (none ((reached_calls c long).0 ok))
      by false not none = sym (bad not)

pub stray_refused : RefusedIsStray
stray_refused c long = (
  refused_when c long (told c) c (told_good c) (told_stray c),
  λ e. refused_when c long (collecting c e) (advanced c e) (collecting_good c e) (collecting_stray c e),
)

-- a collector that waits says so, and another has ended
stage_waits : (c : Collector) → is_waiting c ≡ true → (good c).stage ≡ Stage.Waiting (setting_at c.len)
unfolding good is_waiting
stage_waits c is = by c.stopped (ltb c.len count) refl refl
  where
    by : (s t : Bool) → c.stopped ≡ s → ltb c.len count ≡ t → stage_of c.len c.stopped ≡ Stage.Waiting (setting_at c.len)
    by true t p q = absurd (false≢true (rw p at is))
    by false true p q = rw (q, p)
    by false false p q = absurd (false≢true (rw (p, q) at is))

pub ended_stays_it : EndedStays
ended_stays_it events e none = by (is_waiting (run begun events)) refl
  where
    by : (b : Bool) → is_waiting (run begun events) ≡ b → collecting (calls starting events).collector e ≡ calls starting events
    by true is =
        absurd (none (setting_at (run begun events).len) (ap (λ (r : Collected). r.stage) (called events) ∙ stage_waits (run begun events) is))
    by false is =
        ap (λ (c : Collector). collecting c e) (calls_run events)
        ∙ sym (collecting_good (run begun events) e (ends_allowed (begun_ends events)))
        ∙ ap good (sym (ended_stays (run begun events) e is)) ∙ sym (called events)

pub table_carried : TableIsCarried
table_carried events on =
    subst (λ (all : Carried). Holds all (calls starting events)) (taking_carried on 0 [])
    (subst (Holds (taking 0 [] events)) (sym (called events)) (ends_holds _ _ (begun_ends events)))

run_handed : (events : List Event) → Handed (good (run begun events))
run_handed events = ends_handed _ _ (begun_ends events)

stray_handed : (c : Collector) → Handed (stray c)
unfolding stray
stray_handed c = record { done_allowed = λ e. cc; else_factory = λ e. refl }

starting_handed : Handed starting
unfolding starting
starting_handed = run_handed []

call_handed : (c : Collector) (e : Event) → length c.numbers ≡ count → Handed (collecting c e)
call_handed c e long = by (allowed c) refl
  where
    by : (b : Bool) → allowed c ≡ b → Handed (collecting c e)
    by true ok =
        let some = reached c long ok c.stopped refl (allowed_within c ok) in
        let is : good (run begun (some.0 ++ e ∷ [])) ≡ collecting c e =
        ap good (run_append begun some.0 (e ∷ []) ∙ ap (λ (d : Collector). advanced d e) (sym some.2)) ∙ collecting_good c e ok in
        subst Handed is (run_handed (some.0 ++ e ∷ []))
    by false ok = subst Handed (collecting_stray c e ok) (stray_handed c)

pub table_allowed : TableIsAllowed
table_allowed = (starting_handed, call_handed)

-- a board that holds an allowed table is read
held_full : (l : List ℕ) → length l ≡ count → held l 0 ≡ record { len = count; numbers = l; silences = 0; stopped = false }
held_full l e = ap₂ (λ (i : ℕ) (x : List ℕ). record { len = i; numbers = x; silences = 0; stopped = false }) e (no_zeros l e)

pub board_read : BoardIsRead
unfolding good
board_read t long ok =
    let few : length t.numbers ≤ count = omega (arith, long) in
    called (replies 0 t.numbers)
    ∙ ap good (ap (λ (c : Collector). run c (replies 0 t.numbers)) begun_held ∙ board_run t.numbers [] (table_fit t long ok) few ∙ held_full t.numbers long)
