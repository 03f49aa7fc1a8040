-- The states of a collector, by the tests in their order. Assumes nothing.
use mathlib.Core.Path.{◌≡◌, refl}
use mathlib.Core.Bool.{Bool, true, false, cond, not, ◌&&◌}
use Prim.Native.Nat.{ℕ, ◌≤◌, ◌<◌}
use native.Mathlib.Omega.{arith}
use borrow.Author.Tests.{ltb-true, eqb-true}
use lib.Dec.{ltb, leb, eqb}
use Rattle.laws.proofs.Bools.{and_left, and_right, pick}
use Rattle.settings.specs.Columns.{count}
use Rattle.reply.specs.Events.{Event, refused_frame, no_answer}
use Rattle.reply.specs.Events.{most_tries}
use Rattle.collect.specs.Collecting.{intake_of, silenced, moved, is_waiting, advanced, within, all_fit, none_after, allowed}
use Rattle.collect.specs.Calls.{good, stray, told, collecting}
use Rattle.collect.specs.declared.Collector.{Collector}

-- no more are answered than there are
pub few_answered : (len silences : ℕ) (stopped : Bool) → within len silences stopped ≡ true → len ≤ count
few_answered len silences true e = let less : len < count = ltb-true len count (and_left (ltb len count) (leb silences most_tries) e) in omega arith
few_answered len silences false e = by (ltb len count) refl e
  where
    by : (b : Bool) → ltb len count ≡ b → cond b (ltb silences most_tries) (eqb len count && eqb silences 0) ≡ true → len ≤ count
    by true t f = let less : len < count = ltb-true len count t in omega arith
    by false t f = let all : len ≡ count = eqb-true len count (and_left (eqb len count) (eqb silences 0) f) in omega arith

-- which collectors are allowed
module _ (c : Collector) where
  pub allowed_within : allowed c ≡ true → within c.len c.silences c.stopped ≡ true
  unfolding allowed
  allowed_within e = and_left _ (all_fit c.numbers c.len && none_after c.numbers c.len) e

  pub waiting_few : is_waiting c ≡ true → c.len < count
  unfolding is_waiting
  waiting_few e = ltb-true _ _ (and_right (not c.stopped) _ e)

  -- how one follows from another
  module _ (e : Event) where
    pub waiting_moves : is_waiting c ≡ true → moved c (intake_of c.numbers c.len e) ≡ advanced c e
    unfolding advanced
    waiting_moves is = rw is

    pub ended_stays : is_waiting c ≡ false → c ≡ advanced c e
    unfolding advanced
    ended_stays is = rw is

    pub collecting_stray : allowed c ≡ false → stray c ≡ collecting c e
    unfolding collecting
    collecting_stray is = rw is

    pub collecting_good : allowed c ≡ true → good (advanced c e) ≡ collecting c e
    unfolding collecting
    collecting_good is = rw is

  pub told_stray : allowed c ≡ false → stray c ≡ told c
  unfolding told
  told_stray is = rw is

  pub told_good : allowed c ≡ true → good c ≡ told c
  unfolding told
  told_good is = rw is

  pub refused_waits : advanced c refused_frame ≡ c
  unfolding advanced intake_of
  refused_waits = pick (λ d. d ≡ c) (is_waiting c) refl refl

  pub collecting_refused : told c ≡ collecting c refused_frame
  unfolding told collecting
  collecting_refused = rw refused_waits

  pub silence_counts : is_waiting c ≡ true → silenced c ≡ advanced c no_answer
  silence_counts is = unfold intake_of in waiting_moves no_answer is
