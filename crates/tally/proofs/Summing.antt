-- The tally of a row of results is their sums. Assumes nothing.
use mathlib.Core.Path.{◌≡◌, refl, sym, ap, subst, ◌∙◌}
use mathlib.Core.Bool.{Bool, true, false, cond, not, ◌&&◌, false≢true}
use mathlib.Core.List.{List, [], ◌∷◌}
use Prim.Native.Nat.{ℕ, suc, ◌+◌, ◌*◌, ◌≤◌, ◌<◌}
use native.Mathlib.Omega.{arith}
use borrow.Author.Tests.{leb-true, ltb-true}
use lib.ListN.{length}
use lib.Dec.{leb, ltb}
use Rattle.laws.proofs.Bools.{and_left, and_right}
use Rattle.settings.specs.Columns.{count}
use Rattle.restore.specs.Calls.{both_allowed}
use Rattle.restore.proofs.Theorems.{sets_are_few}
use Rattle.follow.specs.Following.{standing, total, follower_allowed}
use Rattle.follow.specs.declared.Follower.{Follower}
use Rattle.follow.specs.declared.Standing.{Standing}
use Rattle.tally.specs.Results.{Result, restored, silent, not_begun, nothing, has_ended, is_stopped, ended_as, with_sets, share_of, fits, most, tally_allowed, plus}
use Rattle.tally.specs.Calls.{counted, counting}
use Rattle.tally.specs.AsHeld.{Within}
use Rattle.tally.specs.Laws.{tallied, fitting, one, number, add_up, is_done, is_equal, was_done, was_equal, was_stopped, was_silent, was_not_begun, confirmed_of, due_of, SumsUp, TallySumsUp, all_fit, AllAreCounted, CountedIsAdded}
use Rattle.tally.specs.declared.Tally.{Tally}
use Rattle.tally.proofs.Counting.{of_within, counting_stray, counting_unfit, counting_fit, fits_is}
use Rattle.tally.proofs.Refusing.{stray_refused}

-- What one result adds is what it is counted as by hand.

abbrev by_hand : Result → Tally
by_hand r =
    record {
      done = one (was_done r);
      equal = one (was_equal r);
      stopped = one (was_stopped r);
      silent = one (was_silent r);
      unbegun = one (was_not_begun r);
      confirmed = confirmed_of r;
      due = due_of r;
    }

pub record Shares (r : Result) : Type 0 where
  pub share_is : share_of r ≡ by_hand r
  pub once : one (was_done r) + one (was_equal r) + one (was_stopped r) + one (was_silent r) + one (was_not_begun r) ≡ 1
  pub confirmed_few : confirmed_of r ≤ due_of r
  pub due_few : due_of r ≤ count

-- a follower counts no Set that is not of its list
follower_few : (f : Follower) → follower_allowed f ≡ true → f.confirmed ≤ total f
unfolding follower_allowed
follower_few f e = by f.stopped (and_right (both_allowed f.from f.to) _ e)
  where
    by : (t : Bool) → cond t (ltb f.confirmed (total f)) (leb f.confirmed (total f)) ≡ true → f.confirmed ≤ total f
    by true h = let less : f.confirmed < total f = ltb-true _ _ h in omega arith
    by false h = leb-true _ _ h

record Ended (o : Standing) (a : Bool) : Type 0 where
  pub share_is : ended_as o a
      ≡ record {
        done = one (is_done o);
        equal = one (is_equal o);
        stopped = one (is_stopped o && a);
        silent = one (is_stopped o && not a);
        unbegun = 0;
        confirmed = 0;
        due = 0;
      }
  pub once : one (is_done o) + one (is_equal o) + one (is_stopped o && a) + one (is_stopped o && not a) + 0 ≡ 1

ended : (o : Standing) (a : Bool) → has_ended o ≡ true → Ended o a
ended (Standing.Waiting due) a e = absurd (false≢true e)
ended Standing.Equal a e = record { share_is = refl; once = refl }
ended Standing.Done a e = record { share_is = refl; once = refl }
ended (Standing.Stopped due) true e = record { share_is = refl; once = refl }
ended (Standing.Stopped due) false e = record { share_is = refl; once = refl }
ended (Standing.Refused number) a e = absurd (false≢true e)

shares : (r : Result) → fits r ≡ true → Shares r
shares (restored f a) e =
    let parts : (follower_allowed f && has_ended (standing f)) ≡ true = sym (fits_is f a) ∙ e in
    let end : Ended (standing f) a = ended (standing f) a (and_right (follower_allowed f) (has_ended (standing f)) parts) in
    record {
      share_is = ap (λ (t : Tally). with_sets t f.confirmed (total f)) end.share_is;
      once = end.once;
      confirmed_few = follower_few f (and_left (follower_allowed f) (has_ended (standing f)) parts);
      due_few = sets_are_few f.from f.to;
    }
shares silent e = record { share_is = refl; once = refl; confirmed_few = omega arith; due_few = omega arith }
shares not_begun e = record { share_is = refl; once = refl; confirmed_few = omega arith; due_few = omega arith }

-- what is not stray is added
pub added : CountedIsAdded
added t r none = by (tally_allowed t) (fits r) refl refl
  where
    by : (a b : Bool) → tally_allowed t ≡ a → fits r ≡ b → counting t r ≡ counted (plus t (by_hand r))
    by true true e f = sym (counting_fit t r e f) ∙ ap (λ (s : Tally). counted (plus t s)) (shares r f).share_is
    by true false e f = absurd (none ((stray_refused t r).0 (sym (counting_unfit t r f))))
    by false b e f = absurd (none ((stray_refused t r).0 (sym (counting_stray t r e))))

-- A tally that has room for this many more.
record Room (t : Tally) (n : ℕ) : Type 0 where
  pub done_room : t.done + count * n ≤ most
  pub equal_room : t.equal + count * n ≤ most
  pub stopped_room : t.stopped + count * n ≤ most
  pub silent_room : t.silent + count * n ≤ most
  pub unbegun_room : t.unbegun + count * n ≤ most
  pub confirmed_room : t.confirmed + count * n ≤ most
  pub due_room : t.due + count * n ≤ most

room_within : (t : Tally) (n : ℕ) → Room t n → Within t
room_within t n r =
    record {
      done_few = omega arith;
      equal_few = omega arith;
      stopped_few = omega arith;
      silent_few = omega arith;
      unbegun_few = omega arith;
      confirmed_few = omega arith;
      due_few = omega arith;
    }

room_less : (t : Tally) (n : ℕ) → Room t (suc n) → Room t n
room_less t n r =
    record {
      done_room = omega arith;
      equal_room = omega arith;
      stopped_room = omega arith;
      silent_room = omega arith;
      unbegun_room = omega arith;
      confirmed_room = omega arith;
      due_room = omega arith;
    }

room_plus : (t : Tally) (n : ℕ) (r : Result) → Shares r → Room t (suc n) → Room (plus t (share_of r)) n
room_plus t n r s room =
    rw s.share_is
    (record {
      done_room = omega arith;
      equal_room = omega arith;
      stopped_room = omega arith;
      silent_room = omega arith;
      unbegun_room = omega arith;
      confirmed_room = omega arith;
      due_room = omega arith;
    })

-- what a row of results adds to a tally
record Adds (t : Tally) (results : List Result) (t' : Tally) : Type 0 where
  pub done_are : t'.done ≡ t.done + number was_done results
  pub equal_are : t'.equal ≡ t.equal + number was_equal results
  pub stopped_are : t'.stopped ≡ t.stopped + number was_stopped results
  pub silent_are : t'.silent ≡ t.silent + number was_silent results
  pub unbegun_are : t'.unbegun ≡ t.unbegun + number was_not_begun results
  pub confirmed_are : t'.confirmed ≡ t.confirmed + add_up confirmed_of results
  pub due_are : t'.due ≡ t.due + add_up due_of results

adds_one : (t : Tally) (r : Result) (rest : List Result) (t' : Tally) → Shares r → Adds (plus t (share_of r)) rest t' → Adds t (r ∷ rest) t'
adds_one t r rest t' s a =
    let b : Adds (plus t (by_hand r)) rest t' = subst (λ (x : Tally). Adds (plus t x) rest t') s.share_is a in
    record {
      done_are = omega (arith, b.done_are);
      equal_are = omega (arith, b.equal_are);
      stopped_are = omega (arith, b.stopped_are);
      silent_are = omega (arith, b.silent_are);
      unbegun_are = omega (arith, b.unbegun_are);
      confirmed_are = omega (arith, b.confirmed_are);
      due_are = omega (arith, b.due_are);
    }

adds : (results : List Result) (t : Tally) → Room t (length results) → Adds t (fitting results) (tallied t results)
adds [] t room =
    record {
      done_are = omega arith;
      equal_are = omega arith;
      stopped_are = omega arith;
      silent_are = omega arith;
      unbegun_are = omega arith;
      confirmed_are = omega arith;
      due_are = omega arith;
    }
adds (r ∷ more) t room = by (fits r) refl (adds more t) (adds more (plus t (share_of r)))
  where
    ok : tally_allowed t ≡ true
    ok = of_within t (room_within t (suc (length more)) room)

    by : (b : Bool) → fits r ≡ b → (Room t (length more) → Adds t (fitting more) (tallied t more))
        → (Room (plus t (share_of r)) (length more) → Adds (plus t (share_of r)) (fitting more) (tallied (plus t (share_of r)) more))
        → Adds t (fitting (r ∷ more)) (tallied (counting t r).tally more)
    by true e same grown =
        rw (e, sym (counting_fit t r ok e))
        (adds_one t r (fitting more) (tallied (plus t (share_of r)) more) (shares r e) (grown (room_plus t (length more) r (shares r e) room)))
    by false e same grown = rw (e, sym (counting_unfit t r e)) (same (room_less t (length more) room))

-- every one that fits is counted once, and adds no more confirmed Sets than due ones
record Kinds (results : List Result) : Type 0 where
  pub once : number was_done results + number was_equal results + number was_stopped results + number was_silent results + number was_not_begun results ≡ length results
  pub few : add_up confirmed_of results ≤ add_up due_of results

kinds_one : (r : Result) (rest : List Result) → Shares r → Kinds rest → Kinds (r ∷ rest)
kinds_one r rest s k = record { once = omega (arith, s.once, k.once); few = omega (arith, s.confirmed_few, k.few) }

kinds : (results : List Result) → Kinds (fitting results)
kinds [] = record { once = refl; few = omega arith }
kinds (r ∷ more) = by (fits r) refl (kinds more)
  where
    by : (b : Bool) → fits r ≡ b → Kinds (fitting more) → Kinds (fitting (r ∷ more))
    by true e k = rw e (kinds_one r (fitting more) (shares r e) k)
    by false e k = rw e k

pub sums_up_lem : TallySumsUp
sums_up_lem results few =
    let room : Room nothing (length results) =
    record {
      done_room = omega arith;
      equal_room = omega arith;
      stopped_room = omega arith;
      silent_room = omega arith;
      unbegun_room = omega arith;
      confirmed_room = omega arith;
      due_room = omega arith;
    } in
    let a : Adds nothing (fitting results) (tallied nothing results) = adds results nothing room in
    let k : Kinds (fitting results) = kinds results in
    record {
      done_are = omega (arith, a.done_are);
      equal_are = omega (arith, a.equal_are);
      stopped_are = omega (arith, a.stopped_are);
      silent_are = omega (arith, a.silent_are);
      unbegun_are = omega (arith, a.unbegun_are);
      confirmed_are = omega (arith, a.confirmed_are);
      due_are = omega (arith, a.due_are);
      each_once = omega arith;
      confirmed_within = omega arith;
    }

all_fitting : (results : List Result) → all_fit results ≡ true → fitting results ≡ results
all_fitting [] e = refl
all_fitting (r ∷ more) e = rw (and_left (fits r) (all_fit more) e, all_fitting more (and_right (fits r) (all_fit more) e))

pub all_counted : AllAreCounted
all_counted results few e = subst (λ (l : List Result). SumsUp l (tallied nothing results)) (all_fitting results e) (sums_up_lem results few)
