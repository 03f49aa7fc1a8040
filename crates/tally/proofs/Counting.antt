-- What the calls come to. Assumes nothing.
use mathlib.Core.Path.{◌≡◌, refl, sym, ◌∙◌}
use mathlib.Core.Bool.{Bool, true, false, cond, ◌&&◌, and-true, and-false}
use Prim.Native.Nat.{ℕ, ◌+◌, ◌≤◌}
use native.Mathlib.Omega.{arith}
use borrow.Author.Tests.{leb-true, le-leb}
use lib.Dec.{leb}
use Rattle.laws.proofs.Bools.{and_left, and_right}
use Rattle.settings.specs.Columns.{count}
use Rattle.restore.specs.Calls.{both_allowed, sets_due}
use Rattle.std.specs.Prelude.{Ok}
use Rattle.restore.proofs.Theorems.{sets_are_few}
use Rattle.follow.specs.Following.{standing, total, follower_allowed}
use Rattle.follow.specs.Calls.{answered, told}
use Rattle.follow.specs.declared.Follower.{Follower}
use Rattle.follow.specs.declared.Standing.{Standing}
use Rattle.follow.proofs.Standings.{told_good, told_stray, confirmed_few}
use Rattle.tally.specs.Results.{Result, restored, silent, not_begun, tally_of, has_ended, ended_as, share_of, fits, most, tally_allowed, plus}
use Rattle.tally.specs.Calls.{counted, uncounted, counting}
use Rattle.tally.specs.AsHeld.{Within}
use Rattle.tally.specs.declared.Tally.{Tally}

-- a tally with no count over its end, as a test and as bounds

pub within_of : (t : Tally) → tally_allowed t ≡ true → Within t
unfolding tally_allowed
within_of t e7 =
    let a1 : Bool = leb t.done most in
    let a2 : Bool = a1 && leb t.equal most in
    let a3 : Bool = a2 && leb t.stopped most in
    let a4 : Bool = a3 && leb t.silent most in
    let a5 : Bool = a4 && leb t.unbegun most in
    let a6 : Bool = a5 && leb t.confirmed most in
    let e6 = and_left a6 (leb t.due most) e7 in
    let e5 = and_left a5 (leb t.confirmed most) e6 in
    let e4 = and_left a4 (leb t.unbegun most) e5 in
    let e3 = and_left a3 (leb t.silent most) e4 in
    let e2 = and_left a2 (leb t.stopped most) e3 in
    record {
      done_few = leb-true t.done most (and_left a1 (leb t.equal most) e2);
      equal_few = leb-true t.equal most (and_right a1 (leb t.equal most) e2);
      stopped_few = leb-true t.stopped most (and_right a2 (leb t.stopped most) e3);
      silent_few = leb-true t.silent most (and_right a3 (leb t.silent most) e4);
      unbegun_few = leb-true t.unbegun most (and_right a4 (leb t.unbegun most) e5);
      confirmed_few = leb-true t.confirmed most (and_right a5 (leb t.confirmed most) e6);
      due_few = leb-true t.due most (and_right a6 (leb t.due most) e7);
    }

pub of_within : (t : Tally) → Within t → tally_allowed t ≡ true
unfolding tally_allowed
of_within t w =
    rw (le-leb t.done most w.done_few, le-leb t.equal most w.equal_few, le-leb t.stopped most w.stopped_few, le-leb t.silent most w.silent_few, le-leb t.unbegun most w.unbegun_few, le-leb t.confirmed most w.confirmed_few, le-leb t.due most w.due_few)

-- the calls

module _ (t : Tally) (r : Result) where
  pub counting_stray : tally_allowed t ≡ false → uncounted t ≡ counting t r
  unfolding counting
  counting_stray e = rw e

  pub counting_unfit : fits r ≡ false → uncounted t ≡ counting t r
  unfolding counting
  counting_unfit f = rw (f, and-false (tally_allowed t))

  pub counting_share : fits r ≡ true → cond (tally_allowed t) (counted (plus t (share_of r))) (uncounted t) ≡ counting t r
  unfolding counting
  counting_share f = rw (f, and-true (tally_allowed t))

  pub counting_fit : tally_allowed t ≡ true → fits r ≡ true → counted (plus t (share_of r)) ≡ counting t r
  counting_fit e f = rw (sym (counting_share f), e)

pub silent_fits : fits silent ≡ true
unfolding fits
silent_fits = refl

pub not_begun_fits : fits not_begun ≡ true
unfolding fits
not_begun_fits = refl

-- one trailer of one kind
pub one_within : (t : Tally) (d e s n u : ℕ) → t ≡ tally_of d e s n u → d + e + s + n + u ≤ 1 → Within t
one_within t d e s n u is few =
    rw is
    (record {
      done_few = omega arith;
      equal_few = omega arith;
      stopped_few = omega arith;
      silent_few = omega arith;
      unbegun_few = omega arith;
      confirmed_few = omega arith;
      due_few = omega arith;
    })

-- what a follower says of itself

allowed_both : (f : Follower) → follower_allowed f ≡ true → both_allowed f.from f.to ≡ true
unfolding follower_allowed
allowed_both f e = and_left (both_allowed f.from f.to) _ e

pub fits_is : (f : Follower) (a : Bool) → fits (restored f a) ≡ (follower_allowed f && has_ended (standing f))
unfolding fits
fits_is f a = refl

module _ (f : Follower) (a : Bool) where
  pub fits_told : fits (restored f a) ≡ has_ended (told f).standing
  fits_told = fits_is f a ∙ by (follower_allowed f) refl
    where
      by : (t : Bool) → follower_allowed f ≡ t → (follower_allowed f && has_ended (standing f)) ≡ has_ended (told f).standing
      by true e = rw (sym (told_good f e), e)
      by false e = rw (sym (told_stray f e), e)

  fit_allowed : fits (restored f a) ≡ true → follower_allowed f ≡ true
  fit_allowed fit = and_left (follower_allowed f) (has_ended (standing f)) (sym (fits_is f a) ∙ fit)

  pub fit_told : fits (restored f a) ≡ true → told f ≡ answered f
  fit_told fit = sym (told_good f (fit_allowed fit))

  pub fit_sets : fits (restored f a) ≡ true → sets_due f.from f.to ≡ Ok (total f)
  unfolding sets_due
  fit_sets fit = rw (allowed_both f (fit_allowed fit))

ended_one : (o : Standing) (a : Bool) → Within (ended_as o a)
ended_one (Standing.Waiting due) a = one_within _ 0 0 0 0 0 refl (omega arith)
ended_one Standing.Equal a = one_within _ 0 1 0 0 0 refl (omega arith)
ended_one Standing.Done a = one_within _ 1 0 0 0 0 refl (omega arith)
ended_one (Standing.Stopped due) true = one_within _ 0 0 1 0 0 refl (omega arith)
ended_one (Standing.Stopped due) false = one_within _ 0 0 0 1 0 refl (omega arith)
ended_one (Standing.Refused number) a = one_within _ 0 0 0 0 0 refl (omega arith)

pub share_within : (f : Follower) (a : Bool) → fits (restored f a) ≡ true → Within (share_of (restored f a))
share_within f a fit =
    let ones : Within (ended_as (standing f) a) = ended_one (standing f) a in
    let few : f.confirmed ≤ count = confirmed_few f (fit_allowed f a fit) in
    let all : total f ≤ count = sets_are_few f.from f.to in
    record {
      done_few = ones.done_few;
      equal_few = ones.equal_few;
      stopped_few = ones.stopped_few;
      silent_few = ones.silent_few;
      unbegun_few = ones.unbegun_few;
      confirmed_few = omega arith;
      due_few = omega arith;
    }
