-- Which trailers are refused. Assumes nothing.
use mathlib.Core.Path.{◌≡◌, refl, sym, ap, ◌∙◌}
use mathlib.Core.Bool.{Bool, true, false, false≢true}
use Rattle.std.specs.Prelude.{Ok, Err}
use Rattle.who.specs.Answers.{Verdict}
use Rattle.paper.specs.Numbers.{not_allowed}
use Rattle.follow.specs.Following.{standing, follower_allowed}
use Rattle.follow.specs.Calls.{told}
use Rattle.follow.specs.declared.Follower.{Follower}
use Rattle.follow.specs.declared.Followed.{Followed}
use Rattle.follow.specs.declared.Standing.{Standing}
use Rattle.follow.proofs.Standings.{told_good}
use Rattle.follow.proofs.Reaching.{is_refused, allowed_stands}
use Rattle.follow.proofs.Theorems.{allowed_is_reached}
use Rattle.tally.specs.Results.{Result, restored, silent, not_begun, has_ended, fits, tally_allowed}
use Rattle.tally.specs.Calls.{uncounted, counting}
use Rattle.tally.specs.Laws.{Stray, over, unreached, waits, RefusedIsStray}
use Rattle.tally.specs.declared.Tally.{Tally}
use Rattle.tally.specs.declared.Counted.{Counted}
use Rattle.tally.proofs.Counting.{within_of, of_within, counting_stray, counting_unfit, counting_fit, silent_fits, not_begun_fits, fits_is, fits_told}

module _ (t : Tally) where
  -- a follower that is not fit to be counted is stray or waits
  unfit_follower : (f : Follower) (a : Bool) → fits (restored f a) ≡ false → Stray t (restored f a)
  unfit_follower f a e = by (follower_allowed f) refl
    where
      stands : (o : Standing) → (told f).standing ≡ o → has_ended o ≡ false → is_refused o ≡ false → Stray t (restored f a)
      stands (Standing.Waiting due) is h k = waits is
      stands Standing.Equal is h k = absurd (false≢true (sym h))
      stands Standing.Done is h k = absurd (false≢true (sym h))
      stands (Standing.Stopped due) is h k = absurd (false≢true (sym h))
      stands (Standing.Refused number) is h k = absurd (false≢true (sym k))

      by : (b : Bool) → follower_allowed f ≡ b → Stray t (restored f a)
      by true ok =
          let own : (told f).standing ≡ standing f = ap (λ (x : Followed). x.standing) (sym (told_good f ok)) in
          stands (standing f) own (ap has_ended (sym own) ∙ sym (fits_told f a) ∙ e) (allowed_stands f ok)
      by false bad = unreached (λ r. false≢true (sym bad ∙ (allowed_is_reached f).1 r))

  unfit : (r : Result) → fits r ≡ false → Stray t r
  unfit (restored f a) e = unfit_follower f a e
  unfit silent e = absurd (false≢true (sym e ∙ silent_fits))
  unfit not_begun e = absurd (false≢true (sym e ∙ not_begun_fits))

  strays : (r : Result) → counting t r ≡ uncounted t → Stray t r
  strays r is = by (tally_allowed t) (fits r) refl refl
    where
      by : (a b : Bool) → tally_allowed t ≡ a → fits r ≡ b → Stray t r
      by true true e f = let none : ◌≡◌ {A = Verdict} (Ok tt) (Err not_allowed) = ap (λ (x : Counted). x.verdict) (counting_fit t r e f ∙ is) in cc
      by true false e f = unfit r f
      by false b e f = over (λ w. false≢true (sym e ∙ of_within t w))

  -- and such a one is not counted
  over_uncounts : (r : Result) (b : Bool) → tally_allowed t ≡ b → (b ≡ true → ⊥) → uncounted t ≡ counting t r
  over_uncounts r true e none = absurd (none refl)
  over_uncounts r false e none = counting_stray t r e

  unreached_unfit : (f : Follower) (a b : Bool) → follower_allowed f ≡ b → (b ≡ true → ⊥) → fits (restored f a) ≡ false
  unreached_unfit f a true e none = absurd (none refl)
  unreached_unfit f a false e none = fits_is f a ∙ rw e

  refused : (r : Result) → Stray t r → counting t r ≡ uncounted t
  refused r (over none) = sym (over_uncounts r (tally_allowed t) refl (λ ok. none (within_of t ok)))
  refused (restored f a) (unreached none) = sym (counting_unfit t (restored f a) (unreached_unfit f a (follower_allowed f) refl (λ ok. none ((allowed_is_reached f).0 ok))))
  refused (restored f a) (waits is) = sym (counting_unfit t (restored f a) (fits_told f a ∙ ap has_ended is))

pub stray_refused : RefusedIsStray
stray_refused t r = (strays t r, refused t r)
