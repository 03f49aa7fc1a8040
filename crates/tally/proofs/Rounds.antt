-- Who is begun anew, and the sums over two rounds. Assumes nothing.
use mathlib.Core.Path.{◌≡◌, refl, sym, ap, subst, ◌∙◌}
use mathlib.Core.Bool.{Bool, true, false, cond, not, ◌&&◌, false≢true}
use mathlib.Core.List.{List, [], ◌∷◌, ◌++◌}
use Prim.Native.Nat.{ℕ, suc, ◌+◌, ◌≤◌}
use native.Mathlib.Omega.{arith}
use lib.ListN.{length}
use Rattle.laws.proofs.Bools.{and_left, and_right, both}
use Rattle.follow.specs.Calls.{told}
use Rattle.follow.specs.declared.Standing.{Standing}
use Rattle.requests.specs.declared.Wanted.{Wanted}
use Rattle.tally.specs.Results.{Result, nothing, is_stopped, fits}
use Rattle.tally.specs.Calls.{counting, begun_anew}
use Rattle.tally.specs.Laws.{tallied, one, number, add_up, was_done, was_equal, was_stopped, was_silent, was_not_begun, confirmed_of, due_of, SumsUp, most_trailers, all_fit, BegunAnewExactly, Trailer, is_anew, last_results, first_round, second_round, EachCountsOnce}
use Rattle.tally.specs.declared.Tally.{Tally}
use Rattle.tally.proofs.Summing.{all_counted}

-- who is begun anew

record At (o : Standing) : Type 0 where
  pub stopped_at : Wanted
  pub stopped_is : o ≡ Standing.Stopped stopped_at

stopped_at_of : (o : Standing) → is_stopped o ≡ true → At o
stopped_at_of (Standing.Waiting due) e = absurd (false≢true e)
stopped_at_of Standing.Equal e = absurd (false≢true e)
stopped_at_of Standing.Done e = absurd (false≢true e)
stopped_at_of (Standing.Stopped due) e = record { stopped_at = due; stopped_is = refl }
stopped_at_of (Standing.Refused number) e = absurd (false≢true e)

not_so : (b : Bool) → not b ≡ true → b ≡ false
not_so true e = absurd (false≢true e)
not_so false e = refl

pub anew_exactly : BegunAnewExactly
unfolding begun_anew
anew_exactly f answered last = (
  λ e.
      let two = and_left (is_stopped (told f).standing && not answered) (not last) e in
      let at : At (told f).standing = stopped_at_of (told f).standing (and_left (is_stopped (told f).standing) (not answered) two) in
      record {
        stopped_at = at.stopped_at;
        stopped_is = at.stopped_is;
        none_said = not_so answered (and_right (is_stopped (told f).standing) (not answered) two);
        one_more = not_so last (and_right (is_stopped (told f).standing && not answered) (not last) e);
      },
  λ s. rw (s.stopped_is, s.none_said, s.one_more),
)

-- one round after the other is one row
tallied_append : (t : Tally) (xs ys : List Result) → tallied t (xs ++ ys) ≡ tallied (tallied t xs) ys
tallied_append t [] ys = refl
tallied_append t (x ∷ xs) ys = tallied_append (counting t x).tally xs ys

-- whose sums are those of the last results

add_up_append : (n : Result → ℕ) (xs ys : List Result) → add_up n (xs ++ ys) ≡ add_up n xs + add_up n ys
add_up_append n [] ys = omega arith
add_up_append n (x ∷ xs) ys = let rest = add_up_append n xs ys in omega (arith, rest)

adds_rounds : (n : Result → ℕ) (yard : List Trailer) → add_up n (first_round yard) + add_up n (second_round yard) ≡ add_up n (last_results yard)
adds_rounds n [] = refl
adds_rounds n (t ∷ more) = by (is_anew t.first) refl (adds_rounds n more)
  where
    by : (b : Bool) → is_anew t.first ≡ b → add_up n (first_round more) + add_up n (second_round more) ≡ add_up n (last_results more)
        → add_up n (cond b (first_round more) (t.first ∷ first_round more)) + add_up n (cond b (t.second ∷ second_round more) (second_round more))
        ≡ n (cond b t.second t.first) + add_up n (last_results more)
    by true e rest = omega (arith, rest)
    by false e rest = omega (arith, rest)

-- a number of results is a sum of ones
number_adds : (p : Result → Bool) (results : List Result) → number p results ≡ add_up (λ r. one (p r)) results
number_adds p [] = refl
number_adds p (r ∷ more) = let rest = number_adds p more in omega (arith, rest)

length_adds : (results : List Result) → length results ≡ add_up (λ r. 1) results
length_adds [] = refl
length_adds (r ∷ more) = let rest = length_adds more in omega (arith, rest)

last_many : (yard : List Trailer) → length (last_results yard) ≡ length yard
last_many [] = refl
last_many (t ∷ more) = ap suc (last_many more)

fit_append : (xs ys : List Result) → all_fit xs ≡ true → all_fit ys ≡ true → all_fit (xs ++ ys) ≡ true
fit_append [] ys e f = f
fit_append (x ∷ xs) ys e f = both (fits x) (all_fit (xs ++ ys)) (and_left (fits x) (all_fit xs) e) (fit_append xs ys (and_right (fits x) (all_fit xs) e) f)

fit_rounds : (yard : List Trailer) → all_fit (last_results yard) ≡ true → (all_fit (first_round yard) ≡ true) × (all_fit (second_round yard) ≡ true)
fit_rounds [] e = (refl, refl)
fit_rounds (t ∷ more) e = by (is_anew t.first) refl e (fit_rounds more)
  where
    by : (b : Bool) → is_anew t.first ≡ b → (fits (cond b t.second t.first) && all_fit (last_results more)) ≡ true
        → (all_fit (last_results more) ≡ true → (all_fit (first_round more) ≡ true) × (all_fit (second_round more) ≡ true))
        → (all_fit (cond b (first_round more) (t.first ∷ first_round more)) ≡ true) × (all_fit (cond b (t.second ∷ second_round more) (second_round more)) ≡ true)
    by true i f later =
        let rest = later (and_right (fits t.second) (all_fit (last_results more)) f) in
        (rest.0, both (fits t.second) (all_fit (second_round more)) (and_left (fits t.second) (all_fit (last_results more)) f) rest.1)
    by false i f later =
        let rest = later (and_right (fits t.first) (all_fit (last_results more)) f) in
        (both (fits t.first) (all_fit (first_round more)) (and_left (fits t.first) (all_fit (last_results more)) f) rest.0, rest.1)

module _ (yard : List Trailer) where
  abbrev rounds : List Result
  rounds = first_round yard ++ second_round yard

  added : (n : Result → ℕ) → add_up n rounds ≡ add_up n (last_results yard)
  added n = add_up_append n (first_round yard) (second_round yard) ∙ adds_rounds n yard

  numbered : (p : Result → Bool) → number p rounds ≡ number p (last_results yard)
  numbered p = number_adds p rounds ∙ added (λ r. one (p r)) ∙ sym (number_adds p (last_results yard))

  many : length rounds ≡ length (last_results yard)
  many = length_adds rounds ∙ added (λ r. 1) ∙ sym (length_adds (last_results yard))

  sums_last : SumsUp rounds (tallied nothing rounds) → SumsUp (last_results yard) (tallied nothing rounds)
  sums_last s =
      record {
        done_are = s.done_are ∙ numbered was_done;
        equal_are = s.equal_are ∙ numbered was_equal;
        stopped_are = s.stopped_are ∙ numbered was_stopped;
        silent_are = s.silent_are ∙ numbered was_silent;
        unbegun_are = s.unbegun_are ∙ numbered was_not_begun;
        confirmed_are = s.confirmed_are ∙ added confirmed_of;
        due_are = s.due_are ∙ added due_of;
        each_once = s.each_once ∙ many;
        confirmed_within = s.confirmed_within;
      }

pub each_once : EachCountsOnce
each_once yard few fit =
    let both-fit = fit_rounds yard fit in
    let short : length (rounds yard) ≤ most_trailers = rw (many yard, last_many yard) few in
    subst (SumsUp (last_results yard)) (tallied_append nothing (first_round yard) (second_round yard))
    (sums_last yard (all_counted (rounds yard) short (fit_append (first_round yard) (second_round yard) both-fit.0 both-fit.1)))
