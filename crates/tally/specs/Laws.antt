-- What is proved of the definitions, as statements to read. Each is proved under its name in proofs/Theorems.antt.
-- Assumes nothing.
use Rattle.std.specs.Prelude.{ℕ, zero, ◌+◌, ◌/◌, ◌≤◌, ◌≡◌, ◌↔◌, Bool, true, false, cond, not, ◌&&◌, List, [], ◌∷◌, length, Ok, Err}
use Rattle.paper.specs.Numbers as paper
use Rattle.settings.specs.Columns.{count}
use Rattle.restore.specs.Order.{due_sets}
use Rattle.follow.specs.Following.{standing}
use Rattle.follow.specs.Calls.{told}
use Rattle.follow.specs.Laws.{Reached}
use Rattle.follow.specs.declared.Follower.{Follower}
use Rattle.requests.specs.declared.Wanted.{Wanted}
use Rattle.requests.specs.declared.Request.{Request}
use Rattle.follow.specs.declared.Standing.{Standing}
use Rattle.tally.specs.Results.{Result, restored, silent, not_begun, nothing, is_stopped, fits, most, tally_allowed}
use Rattle.tally.specs.Calls.{counting, begun_anew}
use Rattle.tally.specs.AsHeld.{Within}
use Rattle.tally.specs.declared.Tally.{Tally}

-- the tally after a row of trailers, one call for each
abbrev pub tallied : Tally → List Result → Tally
tallied t [] = t
tallied t (r ∷ more) = tallied (counting t r).tally more

-- the results that are counted: all but those of a follower that is not allowed, or that still waits
abbrev pub fitting : List Result → List Result
fitting [] = []
fitting (r ∷ more) = cond (fits r) (r ∷ fitting more) (fitting more)

-- Counted by hand: of how many results a test holds, and the sum of a number of each.
abbrev pub one : Bool → ℕ
one true = 1
one false = 0

abbrev pub number : (Result → Bool) → List Result → ℕ
number p [] = zero
number p (r ∷ more) = one (p r) + number p more

abbrev pub add_up : (Result → ℕ) → List Result → ℕ
add_up n [] = zero
add_up n (r ∷ more) = n r + add_up n more

-- how far a follower is, by its own word
abbrev pub is_done : Standing → Bool
is_done (Standing.Waiting due) = false
is_done Standing.Equal = false
is_done Standing.Done = true
is_done (Standing.Stopped due) = false
is_done (Standing.Refused number) = false

abbrev pub is_equal : Standing → Bool
is_equal (Standing.Waiting due) = false
is_equal Standing.Equal = true
is_equal Standing.Done = false
is_equal (Standing.Stopped due) = false
is_equal (Standing.Refused number) = false

-- the kinds of results
abbrev pub was_done : Result → Bool
was_done (restored f answered) = is_done (standing f)
was_done silent = false
was_done not_begun = false

abbrev pub was_equal : Result → Bool
was_equal (restored f answered) = is_equal (standing f)
was_equal silent = false
was_equal not_begun = false

-- stopped at another answer
abbrev pub was_stopped : Result → Bool
was_stopped (restored f answered) = is_stopped (standing f) && answered
was_stopped silent = false
was_stopped not_begun = false

-- no answer: while it was restored, or while it was read
abbrev pub was_silent : Result → Bool
was_silent (restored f answered) = is_stopped (standing f) && not answered
was_silent silent = true
was_silent not_begun = false

abbrev pub was_not_begun : Result → Bool
was_not_begun (restored f answered) = false
was_not_begun silent = false
was_not_begun not_begun = true

-- the Sets that a follower counted as confirmed, and those of its list
abbrev pub confirmed_of : Result → ℕ
confirmed_of (restored f answered) = f.confirmed
confirmed_of silent = zero
confirmed_of not_begun = zero

abbrev pub due_of : Result → ℕ
due_of (restored f answered) = length (due_sets f.from f.to)
due_of silent = zero
due_of not_begun = zero

-- 1. The tally of a yard is the sums of its results and of nothing else: each count is the number of results of its kind, the Sets confirmed
-- are those that the followers counted and no other, every result is counted once, and no more Sets are confirmed than were due.
pub record SumsUp (results : List Result) (t : Tally) : Type 0 where
  pub done_are : t.done ≡ number was_done results
  pub equal_are : t.equal ≡ number was_equal results
  pub stopped_are : t.stopped ≡ number was_stopped results
  pub silent_are : t.silent ≡ number was_silent results
  pub unbegun_are : t.unbegun ≡ number was_not_begun results
  pub confirmed_are : t.confirmed ≡ add_up confirmed_of results
  pub due_are : t.due ≡ add_up due_of results
  pub each_once : t.done + t.equal + t.stopped + t.silent + t.unbegun ≡ length results
  pub confirmed_within : t.confirmed ≤ t.due

-- A follower adds at most one Set for each setting, so a yard of this many trailers stays under the end of every count.
abbrev pub most_trailers : ℕ
most_trailers = most / count

abbrev pub TallySumsUp : Type 0
TallySumsUp = (results : List Result) → length results ≤ most_trailers → SumsUp (fitting results) (tallied nothing results)

-- 2. Where every result is fit to be counted, that is of all of them.
abbrev pub all_fit : List Result → Bool
all_fit [] = true
all_fit (r ∷ more) = fits r && all_fit more

abbrev pub AllAreCounted : Type 0
AllAreCounted = (results : List Result) → length results ≤ most_trailers → all_fit results ≡ true → SumsUp results (tallied nothing results)

-- 3. A tally is allowed exactly where none of its seven counts is over a million.
abbrev pub AllowedIsWithin : Type 0
AllowedIsWithin = (t : Tally) → (tally_allowed t ≡ true) ↔ Within t

-- A trailer is refused 12, and the tally "comes back as it was", exactly where that has a count over a million, or the trailer's follower is
-- one that no start and events give or still waits.
pub data Stray (t : Tally) : Result → Type 0 where
  over : {r : Result} → (Within t → ⊥) → Stray t r
  unreached : {f : Follower} {answered : Bool} → (Reached f → ⊥) → Stray t (restored f answered)
  waits : {f : Follower} {answered : Bool} {due : Request} → (told f).standing ≡ Standing.Waiting due → Stray t (restored f answered)

abbrev pub RefusedIsStray : Type 0
RefusedIsStray = (t : Tally) (r : Result) → (counting t r ≡ record { tally = t; verdict = Err paper.not_allowed }) ↔ Stray t r

-- Any other is accepted, and the tally then has one more of its kind and its Sets besides, whatever it had before.
abbrev pub CountedIsAdded : Type 0
CountedIsAdded =
    (t : Tally) (r : Result) → (Stray t r → ⊥)
    → counting t r
    ≡ record {
      tally = record {
        done = t.done + one (was_done r);
        equal = t.equal + one (was_equal r);
        stopped = t.stopped + one (was_stopped r);
        silent = t.silent + one (was_silent r);
        unbegun = t.unbegun + one (was_not_begun r);
        confirmed = t.confirmed + confirmed_of r;
        due = t.due + due_of r;
      };
      verdict = Ok tt;
    }

-- 4. A trailer is begun anew exactly where its follower says that it stopped, the board said nothing to its last Set, and the round is not
-- the last. So a refusal by the board is never tried again, nor a restore that is done.
pub record Silently (f : Follower) (answered last : Bool) : Type 0 where
  pub stopped_at : Wanted
  pub stopped_is : (told f).standing ≡ Standing.Stopped stopped_at
  pub none_said : answered ≡ false
  pub one_more : last ≡ false

abbrev pub BegunAnewExactly : Type 0
BegunAnewExactly = (f : Follower) (answered last : Bool) → (begun_anew f answered last ≡ true) ↔ Silently f answered last

-- 5. Two rounds of a yard. Each trailer has a result in the first round, and one in the second if it is begun anew; the last one counts.
pub record Trailer : Type 0 where
  pub first : Result
  pub second : Result

abbrev pub is_anew : Result → Bool
is_anew (restored f answered) = begun_anew f answered false
is_anew silent = false
is_anew not_begun = false

abbrev pub last_results : List Trailer → List Result
last_results [] = []
last_results (t ∷ more) = cond (is_anew t.first) t.second t.first ∷ last_results more

-- what is counted in each round
abbrev pub first_round : List Trailer → List Result
first_round [] = []
first_round (t ∷ more) = cond (is_anew t.first) (first_round more) (t.first ∷ first_round more)

abbrev pub second_round : List Trailer → List Result
second_round [] = []
second_round (t ∷ more) = cond (is_anew t.first) (t.second ∷ second_round more) (second_round more)

-- Over the two rounds each trailer is counted once, with its last result.
abbrev pub EachCountsOnce : Type 0
EachCountsOnce =
    (yard : List Trailer) → length yard ≤ most_trailers → all_fit (last_results yard) ≡ true
    → SumsUp (last_results yard) (tallied (tallied nothing (first_round yard)) (second_round yard))
