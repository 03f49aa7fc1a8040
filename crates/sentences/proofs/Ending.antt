-- What a follower says of itself, and the Sets of its list. Assumes nothing.
use mathlib.Core.Path.{◌≡◌, refl, sym, ap, ap₂, ◌∙◌}
use mathlib.Core.Bool.{Bool, true, false, cond, false≢true}
use mathlib.Core.List.{List, [], ◌∷◌, ◌++◌, append_assoc, append-nil}
use Prim.Native.Nat.{ℕ, ◌-◌, ◌≤◌, ◌<◌}
use native.Mathlib.Omega.{arith}
use borrow.Author.Tests.{ltb-true, leb-true, eqb-true}
use lib.Dec.{ltb, leb, eqb}
use Rattle.laws.proofs.Bools.{and_left, and_right}
use Rattle.restore.specs.Order.{wanted}
use Rattle.restore.specs.Calls.{both_allowed, sets_due, due_in}
use Rattle.restore.specs.Laws.{Tells, a_set, none_left, not_allowed_lem}
use Rattle.requests.specs.declared.Wanted.{Wanted}
use Rattle.requests.specs.declared.Request.{Request}
use Rattle.restore.specs.Answers.{Due}
use Rattle.paper.specs.Numbers as paper
use Rattle.std.specs.Result.{result_unwrap_or}
use Rattle.restore.proofs.Theorems.{due_tells}
use Rattle.paper.specs.declared.Refusal.{Refusal}
use Rattle.tables.specs.declared.Table.{Table}
use Rattle.follow.specs.Following.{stands_at, standing, advanced, begun, total, follower_allowed}
use Rattle.reply.specs.Events.{Event}
use Rattle.follow.specs.Calls.{answered, told, starting}
use Rattle.follow.specs.Laws.{run, calls}
use Rattle.follow.specs.declared.Follower.{Follower}
use Rattle.follow.specs.declared.Standing.{Standing}
use Rattle.follow.specs.declared.Followed.{Followed}
use Rattle.follow.proofs.Standings.{told_good, told_stray, following_good}
use Rattle.follow.proofs.Counting.{Goes, goes_far, begins}
use Rattle.tally.specs.Laws.{is_done}
use Rattle.lines.specs.Lines.{chars}
use Rattle.lines.specs.Numbers.{decimal}
use Rattle.sentences.specs.Texts.{between_text, of_text, refused_text, stopped_text, end_text, followed_text, progress_text}
use Rattle.sentences.specs.Laws.{followed_by, joined, FollowersSay}

-- none is due any more
abbrev is_over : Standing → Bool
is_over (Standing.Waiting due) = false
is_over Standing.Equal = true
is_over Standing.Done = true
is_over (Standing.Stopped due) = false
is_over (Standing.Refused refusal) = false

still_due : (stopped : Bool) (due : Wanted) → is_over (cond stopped (Standing.Stopped due) (Standing.Waiting (Request.Set due))) ≡ false
still_due true due = refl
still_due false due = refl

equal_true : (b : Bool) → cond b Standing.Equal Standing.Done ≡ Standing.Equal → b ≡ true
equal_true true e = refl
equal_true false e = absurd (false≢true (sym (ap is_done e)))

-- it is not refused
abbrev pub is_known : Standing → Bool
is_known (Standing.Waiting due) = true
is_known Standing.Equal = true
is_known Standing.Done = true
is_known (Standing.Stopped due) = true
is_known (Standing.Refused refusal) = false

set_known : (stopped : Bool) (due : Wanted) → is_known (cond stopped (Standing.Stopped due) (Standing.Waiting (Request.Set due))) ≡ true
set_known true due = refl
set_known false due = refl

none_known : (b : Bool) → is_known (cond b Standing.Equal Standing.Done) ≡ true
none_known true = refl
none_known false = refl

module _ (f : Follower) where
  -- the texts, by whether a start and events give it
  pub followed_good : follower_allowed f ≡ true → end_text (standing f) f.confirmed (total f) ≡ followed_text f
  unfolding followed_text
  followed_good ok = rw ok

  pub followed_stray : follower_allowed f ≡ false → refused_text paper.not_allowed ≡ followed_text f
  unfolding followed_text
  followed_stray ok = rw ok

  pub progress_good : follower_allowed f ≡ true → of_text [] f.confirmed (total f) (chars " confirmed") ≡ progress_text f
  unfolding progress_text
  progress_good ok = rw ok

  pub progress_stray : follower_allowed f ≡ false → refused_text paper.not_allowed ≡ progress_text f
  unfolding progress_text
  progress_stray ok = rw ok

  -- an allowed one is never refused, and any other always
  pub stands_known : follower_allowed f ≡ true → is_known (standing f) ≡ true
  unfolding standing follower_allowed
  stands_known ok = by (due_in f.from f.to f.confirmed) (due_tells f.from f.to f.confirmed)
    where
      by : (d : Due) → Tells f.from f.to f.confirmed d → is_known (stands_at f.stopped f.confirmed d) ≡ true
      by d (a_set k is below sure more) = set_known f.stopped (wanted f.to k)
      by d (none_left sure none) = none_known (eqb f.confirmed 0)
      by d (not_allowed_lem bad) = absurd (false≢true (sym bad ∙ and_left (both_allowed f.from f.to) _ ok))

  word_good : follower_allowed f ≡ true → (told f).standing ≡ standing f
  word_good ok = sym (ap (λ (w : Followed). w.standing) (told_good f ok))

  word_stray : follower_allowed f ≡ false → (told f).standing ≡ Standing.Refused paper.not_allowed
  word_stray bad = sym (ap (λ (w : Followed). w.standing) (told_stray f bad))

  -- the Sets that are due are those of its list
  sets_are : follower_allowed f ≡ true → result_unwrap_or (sets_due f.from f.to) 0 ≡ total f
  unfolding sets_due follower_allowed
  sets_are ok = rw (and_left (both_allowed f.from f.to) _ ok)

  -- what it says of itself is its text
  pub followed_told : end_text (told f).standing f.confirmed (result_unwrap_or (sets_due f.from f.to) 0) ≡ followed_text f
  followed_told = by (follower_allowed f) refl
    where
      by : (t : Bool) → follower_allowed f ≡ t → end_text (told f).standing f.confirmed (result_unwrap_or (sets_due f.from f.to) 0) ≡ followed_text f
      by true ok = ap₂ (λ (o : Standing) (due : ℕ). end_text o f.confirmed due) (word_good ok) (sets_are ok) ∙ followed_good ok
      by false bad = ap (λ (o : Standing). end_text o f.confirmed (result_unwrap_or (sets_due f.from f.to) 0)) (word_stray bad) ∙ followed_stray bad

  pub progress_refused : (refusal : Refusal) → (told f).standing ≡ Standing.Refused refusal → refused_text refusal ≡ progress_text f
  progress_refused refusal is = by (follower_allowed f) refl
    where
      by : (t : Bool) → follower_allowed f ≡ t → refused_text refusal ≡ progress_text f
      by true ok = absurd (false≢true (sym (ap is_known (sym (word_good ok) ∙ is)) ∙ stands_known ok))
      by false bad = let same : refusal ≡ paper.not_allowed = let e : Standing.Refused paper.not_allowed ≡ Standing.Refused refusal = sym (word_stray bad) ∙ is in cc in
          ap refused_text same ∙ progress_stray bad

  pub progress_told : is_known (told f).standing ≡ true → of_text [] f.confirmed (result_unwrap_or (sets_due f.from f.to) 0) (chars " confirmed") ≡ progress_text f
  progress_told known = by (follower_allowed f) refl
    where
      by : (t : Bool) → follower_allowed f ≡ t → of_text [] f.confirmed (result_unwrap_or (sets_due f.from f.to) 0) (chars " confirmed") ≡ progress_text f
      by true ok = ap (λ (due : ℕ). of_text [] f.confirmed due (chars " confirmed")) (sets_are ok) ∙ progress_good ok
      by false bad = absurd (false≢true (sym (ap is_known (word_stray bad)) ∙ known))

  -- no more are confirmed than its list has
  pub within_list : follower_allowed f ≡ true → f.confirmed ≤ total f
  unfolding follower_allowed
  within_list e = by f.stopped (and_right (both_allowed f.from f.to) _ e)
    where
      by : (b : Bool) → cond b (ltb f.confirmed (total f)) (leb f.confirmed (total f)) ≡ true → f.confirmed ≤ total f
      by true e = let less : f.confirmed < total f = ltb-true _ _ e in omega arith
      by false e = leb-true _ _ e

  -- and no fewer where none is due
  over_list : is_over (standing f) ≡ true → total f ≤ f.confirmed
  unfolding standing
  over_list e = by (due_in f.from f.to f.confirmed) (due_tells f.from f.to f.confirmed) e
    where
      by : (d : Due) → Tells f.from f.to f.confirmed d → is_over (stands_at f.stopped f.confirmed d) ≡ true → total f ≤ f.confirmed
      by d (a_set k is below ok more) e = absurd (false≢true (sym (still_due f.stopped (wanted f.to k)) ∙ e))
      by d (none_left ok none) e = none
      by d (not_allowed_lem bad) e = absurd (false≢true e)

  pub done_list : standing f ≡ Standing.Done → total f ≤ f.confirmed
  done_list e = over_list (ap is_over e)

  pub equal_list : standing f ≡ Standing.Equal → total f ≤ f.confirmed
  equal_list e = over_list (ap is_over e)

  pub equal_none : standing f ≡ Standing.Equal → f.confirmed ≡ 0
  unfolding standing
  equal_none e = by (due_in f.from f.to f.confirmed) (due_tells f.from f.to f.confirmed) e
    where
      by : (d : Due) → Tells f.from f.to f.confirmed d → stands_at f.stopped f.confirmed d ≡ Standing.Equal → f.confirmed ≡ 0
      by d (a_set k is below ok more) e = absurd (false≢true (sym (still_due f.stopped (wanted f.to k)) ∙ ap is_over e))
      by d (none_left ok none) e = eqb-true f.confirmed 0 (equal_true (eqb f.confirmed 0) e)
      by d (not_allowed_lem bad) e = absurd (false≢true (ap is_over e))

-- after a row of calls
module _ (from to : Table) (ok : both_allowed from to ≡ true) where
  called : (f : Follower) (events : List Event) → Goes from to f → calls (answered f) events ≡ answered (run f events)
  called f [] g = refl
  called f (e ∷ more) g = rw (sym (following_good f e g.is_allowed)) (called (advanced f e) more (goes_far from to ok f (e ∷ []) g))

  pub arrived : (events : List Event) → followed_by from to events ≡ run (begun from to) events
  unfolding starting
  arrived events =
      let start : Goes from to (begun from to) = begins from to ok in
      ap (λ (w : Followed). (calls w events).follower) (sym (told_good (begun from to) start.is_allowed))
      ∙ ap (λ (w : Followed). w.follower) (called (begun from to) events start)

  pub goes : (events : List Event) → Goes from to (run (begun from to) events)
  goes events = goes_far from to ok (begun from to) events (begins from to ok)

-- numbers between words, part by part
pub between_joined : (before after : List ℕ) (n : ℕ) → between_text before n after ≡ joined (before ∷ decimal n ∷ after ∷ [])
unfolding between_text
between_joined before after n = simp (append_assoc, append-nil)

pub of_joined : (before after : List ℕ) (m n : ℕ) → of_text before m n after ≡ joined (before ∷ decimal m ∷ chars " of " ∷ decimal n ∷ after ∷ [])
unfolding of_text
of_joined before after m n = simp (append_assoc, append-nil)

stopped_joined : (a b c d e g h : List ℕ) → (a ++ b ++ c ++ d ++ e) ++ (g ++ h) ≡ a ++ (b ++ (c ++ (d ++ (e ++ (g ++ h)))))
stopped_joined a b c d e g h = simp append_assoc

pub followers_say : FollowersSay
unfolding followed_text progress_text stopped_text of_text between_text
followers_say f ok =
    record {
      done_is = λ e. rw (ok, e) (of_joined (chars "done: ") (chars " settings confirmed") f.confirmed (total f));
      equal_is = λ e. rw (ok, e) refl;
      stopped_is = λ wanted e.
          rw (ok, e)
          (stopped_joined (chars "stopped: ") (decimal f.confirmed) (chars " of ") (decimal (total f)) (chars " settings confirmed, ") (decimal (total f - f.confirmed)) (chars " not confirmed"));
      waiting_is = λ request e. rw (ok, e) (of_joined (chars "not ended: ") (chars " settings confirmed") f.confirmed (total f));
      progress_is = rw ok (of_joined [] (chars " confirmed") f.confirmed (total f));
    }
