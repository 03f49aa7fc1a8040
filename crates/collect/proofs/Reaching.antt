-- The states that a start and events give. Assumes nothing.
use mathlib.Core.Path.{◌≡◌, refl, sym, ap, ap₂, subst, ◌∙◌}
use mathlib.Core.Bool.{Bool, true, false, cond, ◌&&◌}
use mathlib.Core.List.{List, [], ◌∷◌, ◌++◌}
use Prim.Native.Nat.{ℕ, suc, ◌+◌, ◌-◌, ◌≤◌, ◌<◌}
use native.Mathlib.Omega.{arith}
use borrow.Author.Tests.{lt-ltb, le-ltb, lt-leb, le-leb, ltb-true, ltb-false, eq-eqb}
use lib.ListN.{length, get_or, set, replicate, length-append, get_or-append}
use lib.Seq.{drop-append_seam, set-append_seam, append_snoc}
use lib.Dec.{ltb, leb, eqb}
use Rattle.laws.proofs.Bools.{both}
use Rattle.laws.proofs.Lists.{every_replicate, up_to_all}
use Rattle.settings.specs.Columns.{count}
use Rattle.reply.specs.Events.{Event}
use Rattle.reply.specs.Events.{most_tries}
use Rattle.collect.specs.Collecting.{fits, intake_of, took, halted, counted, silenced, moved, is_waiting, advanced, begun, within, all_fit, none_after, allowed}
use Rattle.collect.specs.Laws.{run, Carried, following}
use Rattle.collect.specs.declared.Collector.{Collector}
use Rattle.collect.specs.declared.place.Intake.{Intake}
use Rattle.collect.proofs.Moving.{waiting_moves, ended_stays}
use Rattle.collect.proofs.Fitting.{fits_front, AllFit, none_fit, more_fit}
use Rattle.collect.proofs.Intakes.{intake_same, Taken, intake_taken}

-- a collector with these numbers answered, after this many silences; and one that has not stopped
abbrev pub zeros : List ℕ → List ℕ
zeros l = replicate (count - length l) 0

abbrev pub shaped : List ℕ → ℕ → Bool → Collector
shaped l silences stopped = record { len = length l; numbers = l ++ zeros l; silences = silences; stopped = stopped }

abbrev pub held : List ℕ → ℕ → Collector
held l silences = shaped l silences false

pub begun_held : begun ≡ held [] 0
unfolding begun
begun_held = refl

pub held_waits : (l : List ℕ) (silences : ℕ) → length l < count → is_waiting (held l silences) ≡ true
unfolding is_waiting
held_waits l silences h = lt-ltb (length l) count h

pub next_length : (l : List ℕ) (n : ℕ) → length (l ++ n ∷ []) ≡ suc (length l)
next_length l n = length-append l (n ∷ []) ∙ (let one : length l + 1 ≡ suc (length l) = omega arith in one)

module _ (l : List ℕ) (silences : ℕ) (h : length l < count) where
  pub held_takes : (n : ℕ) → took (held l silences) n ≡ held (l ++ n ∷ []) 0
  unfolding took
  held_takes n =
      let len : suc (length l) ≡ length (l ++ n ∷ []) = sym (next_length l n) in
      let room : count - length l ≡ suc (count - length (l ++ n ∷ [])) = omega (arith, next_length l n) in
      let more : set (l ++ zeros l) (length l) n ≡ (l ++ n ∷ []) ++ zeros (l ++ n ∷ []) =
      ap (λ (m : ℕ). set (l ++ replicate m 0) (length l) n) room ∙ set-append_seam l 0 (zeros (l ++ n ∷ [])) n
      ∙ sym (append_snoc l n (zeros (l ++ n ∷ []))) in
      ap₂ (λ (i : ℕ) (xs : List ℕ). record { len = i; numbers = xs; silences = 0; stopped = false }) len more

  pub held_advances : (e : Event) → advanced (held l silences) e ≡ moved (held l silences) (intake_of l (length l) e)
  held_advances e =
      sym (waiting_moves (held l silences) e (held_waits l silences h))
      ∙ ap (moved (held l silences)) (intake_same (l ++ zeros l) l (length l) (λ n. fits_front l (zeros l) (length l) n (omega arith)) e)

-- a reply that does not fit stops, a silence counts, and the third stops too
pub held_halts : (l : List ℕ) (silences : ℕ) → halted (held l silences) ≡ shaped l silences true
unfolding halted
held_halts l silences = refl

module _ (l : List ℕ) (silences : ℕ) where
  pub held_silenced : suc silences < most_tries → silenced (held l silences) ≡ held l (suc silences)
  unfolding silenced
  held_silenced h =
      let next : counted silences ≡ suc silences = omega arith in
      ap₂ (λ (n : ℕ) (s : Bool). shaped l n s) next (ap (leb most_tries) next ∙ lt-leb most_tries (suc silences) h)

  pub held_ended : silences ≡ 2 → silenced (held l silences) ≡ shaped l most_tries true
  unfolding silenced
  held_ended e =
      let next : counted silences ≡ most_tries = omega arith in
      ap₂ (λ (n : ℕ) (s : Bool). shaped l n s) next (ap (leb most_tries) next)

-- ended stays ended
run_stays : (c : Collector) → is_waiting c ≡ false → (events : List Event) → run c events ≡ c
run_stays c is [] = refl
run_stays c is (x ∷ more) = rw (sym (ended_stays c x is)) (run_stays c is more)

done_stays : (l : List ℕ) (silences : ℕ) → length l ≡ count → is_waiting (held l silences) ≡ false
unfolding is_waiting
done_stays l silences e = le-ltb (length l) count (omega arith)

stopped_stays : (l : List ℕ) (silences : ℕ) → is_waiting (shaped l silences true) ≡ false
unfolding is_waiting
stopped_stays l silences = refl

-- what events come to: the numbers taken and whether they ended it, and a collector that holds both
pub record Ends (c : Collector) (all : Carried) : Type 0 where
  pub fit : AllFit all.numbers
  pub few : length all.numbers ≤ count
  pub silences : ℕ
  pub is : c ≡ shaped all.numbers silences all.ended
  pub in_ends : within (length all.numbers) silences all.ended ≡ true

abbrev pub so_far : List ℕ → Bool → Carried
so_far l ended = record { numbers = l; ended = ended }

abbrev pub taking : ℕ → List ℕ → List Event → Carried
taking silences l [] = so_far l false
taking silences l (e ∷ more) =
    cond (ltb (length l) count)
    (following (λ n. taking 0 (l ++ n ∷ []) more) (so_far l true) (taking silences l more)
    (cond (ltb (suc silences) most_tries) (taking (suc silences) l more) (so_far l true))
    (intake_of l (length l) e))
    (so_far l false)

-- what is taken of the events after one that does this
abbrev pub taking_on : ℕ → List ℕ → List Event → Intake → Carried
taking_on silences l more v =
    following (λ n. taking 0 (l ++ n ∷ []) more) (so_far l true) (taking silences l more)
    (cond (ltb (suc silences) most_tries) (taking (suc silences) l more) (so_far l true)) v

-- how many silences there may be
stopped_within : (len silences : ℕ) → len < count → silences ≤ most_tries → within len silences true ≡ true
stopped_within len silences h k = both (ltb len count) (leb silences most_tries) (lt-ltb len count h) (le-leb silences most_tries k)

waiting_within : (len silences : ℕ) → len < count → silences < most_tries → within len silences false ≡ true
waiting_within len silences h k = rw (lt-ltb len count h) (lt-ltb silences most_tries k)

pub within_waiting : (len silences : ℕ) → len < count → within len silences false ≡ true → silences < most_tries
within_waiting len silences h w = ltb-true silences most_tries (rw (lt-ltb len count h) at w)

pub fresh_within : (len : ℕ) → len ≤ count → within len 0 false ≡ true
fresh_within len few = by (ltb len count) refl
  where
    by : (b : Bool) → ltb len count ≡ b → cond b (ltb 0 most_tries) (eqb len count && eqb 0 0) ≡ true
    by true t = refl
    by false t =
        let past : count ≤ len = ltb-false len count t in
        rw (eq-eqb len count (omega arith))

module _ (l : List ℕ) (silences : ℕ) (more : List Event) (all : AllFit l) (h : length l < count) (left : silences < most_tries) where
  ended : (n : ℕ) (c : Collector) → c ≡ shaped l n true → n ≤ most_tries → Ends (run c more) (so_far l true)
  ended n c is k =
      record {
        fit = all;
        few = omega arith;
        silences = n;
        is = ap (λ (d : Collector). run d more) is ∙ run_stays (shaped l n true) (stopped_stays l n) more;
        in_ends = stopped_within (length l) n h k;
      }

  intake_ends : ((n : ℕ) → fits l (length l) n ≡ true → Ends (run (held (l ++ n ∷ []) 0) more) (taking 0 (l ++ n ∷ []) more))
      → Ends (run (held l silences) more) (taking silences l more)
      → (suc silences < most_tries → Ends (run (held l (suc silences)) more) (taking (suc silences) l more))
      → (v : Intake) → Taken l (length l) v
      → Ends (run (moved (held l silences) v) more) (taking_on silences l more v)
  intake_ends next later again (Intake.Takes n) t = rw (held_takes l silences h n) (next n (t.fit n refl))
  intake_ends next later again Intake.Stops t = ended silences (halted (held l silences)) (held_halts l silences) (omega arith)
  intake_ends next later again Intake.Waits t = later
  intake_ends next later again Intake.Silence t = by (ltb (suc silences) most_tries) refl
    where
      by : (b : Bool) → ltb (suc silences) most_tries ≡ b → Ends (run (silenced (held l silences)) more) (cond b (taking (suc silences) l more) (so_far l true))
      by true e = let few = ltb-true (suc silences) most_tries e in rw (held_silenced l silences few) (again few)
      by false e =
          let last : most_tries ≤ suc silences = ltb-false (suc silences) most_tries e in
          ended most_tries (silenced (held l silences)) (held_ended l silences (omega arith)) (omega arith)

pub run_ends : (events : List Event) (l : List ℕ) (silences : ℕ) → AllFit l → length l ≤ count → within (length l) silences false ≡ true
    → Ends (run (held l silences) events) (taking silences l events)
run_ends [] l silences all few w = record { fit = all; few = few; silences = silences; is = refl; in_ends = w }
run_ends (e ∷ more) l silences all few w =
    choose_ends (ltb (length l) count) refl
    (λ h. subst (λ (c : Collector). Ends (run c more) (taking_on silences l more (intake_of l (length l) e))) (sym (held_advances l silences h e))
    (intake_ends l silences more all h (within_waiting (length l) silences h w)
    (λ n f. run_ends more (l ++ n ∷ []) 0 (more_fit l n all f) (rw (next_length l n) h) (fresh_within (length (l ++ n ∷ [])) (rw (next_length l n) h)))
    (run_ends more l silences all few w)
    (λ k. run_ends more l (suc silences) all few (waiting_within (length l) (suc silences) h k))
    (intake_of l (length l) e) (intake_taken l (length l) e)))
  where
    choose_ends : (b : Bool) → ltb (length l) count ≡ b
        → (length l < count → Ends (run (advanced (held l silences) e) more) (taking_on silences l more (intake_of l (length l) e)))
        → Ends (run (advanced (held l silences) e) more) (cond b (taking_on silences l more (intake_of l (length l) e)) (so_far l false))
    choose_ends true t waiting = waiting (ltb-true _ _ t)
    choose_ends false t waiting =
        let past : count ≤ length l = ltb-false _ _ t in
        let full : length l ≡ count = omega arith in
        record { fit = all; few = few; silences = silences; is = run_stays (held l silences) (done_stays l silences full) (e ∷ more); in_ends = w }

-- all such states are allowed
pub begun_ends : (events : List Event) → Ends (run begun events) (taking 0 [] events)
begun_ends events = rw begun_held (run_ends events [] 0 none_fit (omega arith) (fresh_within 0 (omega arith)))

module _ (l : List ℕ) (all : AllFit l) where
  held_fit : all_fit (l ++ zeros l) (length l) ≡ true
  unfolding all_fit
  held_fit =
      up_to_all (length l) (λ j. fits (l ++ zeros l) j (get_or (l ++ zeros l) j 0))
      (λ j h.
      let most : j ≤ length l = omega arith in
      rw (get_or-append l (zeros l) 0 j h, fits_front l (zeros l) j (get_or l j 0) most) (all.at j h))

  held_none : none_after (l ++ zeros l) (length l) ≡ true
  held_none = rw (drop-append_seam l (zeros l)) (every_replicate (count - length l))

  shaped_allowed : (silences : ℕ) (stopped : Bool) → within (length l) silences stopped ≡ true → allowed (shaped l silences stopped) ≡ true
  unfolding allowed
  shaped_allowed silences stopped w = both (within (length l) silences stopped) _ w (both _ _ held_fit held_none)

pub ends_allowed : {c : Collector} {all : Carried} → Ends c all → allowed c ≡ true
ends_allowed {c} {all} e =
    subst (λ (d : Collector). allowed d ≡ true) (sym e.is) (shaped_allowed all.numbers e.fit e.silences all.ended e.in_ends)
