-- When the box waits no longer. Assumes nothing.
use mathlib.Core.Path.{◌≡◌, refl, ap}
use mathlib.Core.Logic.{◌↔◌, ◌⊎◌, inl, inr}
use mathlib.Core.Bool.{true, false, not}
use mathlib.Core.List.{List, [], ◌∷◌}
use Prim.Native.Nat.{ℕ, ◌-◌, ◌≤◌}
use native.Mathlib.Omega.{arith}
use borrow.Author.Tests.{leb-true, le-leb, not-true}
use lib.Dec.{leb}
use Rattle.laws.specs.Promise.{Given}
use Rattle.laws.specs.Cutting.{Offer, calls}
use Rattle.laws.proofs.Bools.{and_left, and_right, or_cases, or_first, or_second}
use Rattle.stream.specs.Calls.{allowed}
use Rattle.stream.specs.Answers.{Event}
use Rattle.std.specs.Prelude.{Some, None, Ok, Err}
use Rattle.listen.specs.declared.Listener.{Listener}
use Rattle.listen.specs.declared.Told.{Told}
use Rattle.listen.specs.declared.Listened.{Listened}
use Rattle.listen.specs.Hearing.{box_hearing}
use Rattle.listen.specs.Calls.{request_time, trailer_time, is_over, told_by, listening}
use Rattle.listen.specs.Laws.{Turn, listens, listener_at, last_asked, Over, request_over, trailer_over, PatienceEnds, unasked, RequestEnds, LateTakesNothing}
use Rattle.listen.proofs.Settling.{cases, listening_late}
use Rattle.listen.proofs.Merging.{all_alike, cutting}

-- the test, by its two halves

over_told : (begun asked time : ℕ) → is_over begun asked time ≡ true → Over begun asked time
unfolding is_over
over_told begun asked time e = by (or_cases (leb request_time (time - asked)) (leb trailer_time (time - begun)) e)
  where
    by : (leb request_time (time - asked) ≡ true) ⊎ (leb trailer_time (time - begun) ≡ true) → Over begun asked time
    by (inl p) = let h : request_time ≤ time - asked = leb-true request_time (time - asked) p in request_over (omega arith)
    by (inr p) = let h : trailer_time ≤ time - begun = leb-true trailer_time (time - begun) p in trailer_over (omega arith)

told_over : (begun asked time : ℕ) → Over begun asked time → is_over begun asked time ≡ true
unfolding is_over
told_over begun asked time (request_over h) =
    let passed : request_time ≤ time - asked = omega arith in
    or_first (leb request_time (time - asked)) (leb trailer_time (time - begun)) (le-leb request_time (time - asked) passed)
told_over begun asked time (trailer_over h) =
    let passed : trailer_time ≤ time - begun = omega arith in
    or_second (leb request_time (time - asked)) (leb trailer_time (time - begun)) (le-leb trailer_time (time - begun) passed)

-- one read

never_by : {A : Type 0} (e : Event) → told_by e ≡ Told.NoAnswer → A
never_by (Ok None) e = let impossible : ⊥ = cc in absurd impossible
never_by (Ok (Some frame)) e = let impossible : ⊥ = cc in absurd impossible
never_by (Err refusal) e = let impossible : ⊥ = cc in absurd impossible

module _ (l : Listener) (piece : List ℕ) (time room : ℕ) where
  late_is : (listening l piece time room).answer.told ≡ Told.NoAnswer → is_over l.begun l.asked time ≡ true
  late_is =
      cases l piece time room (λ g. g.answer.told ≡ Told.NoAnswer → is_over l.begun l.asked time ≡ true)
      (λ n e. let impossible : ⊥ = cc in absurd impossible)
      (λ enough ok over e. over)
      (λ enough ok early e. never_by (box_hearing l.held piece room).answer.event e)

  is_late : 35 ≤ room → allowed l.held ≡ true → is_over l.begun l.asked time ≡ true → (listening l piece time room).answer.told ≡ Told.NoAnswer
  is_late enough ok over = ap (λ (g : Given Listened). g.answer.told) (listening_late l piece time room enough ok over)

-- after a row of reads

module _ (earlier : List ℕ) (begun asked : ℕ) (bytes : List ℕ) (offers : List (Offer Turn)) where
  abbrev now : Listener
  now = (calls listens (listener_at earlier begun asked) bytes offers).state

  pub ends_exactly : (piece : List ℕ) (time room : ℕ) → 35 ≤ room → ((listening now piece time room).answer.told ≡ Told.NoAnswer) ↔ Over begun (last_asked asked offers) time
  ends_exactly piece time room enough =
      let alike = all_alike earlier begun asked bytes offers in (
        λ e. over_told begun (last_asked asked offers) time (rw (alike.begun_is, alike.asked_is) at (late_is now piece time room e)),
        λ h. is_late now piece time room enough (cutting earlier bytes begun asked offers).goes_on (rw (alike.begun_is, alike.asked_is) (told_over begun (last_asked asked offers) time h)),
      )

pub ends : PatienceEnds
ends start bytes offers piece time room enough = ends_exactly [] start start bytes offers piece time room enough

-- with no other request, the last one stays

unasked_last : (asked : ℕ) (offers : List (Offer Turn)) → unasked offers ≡ true → last_asked asked offers ≡ asked
unasked_last asked [] e = refl
unasked_last asked (o ∷ more) e =
    let plain : o.with.asks ≡ false = not-true _ (and_left (not o.with.asks) (unasked more) e) in
    rw plain (unasked_last asked more (and_right (not o.with.asks) (unasked more) e))

pub request_ends : RequestEnds
request_ends earlier bytes begun asked sent offers plain piece time room enough h =
    (ends_exactly earlier begun sent bytes offers piece time room enough).1 (request_over (rw (unasked_last sent offers plain) h))

-- and nothing is taken

untouched : (l : Listener) (piece : List ℕ) (time room : ℕ) → (listening l piece time room).answer.told ≡ Told.NoAnswer
    → ((listening l piece time room).answer.taken ≡ 0) × ((listening l piece time room).written ≡ []) × ((listening l piece time room).answer.listener ≡ l)
untouched l piece time room =
    cases l piece time room (λ g. g.answer.told ≡ Told.NoAnswer → (g.answer.taken ≡ 0) × (g.written ≡ []) × (g.answer.listener ≡ l))
    (λ n e. (refl, refl, refl)) (λ enough ok over e. (refl, refl, refl))
    (λ enough ok early e. never_by (box_hearing l.held piece room).answer.event e)

pub takes_nothing : LateTakesNothing
takes_nothing l piece time room e =
    let all = untouched l piece time room e in
    record { none_taken = all.0; none_written = all.1; as_it_was = all.2 }
