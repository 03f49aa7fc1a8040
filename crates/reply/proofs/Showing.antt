-- What is shown of every id and value, exactly when. Assumes nothing.
use mathlib.Core.Path.{◌≡◌, refl, sym, ap, subst, ◌∙◌}
use mathlib.Core.Logic.{◌≢◌}
use mathlib.Core.Bool.{true}
use mathlib.Core.List.{List, [], ◌∷◌}
use Prim.Native.Nat.{ℕ, ◌*◌, ◌^◌, ◌≤◌, ◌<◌}
use native.Mathlib.Omega.{arith}
use borrow.Author.Tests.{ltb-true, eqb-true, eqb-false, eq-eqb, ne_eqb}
use lib.ListN.{length}
use lib.Dec.{ltb, eqb}
use lib.IntN.{ℤ, pos, nat_abs}
use lib.Ieee.{Float}
use Rattle.paper.specs.Numbers as paper
use Rattle.laws.specs.Lists.{Bytes}
use Rattle.laws.proofs.Bools.{and_left, and_right}
use Rattle.endian.specs.Numbers.{from_little, signed}
use Rattle.reply.specs.Units.{over, of_width}
use Rattle.reply.specs.Calls.{showing}
use Rattle.reply.specs.Laws.{quotient, width_for, Shows, another_id, wrong_width_lem, in_volts_lem, in_amperes_lem, in_fine_amperes_lem, in_amp_hours_lem, in_percent_lem, ShownExactly}
use Rattle.std.specs.Prelude.{Ok, Err}
use Rattle.reply.specs.Answers.{Showed}
use Rattle.reply.specs.declared.Shown.{Shown}
use Rattle.reply.proofs.Choices.{choose}
use Rattle.reply.proofs.Dividing.{over_rounded}

-- a number in two's complement is small enough for a double
signed_few : (width n : ℕ) → 256 ^ width ≤ 256 ^ 4 → nat_abs (signed width n) ≤ 2 ^ 53
unfolding signed
signed_few width n top =
    choose (λ (z : ℤ). nat_abs z ≤ 2 ^ 53) (ltb (2 * n) (256 ^ width)) (λ less. let h : 2 * n < 256 ^ width = ltb-true _ _ less in omega arith) (λ more. omega arith)

two_few : (value : List ℕ) → Bytes value → length value ≡ 2 → from_little value ≤ 2 ^ 53
two_few [] small e = absurd (omega arith)
two_few (a ∷ []) small e = absurd (omega arith)
two_few (a ∷ b ∷ []) small e =
    let low : a < 256 = ltb-true a 256 (and_left (ltb a 256) _ small.below) in
    let high : b < 256 = ltb-true b 256 (and_left (ltb b 256) true (and_right (ltb a 256) _ small.below)) in
    omega arith
two_few (a ∷ b ∷ c ∷ value) small e = absurd (omega arith)

module _ (id : ℕ) (value : List ℕ) (small : Bytes value) where
  abbrev n : ℕ
  n = from_little value

  narrow_over : (steps : ℕ) → 0 < steps → steps ≤ 1000 → over (signed 2 n) steps ≡ quotient (signed 2 n) steps
  narrow_over steps any few = over_rounded (signed 2 n) steps (signed_few 2 n (omega arith)) any (omega arith)

  wide_over : (steps : ℕ) → 0 < steps → steps ≤ 1000 → over (signed 4 n) steps ≡ quotient (signed 4 n) steps
  wide_over steps any few = over_rounded (signed 4 n) steps (signed_few 4 n (omega arith)) any (omega arith)

  plain_over : length value ≡ 2 → over (pos n) 100 ≡ quotient (pos n) 100
  plain_over long = over_rounded (pos n) 100 (two_few value small long) (omega arith) (omega arith)

  -- of the right width, or refused 9
  sized : (width : ℕ) (shown told : Shown) → width_for id ≡ width → 0 < width → (length value ≡ width → shown ≡ told) → (length value ≡ width → Shows id value (Ok told))
      → Shows id value (of_width width value shown)
  sized width shown told is any same shows =
      choose (Shows id value) (eqb (length value) width)
      (λ e. let long = eqb-true (length value) width e in subst (λ (s : Shown). Shows id value (Ok s)) (sym (same long)) (shows long))
      (λ e. wrong_width_lem (rw is any) (λ long. eqb-false (length value) width e (long ∙ is)))

  shows : Shows id value (showing id value)
  unfolding showing
  shows =
      let p : Showed → Type 0 = Shows id value in
      choose p (eqb id paper.voltage_id)
      (λ e. let is = eqb-true id paper.voltage_id e in
      sized 2 _ _ (ap width_for is) (omega arith) (λ long. ap Shown.Volts (narrow_over 100 (omega arith) (omega arith))) (in_volts_lem is))
      (λ e1. choose p (eqb id paper.current_id)
      (λ e. let is = eqb-true id paper.current_id e in
      sized 2 _ _ (ap width_for is) (omega arith) (λ long. ap Shown.Amperes (narrow_over 10 (omega arith) (omega arith))) (in_amperes_lem is))
      (λ e2. choose p (eqb id paper.fine_id)
      (λ e. let is = eqb-true id paper.fine_id e in
      sized 4 _ _ (ap width_for is) (omega arith) (λ long. ap Shown.Amperes (wide_over 1000 (omega arith) (omega arith))) (in_fine_amperes_lem is))
      (λ e3. choose p (eqb id paper.consumed_id)
      (λ e. let is = eqb-true id paper.consumed_id e in
      sized 4 _ _ (ap width_for is) (omega arith) (λ long. ap Shown.AmpHours (wide_over 10 (omega arith) (omega arith))) (in_amp_hours_lem is))
      (λ e4. choose p (eqb id paper.charge_id)
      (λ e. let is = eqb-true id paper.charge_id e in
      sized 2 _ _ (ap width_for is) (omega arith) (λ long. ap Shown.Percent (plain_over long)) (in_percent_lem is))
      (λ e5. another_id (rw (e1, e2, e3, e4, e5)))))))

  -- a refusal, by the width that the id has
  refused_at_lem : (width : ℕ) (shown : Shown) (k : ℕ) → width_for k ≡ width → 0 < width_for id → length value ≢ width_for id → eqb id k ≡ true
      → of_width width value shown ≡ Err paper.wrong_width
  refused_at_lem width shown k is any other e =
      let own : width_for id ≡ width = ap width_for (eqb-true id k e) ∙ is in
      rw (ne_eqb (length value) width (λ long. other (long ∙ sym own)))

  wrong_shown : 0 < width_for id → length value ≢ width_for id → showing id value ≡ Err paper.wrong_width
  unfolding showing
  wrong_shown any other =
      let p : Showed → Type 0 = λ s. s ≡ Err paper.wrong_width in
      choose p (eqb id paper.voltage_id) (refused_at_lem 2 _ paper.voltage_id refl any other)
      (λ e1. choose p (eqb id paper.current_id) (refused_at_lem 2 _ paper.current_id refl any other)
      (λ e2. choose p (eqb id paper.fine_id) (refused_at_lem 4 _ paper.fine_id refl any other)
      (λ e3. choose p (eqb id paper.consumed_id) (refused_at_lem 4 _ paper.consumed_id refl any other)
      (λ e4. choose p (eqb id paper.charge_id) (refused_at_lem 2 _ paper.charge_id refl any other)
      (λ e5. let none : width_for id ≡ 0 = rw (e1, e2, e3, e4, e5) in absurd (omega arith))))))

  -- no width, no reading
  none_at : (k : ℕ) → 0 < width_for k → width_for id ≡ 0 → eqb id k ≡ true → ⊥
  none_at k any none e = let own : width_for id ≡ width_for k = ap width_for (eqb-true id k e) in absurd (omega arith)

  other_shown : width_for id ≡ 0 → showing id value ≡ Err paper.unknown_id
  unfolding showing
  other_shown none =
      let p : Showed → Type 0 = λ s. s ≡ Err paper.unknown_id in
      choose p (eqb id paper.voltage_id) (λ e. absurd (none_at paper.voltage_id (omega arith) none e))
      (λ e1. choose p (eqb id paper.current_id) (λ e. absurd (none_at paper.current_id (omega arith) none e))
      (λ e2. choose p (eqb id paper.fine_id) (λ e. absurd (none_at paper.fine_id (omega arith) none e))
      (λ e3. choose p (eqb id paper.consumed_id) (λ e. absurd (none_at paper.consumed_id (omega arith) none e))
      (λ e4. choose p (eqb id paper.charge_id) (λ e. absurd (none_at paper.charge_id (omega arith) none e)) (λ e5. refl)))))

  given : (answer : Showed) → Shows id value answer → showing id value ≡ answer
  unfolding showing
  given answer (another_id none) = other_shown none
  given answer (wrong_width_lem any other) = wrong_shown any other
  given answer (in_volts_lem is long) =
      ap (λ (i : ℕ). showing i value) is ∙ rw (eq-eqb (length value) 2 long) (ap (λ (q : Float). Ok (Shown.Volts q)) (narrow_over 100 (omega arith) (omega arith)))
  given answer (in_amperes_lem is long) =
      ap (λ (i : ℕ). showing i value) is ∙ rw (eq-eqb (length value) 2 long) (ap (λ (q : Float). Ok (Shown.Amperes q)) (narrow_over 10 (omega arith) (omega arith)))
  given answer (in_fine_amperes_lem is long) =
      ap (λ (i : ℕ). showing i value) is ∙ rw (eq-eqb (length value) 4 long) (ap (λ (q : Float). Ok (Shown.Amperes q)) (wide_over 1000 (omega arith) (omega arith)))
  given answer (in_amp_hours_lem is long) =
      ap (λ (i : ℕ). showing i value) is ∙ rw (eq-eqb (length value) 4 long) (ap (λ (q : Float). Ok (Shown.AmpHours q)) (wide_over 10 (omega arith) (omega arith)))
  given answer (in_percent_lem is long) = ap (λ (i : ℕ). showing i value) is ∙ rw (eq-eqb (length value) 2 long) (ap (λ (q : Float). Ok (Shown.Percent q)) (plain_over long))

pub shown_as : ShownExactly
shown_as id value answer small = (λ e. subst (Shows id value) e (shows id value small), given id value small answer)
