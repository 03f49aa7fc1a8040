-- A reading that a board sends is shown as its whole number, divided once and rounded once. Assumes nothing.
use mathlib.Core.Path.{◌≡◌, refl, sym, ap, ◌∙◌}
use mathlib.Core.Bool.{true}
use mathlib.Core.List.{List}
use mathlib.Core.Option.{Option, some, none-ne-some, some-injective}
use Prim.Native.Nat.{ℕ, ◌*◌, ◌^◌, ◌<◌}
use native.Mathlib.Omega.{arith}
use borrow.Author.Tests.{leb-true, eqb-true}
use lib.IntN.{ℤ, pos, negsuc}
use lib.Signed.{mag}
use lib.Dec.{eqb}
use Rattle.reply.proofs.Choices.{choose}
use Rattle.endian.specs.Numbers.{little, from_little, complement, signed}
use Rattle.paper.specs.Numbers as paper
use Rattle.endian.proofs.Little.{bytes_little}
use Rattle.endian.proofs.Theorems.{little_is_read, complement_is_read}
use Rattle.reply.specs.Calls.{showing}
use Rattle.who.specs.Values.{read_only}
use Rattle.who.specs.declared.Readings.{Readings}
use Rattle.std.specs.Prelude.{Ok}
use Rattle.reply.specs.Answers.{Showed}
use Rattle.reply.specs.declared.Shown.{Shown}
use Rattle.reply.specs.Laws.{quotient, Shows, in_volts_lem, in_amperes_lem, in_fine_amperes_lem, in_amp_hours_lem, in_percent_lem, measured, BoardIsShown}
use Rattle.reply.proofs.Showing.{shown_as}

-- a whole number in two's complement is within the width
narrow_within : (x : ℤ) → 2 * mag x < 256 ^ 2 → complement 2 x < 256 ^ 2
narrow_within (pos n) h = omega arith
narrow_within (negsuc n) h = omega arith

wide_within : (x : ℤ) → 2 * mag x < 256 ^ 4 → complement 4 x < 256 ^ 4
wide_within (pos n) h = omega arith
wide_within (negsuc n) h = omega arith

narrow_back : (x : ℤ) → 2 * mag x < 256 ^ 2 → signed 2 (from_little (little 2 (complement 2 x))) ≡ x
narrow_back x h = ap (signed 2) (little_is_read 2 (complement 2 x) (narrow_within x h)) ∙ complement_is_read 2 x (leb-true 1 2 refl) h

wide_back : (x : ℤ) → 2 * mag x < 256 ^ 4 → signed 4 (from_little (little 4 (complement 4 x))) ≡ x
wide_back x h = ap (signed 4) (little_is_read 4 (complement 4 x) (wide_within x h)) ∙ complement_is_read 4 x (leb-true 1 4 refl) h

-- the value that a board sends, as it is shown
sent_shown : (id width n : ℕ) (answer : Showed) → Shows id (little width n) answer → showing id (little width n) ≡ answer
sent_shown id width n answer = (shown_as id (little width n) answer (record { below = bytes_little width n })).1

module _ (x : ℤ) (h : 2 * mag x < 256 ^ 2) where
  volts_shown : showing paper.voltage_id (little 2 (complement 2 x)) ≡ Ok (Shown.Volts (quotient x 100))
  volts_shown = sent_shown _ 2 _ _ (in_volts_lem refl refl) ∙ ap (λ (z : ℤ). Ok (Shown.Volts (quotient z 100))) (narrow_back x h)

  amperes_shown : showing paper.current_id (little 2 (complement 2 x)) ≡ Ok (Shown.Amperes (quotient x 10))
  amperes_shown = sent_shown _ 2 _ _ (in_amperes_lem refl refl) ∙ ap (λ (z : ℤ). Ok (Shown.Amperes (quotient z 10))) (narrow_back x h)

module _ (x : ℤ) (h : 2 * mag x < 256 ^ 4) where
  fine_shown : showing paper.fine_id (little 4 (complement 4 x)) ≡ Ok (Shown.Amperes (quotient x 1000))
  fine_shown = sent_shown _ 4 _ _ (in_fine_amperes_lem refl refl) ∙ ap (λ (z : ℤ). Ok (Shown.Amperes (quotient z 1000))) (wide_back x h)

  amp_hours_shown : showing paper.consumed_id (little 4 (complement 4 x)) ≡ Ok (Shown.AmpHours (quotient x 10))
  amp_hours_shown = sent_shown _ 4 _ _ (in_amp_hours_lem refl refl) ∙ ap (λ (z : ℤ). Ok (Shown.AmpHours (quotient z 10))) (wide_back x h)

percent_shown : (n : ℕ) → n < 256 ^ 2 → showing paper.charge_id (little 2 n) ≡ Ok (Shown.Percent (quotient (pos n) 100))
percent_shown n h = sent_shown _ 2 _ _ (in_percent_lem refl refl) ∙ ap (λ (m : ℕ). Ok (Shown.Percent (quotient (pos m) 100))) (little_is_read 2 n h)

-- what a board answers to a Get, where it answers with a value, is shown as it was measured
abbrev Seen : Readings → ℕ → Option (List ℕ) → Type 0
Seen readings id found = (value : List ℕ) → found ≡ some value → showing id value ≡ measured readings id

seen_at : (readings : Readings) (id k : ℕ) (sent : List ℕ) → id ≡ k → showing k sent ≡ measured readings k → Seen readings id (some sent)
seen_at readings id k sent is h value e =
    ap (λ (i : ℕ). showing i value) is ∙ ap (showing k) (sym (some-injective sent value e)) ∙ h ∙ ap (measured readings) (sym is)

pub board_shown : BoardIsShown
unfolding read_only showing
board_shown identity readings within id =
    let p : Option (List ℕ) → Type 0 = Seen readings id in
    let at : (k : ℕ) (sent : List ℕ) → showing k sent ≡ measured readings k → eqb id k ≡ true → p (some sent) =
    λ k sent h e. seen_at readings id k sent (eqb-true _ _ e) h in
    choose p (eqb id 0x0100) (at 0x0100 _ refl)
    (λ e1. choose p (eqb id 0x010A) (at 0x010A _ refl)
    (λ e2. choose p (eqb id 0xEEF9) (at 0xEEF9 _ refl)
    (λ e3. choose p (eqb id 0xED8D) (at 0xED8D _ (volts_shown readings.voltage within.voltage_within))
    (λ e4. choose p (eqb id 0xED8F) (at 0xED8F _ (amperes_shown readings.current within.current_within))
    (λ e5. choose p (eqb id 0xED8C) (at 0xED8C _ (fine_shown readings.fine within.fine_within))
    (λ e6. choose p (eqb id 0xEEFF) (at 0xEEFF _ (amp_hours_shown readings.consumed within.consumed_within))
    (λ e7. choose p (eqb id 0x0FFF) (at 0x0FFF _ (percent_shown readings.charge within.charge_within))
    (λ e8. λ value e. absurd (none-ne-some value e)))))))))
