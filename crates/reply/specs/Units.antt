-- Readings in their units. Document 01, "Read-only values": "ED8D signed 16, 0.01 V; ED8F signed 16, 0.1 A; ED8C signed 32, 0.001 A; EEFF
-- signed 32, 0.1 Ah; 0FFF unsigned 16, 0.01 %". Assumes nothing.
use Rattle.std.specs.Prelude.{ℕ, cond, List, length, eqb, ℤ, pos, Float, Result, Ok, Err}
use Rattle.std.specs.Float.{binary64}
use Rattle.std.specs.Float.Ieee.{div, of_int}
use Rattle.paper.specs.Numbers as paper
use Rattle.endian.specs.Numbers.{from_little, signed}
use Rattle.paper.specs.declared.Refusal.{Refusal}
use Rattle.reply.specs.Answers.{Showed}
use Rattle.reply.specs.declared.Shown.{Shown}

-- "in double precision: the whole number divided once"
unfoldable pub over : ℤ → ℕ → Float
over number steps = div binary64 (of_int binary64 number) (of_int binary64 (pos steps))

-- "then a wrong width 9"
abbrev pub of_width : {A : Type 0} → ℕ → List ℕ → A → Result A Refusal
of_width width value shown = cond (eqb (length value) width) (Ok shown) (Err paper.wrong_width)

-- "by 100, 10, 1000, 10 or 100 in the order above"
abbrev pub in_volts : List ℕ → Showed
in_volts value = of_width 2 value (Shown.Volts (over (signed 2 (from_little value)) 100))

abbrev pub in_amperes : List ℕ → Showed
in_amperes value = of_width 2 value (Shown.Amperes (over (signed 2 (from_little value)) 10))

abbrev pub in_fine_amperes : List ℕ → Showed
in_fine_amperes value = of_width 4 value (Shown.Amperes (over (signed 4 (from_little value)) 1000))

abbrev pub in_amp_hours : List ℕ → Showed
in_amp_hours value = of_width 4 value (Shown.AmpHours (over (signed 4 (from_little value)) 10))

abbrev pub in_percent : List ℕ → Showed
in_percent value = of_width 2 value (Shown.Percent (over (pos (from_little value)) 100))
