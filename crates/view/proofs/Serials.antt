-- Laws of a serial. Assumes nothing.
use mathlib.Core.Path.{◌≡◌, refl, sym, ap, ap₂, ◌∙◌}
use mathlib.Core.Bool.{Bool, true, false, cond}
use mathlib.Core.List.{List, [], ◌∷◌, ◌++◌}
use Prim.Native.Nat.{ℕ, suc, ◌+◌, ◌≤◌, ◌<◌}
use native.Mathlib.Omega.{arith}
use borrow.Author.Tests.{leb-true, eqb-true, eq-eqb, ne_eqb}
use lib.ListN.{length, get_or, take, drop, length-append, take-append-drop, drop_of_length-le}
use lib.Seq.{length-take-le, take-append_seam}
use lib.Dec.{ltb, leb, eqb}
use Rattle.laws.specs.Lists.{every, before}
use Rattle.laws.proofs.Bools.{and_left, and_right, both}
use Rattle.laws.proofs.Lists.{drop_turn, before_first}
use Rattle.who.specs.Parts.{printed, serial_fits}
use Rattle.who.specs.Calls.{naming}
use Rattle.std.specs.Prelude.{is_ok}
use Rattle.who.specs.declared.Named.{Named}
use Rattle.who.proofs.Identities.{named_refused, named_accepted}
use Rattle.view.specs.Values.{serial_in, serial_width, serial_reads, is_understood}
use Rattle.view.specs.Laws.{IsSerial, SerialIsRead}

-- a board is named exactly with a serial that fits
pub named_fits : (serial : List ℕ) → is_ok (naming 0 0 serial).verdict ≡ serial_fits serial
named_fits serial = by (serial_fits serial) refl
  where
    by : (t : Bool) → serial_fits serial ≡ t → is_ok (naming 0 0 serial).verdict ≡ serial_fits serial
    by true fit = ap (λ (m : Named). is_ok m.verdict) (named_accepted 0 0 serial fit) ∙ sym fit
    by false fit = ap (λ (m : Named). is_ok m.verdict) (named_refused 0 0 serial fit) ∙ sym fit

-- the bytes of a serial are no zero bytes
not_zero : (b : ℕ) → printed b ≡ true → eqb 0 b ≡ false
not_zero b h =
    let over : 0x20 ≤ b = leb-true 0x20 b (and_left (leb 0x20 b) (leb b 0x7E) h) in
    ne_eqb 0 b (λ e. absurd (omega arith))

before_printed : (xs ys : List ℕ) → every printed xs ≡ true → before (eqb 0) (xs ++ ys) ≡ length xs + before (eqb 0) ys
before_printed [] ys h = omega arith
before_printed (x ∷ xs) ys h =
    rw (not_zero x (and_left (printed x) (every printed xs) h)) (omega (arith, before_printed xs ys (and_right (printed x) (every printed xs) h)))

-- a value by where its first zero byte is
module _ (value : List ℕ) where
  abbrev end : ℕ
  end = before (eqb 0) value

  within : end ≤ length value
  within = (before_first (eqb 0) value).inside

  serial_long : length (serial_in value) ≡ end
  serial_long = length-take-le end value within

  -- what comes after the serial
  after_serial : length value ≡ serial_width end → drop end value ≡ cond (ltb end 32) (0 ∷ []) []
  after_serial e = by (ltb end 32) refl
    where
      by : (t : Bool) → ltb end 32 ≡ t → drop end value ≡ cond (ltb end 32) (0 ∷ []) []
      by true h =
          let long : length value ≡ suc end = e ∙ ap (λ (b : Bool). cond b (suc end) end) h in
          let less : end < length value = omega arith in
          let zero : 0 ≡ get_or value end 0 = eqb-true 0 (get_or value end 0) ((before_first (eqb 0) value).some less) in
          let none : drop (end + 1) value ≡ [] = drop_of_length-le value {i = end + 1} (omega arith) in
          drop_turn value end less ∙ ap₂ (λ (b : ℕ) (l : List ℕ). b ∷ l) (sym zero) none ∙ sym (ap (λ (b : Bool). cond b (0 ∷ []) []) h)
      by false h =
          let long : length value ≡ end = e ∙ ap (λ (b : Bool). cond b (suc end) end) h in
          drop_of_length-le value {i = end} (omega arith) ∙ sym (ap (λ (b : Bool). cond b (0 ∷ []) []) h)

  reads_serial : serial_reads value ≡ true → IsSerial value (serial_in value)
  unfolding serial_reads
  reads_serial ok =
      let long : length value ≡ serial_width end = eqb-true (length value) (serial_width end) (and_right (serial_fits (serial_in value)) _ ok) in
      record {
        is_fit_lem = and_left (serial_fits (serial_in value)) _ ok;
        is_value = sym (take-append-drop end value)
            ∙ ap (λ (l : List ℕ). serial_in value ++ l) (after_serial long)
            ∙ ap (λ (n : ℕ). serial_in value ++ cond (ltb n 32) (0 ∷ []) []) (sym serial_long);
      }

-- a serial and what comes after it
module _ (serial : List ℕ) (fit : serial_fits serial ≡ true) where
  abbrev pub rest : List ℕ
  rest = cond (ltb (length serial) 32) (0 ∷ []) []

  all_printed : every printed serial ≡ true
  unfolding serial_fits
  all_printed = and_right (leb (length serial) 32) _ fit

  ends_there : before (eqb 0) (serial ++ rest) ≡ length serial
  ends_there = before_printed serial rest all_printed ∙ ap (λ (n : ℕ). length serial + n) (first (ltb (length serial) 32)) ∙ omega arith
    where
      first : (t : Bool) → before (eqb 0) (cond t (0 ∷ []) []) ≡ 0
      first true = refl
      first false = refl

  pub same_serial : serial_in (serial ++ rest) ≡ serial
  same_serial = ap (λ (n : ℕ). take n (serial ++ rest)) ends_there ∙ take-append_seam serial rest

  same_width : length (serial ++ rest) ≡ serial_width (before (eqb 0) (serial ++ rest))
  same_width = length-append serial rest ∙ wide (ltb (length serial) 32) ∙ ap serial_width (sym ends_there)
    where
      wide : (t : Bool) → length serial + length {A = ℕ} (cond t (0 ∷ []) []) ≡ cond t (suc (length serial)) (length serial)
      wide true = omega arith
      wide false = omega arith

  serial_reads_lem : serial_reads (serial ++ rest) ≡ true
  unfolding serial_reads
  serial_reads_lem = both _ _ (ap serial_fits same_serial ∙ fit) (eq-eqb _ _ same_width)

pub serial_is_read : SerialIsRead
unfolding is_understood
serial_is_read value = (
  λ ok. (serial_in value, reads_serial value ok),
  λ some. ap serial_reads some.1.is_value ∙ serial_reads_lem some.0 some.1.is_fit_lem,
)
