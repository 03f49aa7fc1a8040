-- The words of a board's values: proofs of the statements of specs/ValueLaws.antt. Assumes nothing.
use mathlib.Core.Path.{◌≡◌, refl, sym, ap, ap₂, ◌∙◌}
use mathlib.Core.Bool.{Bool, true, false}
use mathlib.Core.List.{List, [], ◌∷◌, ◌++◌}
use Prim.Native.Nat.{ℕ, ◌+◌, ◌/◌, ◌%◌, ◌≤◌, ◌<◌}
use native.Mathlib.Omega.{arith}
use lib.ListN.{get_or, take}
use Rattle.wire.specs.Frame.{digits_of}
use Rattle.wire.proofs.Theorems.{digits_are_two}
use Rattle.reply.specs.Replies.{rest}
use Rattle.reply.specs.Calls.{showing}
use Rattle.reply.specs.Events.{heard}
use Rattle.view.specs.Values.{serial_in, is_understood}
use Rattle.view.specs.Calls.{sight_of, allowed, viewing}
use Rattle.view.specs.declared.Viewer.{Viewer}
use Rattle.view.specs.declared.Sight.{Sight}
use Rattle.view.specs.declared.Viewed.{Viewed}
use Rattle.view.proofs.Serials.{same_serial}
use Rattle.view.proofs.Hearing.{Valued, understood_valued}
use Rattle.view.proofs.Counting.{few_answered, few_understood, waits, ended_all, ended_silent, calls_allowed, counts_are_true}
use Rattle.lines.specs.Lines.{chars, line_of}
use Rattle.lines.specs.Numbers.{last_digit, decimal_from, decimal}
use Rattle.lines.proofs.Adding.{says_text, text_says_lem}
use Rattle.lines.proofs.Digits.{one_digit}
use Rattle.sentences.specs.Texts.{between_text, of_text, refused_text}
use Rattle.sentences.specs.Values.{word_text, strange_text, serial_text, amount_text, reading_text, words_text, sight_text, seen_text, shown_text}
use Rattle.sentences.specs.ValueLaws.{ReadAlike, SerialIsTold, digits, DigitsTold, LineIsTold, ShownIsCounted, ShownIsShown, StrayViewer}
use Rattle.sentences.proofs.Ending.{of_joined}

-- what is said of a frame, by what it came to
module _ (v : Viewer) (command : ℕ) (bytes : List ℕ) (viewed : Viewed) (s : Sight) (e : viewed ≡ viewing v (heard command bytes)) (is : viewed.sight ≡ s) where
  sight_is : (viewing v (heard command bytes)).sight ≡ s
  sight_is = sym (ap (λ (w : Viewed). w.sight) e) ∙ is

  pub said_as : (value : List ℕ) → value ≡ rest bytes → line_of (sight_text value s) ≡ line_of (seen_text v command bytes)
  unfolding seen_text
  said_as value same = ap line_of (ap₂ sight_text same (sym sight_is))

  pub has_value : (id : ℕ) → s ≡ Sight.Understood id → Valued id bytes
  has_value id u = understood_valued v command bytes id (sight_is ∙ u)

pub read_alike : ReadAlike
unfolding showing is_understood words_text reading_text amount_text
read_alike value = (
  record { shown_is = refl; understood_is = refl; told_is = refl },
  (
    record { shown_is = refl; understood_is = refl; told_is = refl },
    (
      record { shown_is = refl; understood_is = refl; told_is = refl },
      (record { shown_is = refl; understood_is = refl; told_is = refl }, record { shown_is = refl; understood_is = refl; told_is = refl }),
    ),
  ),
)

pub serial_is_told : SerialIsTold
unfolding words_text serial_text
serial_is_told value serial is = ap (λ (l : List ℕ). chars "serial " ++ l) (ap serial_in is.is_value ∙ same_serial serial is.is_fit_lem)

-- two bytes in four digits
four_digits : (high low : ℕ) → high < 256 → low < 256 → digits_of (high ∷ low ∷ []) ≡ digits high ++ digits low
four_digits high low h l = (digits_are_two high (low ∷ []) h).0 ∙ ap (λ (d : List ℕ). digits high ++ d) (digits_are_two low [] l).0

pub digits_told : DigitsTold
unfolding words_text strange_text word_text
digits_told =
    record {
      product_told = λ low high l h. ap (λ (d : List ℕ). chars "product " ++ d) (four_digits high low h l);
      version_told = λ low high l h. ap (λ (d : List ℕ). chars "version " ++ d) (four_digits high low h l);
      strange_told = λ id value small. ap (λ (d : List ℕ). d ++ chars ": not understood") (four_digits (id / 256) (id % 256) (omega arith) (omega arith));
      nothing_told = λ value. refl;
    }

pub line_is_told : LineIsTold
unfolding seen_text viewing sight_of
line_is_told v command bytes ok =
    record {
      due_told = λ h k. rw (ok, waits v h k);
      none_told = λ h. rw (ok, ended_all v h);
      silent_told = λ h. rw (ok, ended_silent v h);
    }

pub shown_is_counted : ShownIsCounted
unfolding shown_text
shown_is_counted events = rw (calls_allowed events, (counts_are_true events).understood_are) (of_joined (chars "shown: ") (chars " values") _ 8)

-- eight is one digit, and no count of a viewer has two
eight_shown : (u : ℕ) → u ≤ 8 → take 20 (of_text (chars "shown: ") u 8 (chars " values")) ≡ chars "shown: 8 of 8 values" → u ≡ 8
unfolding of_text
eight_shown u few e =
    let one : decimal u ≡ last_digit u = one_digit 19 u (omega arith) in
    let digit : 48 + u % 10 ≡ 56 =
    ap (λ (l : List ℕ). get_or l 7 0) (ap (λ (d : List ℕ). take 20 (chars "shown: " ++ d ++ chars " of " ++ decimal 8 ++ chars " values")) (sym one) ∙ e) in
    omega arith

pub shown_is_shown : ShownIsShown
unfolding shown_text of_text between_text refused_text decimal_from
shown_is_shown v = (
  λ e. by (allowed v) refl (says_text [] (shown_text v) "shown: 8 of 8 values" e),
  λ all. text_says_lem (shown_text v) "shown: 8 of 8 values" (omega arith) (rw (all.0, all.1) refl),
)
  where
    by : (t : Bool) → allowed v ≡ t → take 20 (shown_text v) ≡ chars "shown: 8 of 8 values" → (allowed v ≡ true) × (v.understood ≡ 8)
    by true ok e =
        let few : v.understood ≤ v.answered = few_understood v ok in
        let most : v.answered ≤ 8 = few_answered v ok in
        (ok, eight_shown v.understood (omega arith) (rw ok at e))
    by false ok e = let z : ◌≡◌ {A = ℕ} 0x72 0x73 = ap (λ (l : List ℕ). get_or l 0 0) (rw ok at e) in absurd (omega arith)

pub stray_viewer : StrayViewer
unfolding shown_text of_text between_text refused_text decimal_from
stray_viewer v = (
  λ e. by (allowed v) refl (says_text [] (shown_text v) "refused 12" e),
  λ bad. text_says_lem (shown_text v) "refused 12" (omega arith) (rw bad refl),
)
  where
    by : (t : Bool) → allowed v ≡ t → take 10 (shown_text v) ≡ chars "refused 12" → allowed v ≡ false
    by true ok e = let z : ◌≡◌ {A = ℕ} 0x73 0x72 = ap (λ (l : List ℕ). get_or l 0 0) (rw ok at e) in absurd (omega arith)
    by false bad e = bad
