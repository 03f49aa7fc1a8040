-- What is proved of the words of a board's values. Each is proved under its name in proofs/Viewing.antt. Assumes nothing.
use Rattle.std.specs.Prelude.{ℕ, ◌/◌, ◌%◌, ◌^◌, ◌≤◌, ◌<◌, ◌≡◌, ◌↔◌, true, false, List, [], ◌∷◌, ◌++◌, length, get_or, eqb}
use Rattle.paper.specs.Numbers as paper
use Rattle.wire.specs.Laws.{hex}
use Rattle.who.specs.Values.{read_only_ids}
use Rattle.reply.specs.Replies.{rest}
use Rattle.reply.specs.Units.{over, of_width}
use Rattle.reply.specs.Calls.{showing}
use Rattle.reply.specs.Events.{Event}
use Rattle.view.specs.Values.{width_of, is_understood}
use Rattle.view.specs.Calls.{sight_at, shows, allowed, starting}
use Rattle.view.specs.Laws.{IsSerial, calls, counted}
use Rattle.view.specs.declared.Viewer.{Viewer}
use Rattle.view.specs.declared.Sight.{Sight}
use Rattle.lines.specs.Lines.{chars, line_of, Says}
use Rattle.lines.specs.Numbers.{steps, decimal}
use Rattle.sentences.specs.Laws.{joined}
use Rattle.sentences.specs.Values.{Row, signed_rows, charge_row, whole_of, whole_text, sight_text, seen_text, shown_text}

-- 1. One whole number and one step for both: what `reply` divides by the steps of a unit is what is printed with as many decimals. A value of
-- another width is refused there, and not understood here.
pub record Alike (r : Row) (value : List ℕ) : Type 0 where
  pub shown_is : showing r.id value ≡ of_width (width_of r.id) value (r.kind (over (whole_of r value) (steps r.decimals)))
  pub understood_is : is_understood r.id value ≡ eqb (length value) (width_of r.id)
  pub told_is : sight_text value (Sight.Understood r.id) ≡ chars r.word ++ whole_text (whole_of r value) r.decimals ++ chars r.unit

abbrev pub AllAlike : List Row → List ℕ → Type 0
AllAlike [] value = Alike charge_row value
AllAlike (r ∷ more) value = Alike r value × AllAlike more value

abbrev pub ReadAlike : Type 0
ReadAlike = (value : List ℕ) → AllAlike signed_rows value

-- A serial is told as it is.
abbrev pub SerialIsTold : Type 0
SerialIsTold = (value serial : List ℕ) → IsSerial value serial → sight_text value (Sight.Understood paper.serial_id) ≡ chars "serial " ++ serial

-- A product and a version are told in digits, the high byte first, and so is an id whose answer is not understood.
abbrev pub digits : ℕ → List ℕ
digits b = hex (b / 16) ∷ hex (b % 16) ∷ []

pub record DigitsTold : Type 0 where
  pub product_told : (low high : ℕ) → low < 256 → high < 256
      → sight_text (0x00 ∷ low ∷ high ∷ 0xFF ∷ []) (Sight.Understood paper.product_id) ≡ joined (chars "product " ∷ digits high ∷ digits low ∷ [])
  pub version_told : (low high : ℕ) → low < 256 → high < 256
      → sight_text (low ∷ high ∷ []) (Sight.Understood paper.version_id) ≡ joined (chars "version " ∷ digits high ∷ digits low ∷ [])
  pub strange_told : (id : ℕ) (value : List ℕ) → id < 256 ^ 2
      → sight_text value (Sight.Strange id) ≡ joined (digits (id / 256) ∷ digits (id % 256) ∷ chars ": not understood" ∷ [])
  pub nothing_told : (value : List ℕ) → sight_text value Sight.Nothing ≡ []

-- 2. A frame is told by what it comes to while an id is due (SightIsSeen of `view` says when a value is understood), and while none is,
-- after the last id or the third silence, by an empty line.
pub record Told (v : Viewer) (command : ℕ) (bytes : List ℕ) : Type 0 where
  pub due_told : v.answered < length read_only_ids → v.silences < 3 → seen_text v command bytes ≡ sight_text (rest bytes) (sight_at (get_or read_only_ids v.answered 0) command bytes)
  pub none_told : length read_only_ids ≤ v.answered → seen_text v command bytes ≡ []
  pub silent_told : 3 ≤ v.silences → seen_text v command bytes ≡ []

abbrev pub LineIsTold : Type 0
LineIsTold = (v : Viewer) (command : ℕ) (bytes : List ℕ) → allowed v ≡ true → Told v command bytes

-- 3. After a row of calls the number said to be shown is that of the frames which were understood, of as many as there are ids.
abbrev pub ShownIsCounted : Type 0
ShownIsCounted =
    (events : List Event)
    → shown_text (calls starting events).viewer
    ≡ joined (chars "shown: " ∷ decimal (counted shows read_only_ids 0 events) ∷ chars " of " ∷ decimal (length read_only_ids) ∷ chars " values" ∷ [])

-- All eight are said to be shown exactly where a viewer that a start and events give has understood eight; and a viewer is told as refused
-- exactly where none give it.
abbrev pub ShownIsShown : Type 0
ShownIsShown = (v : Viewer) → Says (line_of (shown_text v)) 0 "shown: 8 of 8 values" ↔ ((allowed v ≡ true) × (v.understood ≡ 8))

abbrev pub StrayViewer : Type 0
StrayViewer = (v : Viewer) → Says (line_of (shown_text v)) 0 "refused 12" ↔ (allowed v ≡ false)
