-- A board's read-only values in words. Document 01, "Read-only values". Assumes nothing.
use Rattle.std.specs.Prelude.{ℕ, suc, ◌/◌, ◌%◌, Bool, true, false, cond, List, [], ◌∷◌, ◌++◌, get_or, eqb, ℤ, pos, negsuc, Float}
use Prim.Native.String.{String}
use Rattle.paper.specs.Numbers as paper
use Rattle.wire.specs.Frame.{digits_of}
use Rattle.endian.specs.Numbers.{from_little, signed}
use Rattle.reply.specs.Replies.{rest}
use Rattle.reply.specs.declared.Shown.{Shown}
use Rattle.reply.specs.Events.{heard}
use Rattle.view.specs.Values.{count, width_of, serial_in}
use Rattle.view.specs.Calls.{allowed, viewing}
use Rattle.view.specs.declared.Viewer.{Viewer}
use Rattle.view.specs.declared.Sight.{Sight}
use Rattle.lines.specs.Lines.{chars}
use Rattle.lines.specs.Numbers.{pointed}
use Rattle.sentences.specs.Texts.{of_text, refused_text}

-- two bytes in four digits, between words
unfoldable pub word_text : List ℕ → ℕ → ℕ → List ℕ → List ℕ
word_text before high low after = before ++ digits_of (high ∷ low ∷ []) ++ after

-- an id whose answer is not understood: `0100: not understood`
unfoldable pub strange_text : ℕ → List ℕ
strange_text id = word_text [] (id / 256) (id % 256) (chars ": not understood")

-- `serial HQ1234`
unfoldable pub serial_text : List ℕ → List ℕ
serial_text value = chars "serial " ++ serial_in value

-- A reading: whether it has a sign, the decimals that its steps have, the words before and after it, and what `reply` shows it as.
pub record Row : Type 0 where
  pub id : ℕ
  pub has_sign : Bool
  pub decimals : ℕ
  pub word : String
  pub unit : String
  pub kind : Float → Shown

abbrev pub row : ℕ → Bool → ℕ → String → String → (Float → Shown) → Row
row id has_sign decimals word unit kind = record { id = id; has_sign = has_sign; decimals = decimals; word = word; unit = unit; kind = kind }

-- "ED8D signed 16, 0.01 V; ED8F signed 16, 0.1 A; ED8C signed 32, 0.001 A; EEFF signed 32, 0.1 Ah; 0FFF unsigned 16, 0.01 %"
abbrev pub wide_rows : List Row
wide_rows =
    row paper.fine_id true 3 "current " " A" Shown.Amperes ∷
    row paper.consumed_id true 1 "consumed " " Ah" Shown.AmpHours ∷
    []

abbrev pub signed_rows : List Row
signed_rows =
    row paper.voltage_id true 2 "voltage " " V" Shown.Volts ∷
    row paper.current_id true 1 "current " " A" Shown.Amperes ∷
    wide_rows

abbrev pub charge_row : Row
charge_row = row paper.charge_id false 2 "charge " " %" Shown.Percent

abbrev pub row_in : List Row → ℕ → Row
row_in [] id = charge_row
row_in (r ∷ more) id = cond (eqb id r.id) r (row_in more id)

-- the whole number of a value
abbrev pub whole_of : Row → List ℕ → ℤ
whole_of r value = cond r.has_sign (signed (width_of r.id) (from_little value)) (pos (from_little value))

-- a whole number of steps in the unit
abbrev pub whole_text : ℤ → ℕ → List ℕ
whole_text (pos n) decimals = pointed n decimals
whole_text (negsuc n) decimals = chars "-" ++ pointed (suc n) decimals

-- `voltage 12.94 V`
unfoldable pub amount_text : List ℕ → ℤ → ℕ → List ℕ → List ℕ
amount_text before whole decimals after = before ++ whole_text whole decimals ++ after

abbrev pub row_text : Row → List ℕ → List ℕ
row_text r value = amount_text (chars r.word) (whole_of r value) r.decimals (chars r.unit)

unfoldable pub reading_text : ℕ → List ℕ → List ℕ
reading_text id value = row_text (row_in signed_rows id) value

-- A value that is understood: `product A381` ("00, product low, product high, FF"), `version 4401`.
abbrev pub product_text : List ℕ → List ℕ
product_text value = word_text (chars "product ") (get_or value 2 0) (get_or value 1 0) []

abbrev pub version_text : List ℕ → List ℕ
version_text value = word_text (chars "version ") (get_or value 1 0) (get_or value 0 0) []

unfoldable pub words_text : ℕ → List ℕ → List ℕ
words_text id value =
    cond (eqb id paper.product_id) (product_text value)
    (cond (eqb id paper.serial_id) (serial_text value) (cond (eqb id paper.version_id) (version_text value) (reading_text id value)))

-- What a frame said of the id that was due, and nothing where it said nothing of it; nothing too where no start and events give the viewer,
-- as `view` then refuses it and looks at no frame.
abbrev pub sight_text : List ℕ → Sight → List ℕ
sight_text value Sight.Nothing = []
sight_text value (Sight.Understood id) = words_text id value
sight_text value (Sight.Strange id) = strange_text id

unfoldable pub seen_text : Viewer → ℕ → List ℕ → List ℕ
seen_text v command bytes = sight_text (rest bytes) (viewing v (heard command bytes)).sight

-- `shown: 5 of 8 values`; 12 where no start and events give the viewer
unfoldable pub shown_text : Viewer → List ℕ
shown_text v = cond (allowed v) (of_text (chars "shown: ") v.understood count (chars " values")) (refused_text paper.not_allowed)
