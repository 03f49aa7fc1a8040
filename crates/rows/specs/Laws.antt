-- What is proved of the definitions, as statements to compare with the papers. Each is proved under its name in proofs/Theorems.antt.
-- Assumes nothing.
use Rattle.std.specs.Prelude.{ℕ, ◌/◌, ◌%◌, ◌≤◌, ◌<◌, ◌≡◌, ◌≢◌, ◌↔◌, true, false, Ok, Err, List, [], ◌∷◌, ◌++◌, length}
use Rattle.paper.specs.Numbers as paper
use Rattle.laws.specs.Promise.{Given}
use Rattle.wire.specs.Laws.{hex}
use Rattle.wire.specs.Answers.{Written}
use Rattle.settings.specs.Columns.{count, id_at}
use Rattle.settings.specs.Rules.{in_range}
use Rattle.lines.specs.Numbers.{decimal}
use Rattle.rows.specs.Decimals.{is_number, value_of}
use Rattle.rows.specs.Row.{row_of, row_room}
use Rattle.rows.specs.Calls.{writing, parsing, judging}
use Rattle.rows.specs.Answers.{Read, Judgement, row_is, number_is}

-- 1. A number of at most five digits is read back from them, and digits that are read are those of their number.
abbrev pub DecimalIsRead : Type 0
DecimalIsRead = (n : ℕ) → n < 100000 → (is_number (decimal n) ≡ true) × (value_of (decimal n) ≡ n)

abbrev pub ReadIsDecimal : Type 0
ReadIsDecimal = (digits : List ℕ) → is_number digits ≡ true → decimal (value_of digits) ≡ digits

-- 2. What the reader answers, by what is written: `Begins text id n rest` says that a text begins with the row that the writer makes of an id
-- and a number of at most five digits.
pub record Begins (text : List ℕ) (id n : ℕ) (rest : List ℕ) : Type 0 where
  pub id_holds : id < 65536
  pub number_holds : n < 100000
  pub text_is : text ≡ row_of id n ++ rest

-- The row is read as its id, its number and its length; 14 is given exactly when the text begins with no row.
pub data Reads (text : List ℕ) : Read → Type 0 where
  row : {id n : ℕ} {rest : List ℕ} → Begins text id n rest → Reads text (row_is id n (length (row_of id n)))
  none : ((id n : ℕ) (rest : List ℕ) → Begins text id n rest → ⊥) → Reads text (Err paper.bad_line)

abbrev pub ReadExactly : Type 0
ReadExactly = (text : List ℕ) (answer : Read) → (parsing text ≡ answer → Reads text answer) × (Reads text answer → parsing text ≡ answer)

-- 3. The row that is due at a place of the table: 14 exactly when there is no row, 15 exactly when it has another id, 16 exactly when it has
-- the id that is due and a number outside the own range.
pub data Judges (k : ℕ) (text : List ℕ) : Judgement → Type 0 where
  number : {n : ℕ} {rest : List ℕ} → Begins text (id_at k) n rest → in_range k n ≡ true → Judges k text (number_is n (length (row_of (id_at k) n)))
  none : ((id n : ℕ) (rest : List ℕ) → Begins text id n rest → ⊥) → Judges k text (Err paper.bad_line)
  other : {id n : ℕ} {rest : List ℕ} → Begins text id n rest → id ≢ id_at k → Judges k text (Err paper.other_id)
  outside : {n : ℕ} {rest : List ℕ} → Begins text (id_at k) n rest → in_range k n ≡ false → Judges k text (Err paper.out_of_range)

abbrev pub JudgedExactly : Type 0
JudgedExactly = (k : ℕ) (text : List ℕ) (answer : Judgement) → k < count
    → (judging k text ≡ answer → Judges k text answer) × (Judges k text answer → judging k text ≡ answer)

-- For a place past the table 12 is given, whatever the text, and for no other.
abbrev pub PastIsRefused : Type 0
PastIsRefused = (k : ℕ) (text : List ℕ) → (judging k text ≡ Err paper.not_allowed) ↔ (count ≤ k)

-- What a row is: four digits, "tabs between fields, numbers decimal without leading zeros, newline after each line".
abbrev pub RowIsSpelled : Type 0
RowIsSpelled =
    (id n : ℕ) → id < 65536
    → row_of id n ≡ hex (id / 256 / 16) ∷ hex (id / 256 % 16) ∷ hex (id % 256 / 16) ∷ hex (id % 256 % 16) ∷ 9 ∷ decimal n ++ 10 ∷ []

-- 4. Every row of such a number fits the room that writing needs.
abbrev pub RowIsShort : Type 0
RowIsShort = (id n : ℕ) → n < 100000 → length (row_of id n) ≤ row_room

-- 5. Writing: 11 exactly where the room is under 11 bytes, and then no byte is written; else the row.
pub data Writes (id n room : ℕ) : Given Written → Type 0 where
  short : room < 11 → Writes id n room (record { answer = Err paper.short_buffer; written = [] })
  its_row : 11 ≤ room → Writes id n room (record { answer = Ok (length (row_of id n)); written = row_of id n })

abbrev pub WrittenExactly : Type 0
WrittenExactly = (id n room : ℕ) (answer : Given Written) → (writing id n room ≡ answer) ↔ Writes id n room answer
