-- What is proved of the definitions, as statements to compare with the papers. Each is proved under its name in proofs/Theorems.antt.
-- Assumes nothing.
use Rattle.std.specs.Prelude.{ℕ, suc, ◌+◌, ◌≤◌, ◌<◌, ◌≡◌, ◌↔◌, Ok, Err, Bool, true, false, ◌&&◌, List, [], ◌∷◌, ◌++◌, length, ltb}
use Prim.Native.String.{String}
use Rattle.laws.specs.Lists.{every}
use Rattle.laws.specs.Promise.{Given}
use Rattle.settings.specs.Columns.{count, id_at}
use Rattle.settings.specs.Rules.{in_range}
use Rattle.tables.specs.Rules.{allowed, number_at, changed, factory}
use Rattle.tables.specs.declared.Table.{Table}
use Rattle.lines.specs.Lines.{chars}
use Rattle.rows.specs.Row.{row_of}
use Rattle.rows.specs.Calls.{judging}
use Rattle.rows.specs.Laws.{Judges}
use Rattle.paper.specs.Numbers as paper
use Rattle.paper.specs.declared.Refusal.{Refusal}
use Rattle.wire.specs.Answers.{Written}
use Rattle.backup.specs.Text.{text_for, header, text_of, good, refused, says_for}
use Rattle.backup.specs.Calls.{writing, parsing}
use Rattle.backup.specs.Answers.{bad}
use Rattle.backup.specs.declared.Backup.{Backup}

-- 1. A text with any first line and lines for any places of the table that ascend: it is read as a table exactly when that table is allowed,
-- has factory numbers at every other place, and the text is byte for byte the one that is made for it.
abbrev pub are_places : List ℕ → Bool
are_places [] = true
are_places (k ∷ places) = (ltb k count && every (ltb k) places) && are_places places

-- the first table with the numbers of the second at these places
unfoldable pub filled : List ℕ → Table → Table → Table
filled [] s t = s
filled (k ∷ places) s t = filled places (changed s k (number_at t k)) t

pub record IsText (header places : List ℕ) (table : Table) (text : List ℕ) : Type 0 where
  pub is_allowed : allowed table ≡ true
  pub is_filled : filled places factory table ≡ table
  pub is_text : text ≡ text_for header places table

abbrev pub ReadExactly : Type 0
ReadExactly = (header places : List ℕ) (table : Table) (text : List ℕ) → are_places places ≡ true
    → (says_for header places text ≡ good table → IsText header places table text) × (IsText header places table text → says_for header places text ≡ good table)

-- Otherwise it is refused: 13 where it has another first line; after good lines, as the next one is judged, with its line; 18 where bytes
-- follow the last line; 17 where the table that is read is not allowed.
pub record IsRefused (header done : List ℕ) (table : Table) (rest : List ℕ) : Type 0 where
  pub at_header : (places text : List ℕ) → ((rest : List ℕ) → text ≡ header ++ rest → ⊥) → says_for header places text ≡ refused paper.other_header 1
  pub at_line : (k : ℕ) (more : List ℕ) (refusal : Refusal) → judging k rest ≡ Err refusal
      → says_for header (done ++ k ∷ more) (text_for header done table ++ rest) ≡ refused refusal (2 + length done)
  pub at_end : 0 < length rest → says_for header done (text_for header done table ++ rest) ≡ refused paper.more_bytes 0
  pub at_pair : allowed (filled done factory table) ≡ false → says_for header done (text_for header done table) ≡ refused paper.pair_disagrees 0

abbrev pub RefusedInOrder : Type 0
RefusedInOrder = (header done : List ℕ) (table : Table) (rest : List ℕ) → are_places done ≡ true → every (λ k. in_range k (number_at table k)) done ≡ true
    → IsRefused header done table rest

-- 2. The same of the call itself, by the bytes of the text. Its good lines: the first line, and one for each of the first settings with these
-- numbers, each in its own range; then the rest.
abbrev pub rows_of : ℕ → List ℕ → List ℕ
rows_of k [] = []
rows_of k (n ∷ later) = row_of (id_at k) n ++ rows_of (suc k) later

abbrev pub in_ranges : ℕ → List ℕ → Bool
in_ranges k [] = true
in_ranges k (n ∷ later) = in_range k n && in_ranges (suc k) later

pub record Good (text numbers rest : List ℕ) : Type 0 where
  pub in_ranges_lem : in_ranges 0 numbers ≡ true
  pub text_is : text ≡ header ++ (rows_of 0 numbers ++ rest)

-- "A refusal returns its number, the line, the header being 1 (0 for 17 and 18) and the factory table."
abbrev pub refused_at : Refusal → ℕ → Backup
refused_at refusal line = record { table = factory; verdict = Err (bad refusal line) }

abbrev pub accepted : Table → Backup
accepted table = record { table = table; verdict = Ok tt }

-- Every text has one answer, and each is given exactly when its case holds: 13 at line 1; after good lines 14, 15 or 16 as the next one is
-- judged (`Judges` of rows), with its line; when all lines are good, 18 where bytes follow; when none follow, 17 where the table is not
-- allowed, which is by a pair, as every number is in its range; else the table is given whose number at each place is the one in its line.
pub data Answers (text : List ℕ) : Backup → Type 0 where
  other_header_lem : ((rest : List ℕ) → text ≡ header ++ rest → ⊥) → Answers text (refused_at paper.other_header 1)
  at_line : {numbers rest : List ℕ} {refusal : Refusal} → Good text numbers rest → length numbers < count → Judges (length numbers) rest (Err refusal)
      → Answers text (refused_at refusal (2 + length numbers))
  more_bytes : {numbers rest : List ℕ} → Good text numbers rest → length numbers ≡ count → 0 < length rest → Answers text (refused_at paper.more_bytes 0)
  a_pair : {numbers : List ℕ} → Good text numbers [] → length numbers ≡ count → allowed (record { numbers = numbers }) ≡ false → Answers text (refused_at paper.pair_disagrees 0)
  a_table : {numbers : List ℕ} → Good text numbers [] → length numbers ≡ count → allowed (record { numbers = numbers }) ≡ true
      → Answers text (accepted (record { numbers = numbers }))

abbrev pub AnsweredExactly : Type 0
AnsweredExactly = (text : List ℕ) (answer : Backup) → (parsing text ≡ answer) ↔ Answers text answer

-- Writing: 11 exactly where the room is under 512 bytes; with room, 12 exactly where the table is not allowed; no byte is written under
-- either; else its text.
pub data Writes (table : Table) (room : ℕ) : Given Written → Type 0 where
  short : room < 512 → Writes table room (record { answer = Err paper.short_buffer; written = [] })
  not_allowed_lem : 512 ≤ room → allowed table ≡ false → Writes table room (record { answer = Err paper.not_allowed; written = [] })
  its_text : 512 ≤ room → allowed table ≡ true → Writes table room (record { answer = Ok (length (text_of table)); written = text_of table })

abbrev pub WrittenExactly : Type 0
WrittenExactly = (table : Table) (room : ℕ) (answer : Given Written) → (writing table room ≡ answer) ↔ Writes table room answer

-- The text of a table is the first line, and then for each place in turn the line with the number that the table has there.
abbrev pub TextIsLines : Type 0
TextIsLines = (table : Table) → length table.numbers ≡ count → text_of table ≡ header ++ rows_of 0 table.numbers

-- 3. Reading a written backup gives the table back. (A table has its numbers in every value of the type, which `length` says.)
abbrev pub WrittenIsRead : Type 0
WrittenIsRead = (table : Table) → length table.numbers ≡ count → allowed table ≡ true → parsing (text_of table) ≡ accepted table

-- 4. A text that is read without refusal is byte for byte the one that the writer makes for the table read, and that table is allowed.
pub record Text (table : Table) (text : List ℕ) : Type 0 where
  pub is_allowed : allowed table ≡ true
  pub is_whole : length table.numbers ≡ count
  pub is_written : (room : ℕ) → 512 ≤ room → writing table room ≡ record { answer = Ok (length text); written = text }

abbrev pub ReadIsWritten : Type 0
ReadIsWritten = (text : List ℕ) (table : Table) → parsing text ≡ accepted table → Text table text

-- 5. Every text fits the room that writing needs.
abbrev pub TextIsShort : Type 0
TextIsShort = (table : Table) → allowed table ≡ true → length (text_of table) ≤ 512

-- 6. "The factory table is exactly these 27 lines": the two fields of each as they are printed there, a tab (9) between them and a newline
-- (10) after them.
pub data Row : Type 0 where
  row : (first second : String) → Row

abbrev pub printed : List Row → List ℕ
printed [] = []
printed (row first second ∷ more) = chars first ++ 9 ∷ chars second ++ 10 ∷ printed more

abbrev pub factory_rows : List Row
factory_rows =
    row "settings" "26" ∷ row "0320" "0" ∷ row "0321" "0" ∷ row "0322" "0" ∷ row "0323" "0" ∷ row "0328" "0" ∷
    row "0329" "0" ∷ row "032A" "0" ∷ row "032B" "0" ∷ row "032C" "0" ∷ row "032D" "0" ∷ row "0400" "1" ∷
    row "1000" "200" ∷ row "1001" "132" ∷ row "1002" "40" ∷ row "1003" "3" ∷ row "1004" "90" ∷ row "1005" "125" ∷
    row "1006" "10" ∷ row "1007" "3" ∷ row "1008" "500" ∷ row "1009" "900" ∷ row "EEF5" "3" ∷ row "EEF7" "0" ∷
    row "EEFB" "500" ∷ row "EEFC" "1" ∷ row "EEFE" "5" ∷
    []

abbrev pub FactoryIsPrinted : Type 0
FactoryIsPrinted = text_of factory ≡ printed factory_rows
