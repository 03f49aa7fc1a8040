-- What is proved of the definitions, as statements to compare with the papers. Each is proved under its name in proofs/Theorems.antt.
-- Assumes nothing.
use Rattle.std.specs.Prelude.{ℕ, ◌+◌, ◌-◌, ◌/◌, ◌%◌, ◌≤◌, ◌<◌, ◌≡◌, ◌↔◌, Ok, Err, not, ◌&&◌, ◌||◌, List, [], ◌∷◌, ◌++◌, length, take, drop, get_or, ltb, eqb}
use Rattle.laws.specs.Lists.{every, Bytes, sum_of}
use Rattle.laws.specs.Promise.{Given}
use Rattle.paper.specs.Numbers.{colon, newline, most_nibble, most_data, frame_room}
use Rattle.paper.specs.declared.Refusal.{Refusal}
use Rattle.wire.specs.Digits.{nibble, is_digit}
use Rattle.wire.specs.Frame.{digits_of, frame}
use Rattle.wire.specs.Parsing.{good, body_says, broken_says}
use Rattle.laws.specs.Refusals.{row, first_of}
use Rattle.wire.specs.Refusals.{sixteen, value, is_hex, faults, fault_of, refusal_of, write_refusal_of}
use Rattle.wire.specs.Calls.{pair_of, writing, parsing, parsing_chars}
use Rattle.wire.specs.Answers.{Written, Read}

-- the reader's good answer, with the data in the buffer, and the writer's, with the frame in it
abbrev pub is_read : ℕ → List ℕ → Given Read
is_read command bytes = record { answer = Ok (record { command = command; len = length bytes }); written = bytes }

abbrev pub is_written : List ℕ → Given Written
is_written slice = record { answer = Ok (length slice); written = slice }

-- 1. Demand 2: "A frame written by one end is read by the other as the same command and data": read whole. (On the stream: `stream`.)
abbrev pub WrittenIsRead : Type 0
WrittenIsRead =
    (command : ℕ) (bytes : List ℕ) → command ≤ most_nibble → length bytes ≤ most_data → Bytes bytes → (room : ℕ) → most_data ≤ room
    → parsing (frame command bytes) room ≡ is_read command bytes

-- 2. Demand 2: "a frame read whole is byte for byte the one the writer makes for them".
abbrev pub ReadIsWritten : Type 0
ReadIsWritten =
    (slice : List ℕ) (room : ℕ) (command : ℕ) (bytes : List ℕ) → parsing slice room ≡ is_read command bytes
    → (out : ℕ) → frame_room ≤ out → writing command bytes out ≡ is_written slice

-- what the writer takes
pub record Writable (command : ℕ) (bytes : List ℕ) : Type 0 where
  pub nibble : command ≤ most_nibble
  pub few : length bytes ≤ most_data
  pub small : Bytes bytes

-- the digit of a nibble, of the sixteen written out
abbrev pub hex : ℕ → ℕ
hex n = get_or sixteen n 0

-- 3. "Command, data bytes and check sum to 0x55 modulo 256": in every frame that the writer makes, and in every frame read whole.
pub record Sums (slice : List ℕ) (command : ℕ) (bytes : List ℕ) : Type 0 where
  pub check : ℕ
  pub is_byte : check < 256
  pub slice_is : slice ≡ colon ∷ hex command ∷ digits_of (bytes ++ check ∷ []) ++ newline ∷ []
  pub sums : (command + sum_of bytes + check) % 256 ≡ 0x55

abbrev pub WrittenSums : Type 0
WrittenSums = (command : ℕ) (bytes : List ℕ) (room : ℕ) (slice : List ℕ) → writing command bytes room ≡ is_written slice → Sums slice command bytes

abbrev pub ReadSums : Type 0
ReadSums = (slice : List ℕ) (room : ℕ) (command : ℕ) (bytes : List ℕ) → parsing slice room ≡ is_read command bytes → Sums slice command bytes

-- What characters say is exactly the command and the data of the frame that they fill, and the writer takes no others.
abbrev pub SaidIsFrame : Type 0
SaidIsFrame =
    (chars : List ℕ) (command : ℕ) (bytes : List ℕ)
    → (body_says chars ≡ good command bytes) ↔ (Writable command bytes × (colon ∷ chars ++ newline ∷ [] ≡ frame command bytes))

-- 4. Refusals 1 to 4 are "given exactly when" their condition holds and none before it does: of the characters of a frame that a newline
-- ended, or a colon; of a slice, where 11 and the enclosing come first; and of characters alone. The writer's 11 and 12 likewise.
abbrev pub FaultGivenWhen : Type 0
FaultGivenWhen =
    (chars : List ℕ)
    → (fault_of (body_says chars) ≡ first_of (faults chars newline))
    × (fault_of (broken_says (length chars)) ≡ first_of (faults chars colon))

abbrev pub ReadGivenWhen : Type 0
ReadGivenWhen =
    (slice : List ℕ) (room : ℕ)
    → refusal_of (parsing slice room).answer
    ≡ first_of
    (row 11 (ltb room 35)
    -- "2 if the slice has under 2 bytes, or does not begin with a colon and end with a newline; then 1 to 4 on the bytes between"
    ∷ row 2 (ltb (length slice) 2 || not (eqb (get_or slice 0 0) colon && eqb (get_or slice (length slice - 1) 0) newline))
    ∷ faults (take (length slice - 2) (drop 1 slice)) newline)

abbrev pub CharsGivenWhen : Type 0
CharsGivenWhen = (chars : List ℕ) (room : ℕ) → refusal_of (parsing_chars chars room).answer ≡ first_of (row 11 (ltb room 35) ∷ faults chars newline)

-- "data bytes as two digits each", the high nibble first: in a frame, and as the public call gives them.
abbrev pub DigitsAreTwo : Type 0
DigitsAreTwo =
    (b : ℕ) (bytes : List ℕ) → b < 256
    → (digits_of (b ∷ bytes) ≡ hex (b / 16) ∷ hex (b % 16) ∷ digits_of bytes) × (pair_of b ≡ record { high = hex (b / 16); low = hex (b % 16) })

-- "Digits are `0`-`9`, `A`-`F` only": the nibble of any character is its place among the sixteen, and 16 where it is none of them.
abbrev pub DigitsOnly : Type 0
DigitsOnly = ((c : ℕ) → nibble c ≡ value c) × ((chars : List ℕ) → every is_digit chars ≡ every is_hex chars)

-- The characters alone are read as a slice with a colon before them and a newline after: the same answer, and the same data in the buffer.
abbrev pub CharsAreWhole : Type 0
CharsAreWhole = (chars : List ℕ) (room : ℕ) → parsing_chars chars room ≡ parsing (colon ∷ chars ++ newline ∷ []) room

abbrev pub WriteGivenWhen : Type 0
WriteGivenWhen =
    (command : ℕ) (bytes : List ℕ) (room : ℕ)
    → write_refusal_of (writing command bytes room).answer ≡ first_of (row 11 (ltb room 75) ∷ row 12 (ltb 15 command || ltb 35 (length bytes)) ∷ [])

-- Under a refusal nothing is written: "The data fill the front of the buffer only when 1 to 4 are passed."
abbrev pub RefusedWritesNothing : Type 0
RefusedWritesNothing =
    (refusal : Refusal) (room : ℕ)
    → ((slice : List ℕ) → (parsing slice room).answer ≡ Err refusal → (parsing slice room).written ≡ [])
    × ((chars : List ℕ) → (parsing_chars chars room).answer ≡ Err refusal → (parsing_chars chars room).written ≡ [])
    × ((command : ℕ) (bytes : List ℕ) → (writing command bytes room).answer ≡ Err refusal → (writing command bytes room).written ≡ [])
