-- What is proved of the definitions, as statements to compare with the papers. Each is proved under its name in proofs/Theorems.antt.
-- Assumes nothing.
use Rattle.std.specs.Prelude.{ℕ, ◌^◌, ◌≤◌, ◌<◌, ◌≡◌, ◌↔◌, Bool, true, false, not, ◌&&◌, List, [], ◌∷◌, length, Ok, Err, ℤ, pos, negsuc}
use Rattle.std.specs.Int.Signed.{le_z}
use Rattle.paper.specs.Numbers as paper
use Rattle.laws.specs.Promise.{Given}
use Rattle.paper.specs.Numbers.{frame_room, most_serial, get_code, set_code}
use Rattle.wire.specs.Frame.{frame}
use Rattle.laws.specs.Refusals.{row, first_of}
use Rattle.stream.specs.Stream.{outside}
use Rattle.stream.specs.Calls.{most_held, held_of}
use Rattle.wire.specs.Laws.{Writable}
use Rattle.settings.specs.Columns.{count, id_at, width_at}
use Rattle.settings.specs.Rules.{allowed_for, Nearest}
use Rattle.tables.specs.Rules.{factory, allowed, number_at, partner_number, changed}
use Rattle.tables.specs.declared.Table.{Table}
use Rattle.who.specs.Laws.{is_serial, refusal_of, Holds}
use Rattle.who.specs.Parts.{serial_fits, serial_of, no_readings}
use Rattle.endian.specs.Numbers.{little, said}
use Rattle.answers.specs.Answers.{with_table, with_readings, frame_answer}
use Rattle.answers.specs.declared.Core.{Core}
use Rattle.requests.specs.Requests.{get_request, set_request}
use Rattle.answers.specs.Refusals.{number_of}
use Rattle.paper.specs.declared.Refusal.{Refusal}
use Rattle.answers.specs.declared.Outcome.{Outcome}
use Rattle.board.specs.Parts.{within, sample_fits, readings_of, board_allowed}
use Rattle.board.specs.Calls.{starting, storing, decided_by, answering}
use Rattle.board.specs.Refusals.{call_rows, Replied}
use Rattle.board.specs.declared.Board.{Board}
use Rattle.board.specs.declared.Sample.{Sample}
use Rattle.board.specs.declared.Handed.{Handed}
use Rattle.board.specs.declared.Answered.{Answered}

-- 1. Every start gives an allowed board, an accepted and a refused one; an accepted one holds what was asked for.
abbrev pub StartIsAllowed : Type 0
StartIsAllowed = (product version : ℕ) (serial : List ℕ) (table : Table) → board_allowed (starting product version serial table).board ≡ true

pub record Started (product version : ℕ) (serial : List ℕ) (table : Table) (j : Handed) : Type 0 where
  pub accepted : j.verdict ≡ Ok tt
  pub product_is : j.board.core.identity.product ≡ product
  pub version_is : j.board.core.identity.version ≡ version
  pub serial_is : serial_of j.board.core.identity ≡ serial
  pub table_is : j.board.core.table ≡ table
  pub readings_are : j.board.core.readings ≡ no_readings
  pub held_is : j.board.held ≡ held_of outside

abbrev pub StartHoldsIt : Type 0
StartHoldsIt =
    (product version : ℕ) (serial : List ℕ) (table : Table) → serial_fits serial ≡ true → allowed table ≡ true
    → Started product version serial table (starting product version serial table)

-- 12 exactly where the serial is not "0 to 32 bytes of 0x20..0x7E", or the table is not allowed.
abbrev pub StartGivenWhen : Type 0
StartGivenWhen =
    (product version : ℕ) (serial : List ℕ) (table : Table)
    → refusal_of (starting product version serial table).verdict ≡ first_of (row 12 (not (is_serial serial && allowed table)) ∷ [])

-- "A refused start (12) returns product and version 0, an empty serial and the factory table", and else as a start does.
abbrev pub StartIsRefused : Type 0
StartIsRefused =
    (product version : ℕ) (serial : List ℕ) (table : Table) → (serial_fits serial && allowed table) ≡ false
    → starting product version serial table ≡ record { board = (starting 0 0 [] factory).board; verdict = Err paper.not_allowed }

-- 2. Readings that fit are stored, each as it was given, and a board stays what it was in all else: allowed if it was. (`core_is` says it of
-- the core as one value.)
pub record Stored (board : Board) (given : Sample) : Type 0 where
  pub accepted : (storing board given).verdict ≡ Ok tt
  pub voltage_is : (storing board given).board.core.readings.voltage ≡ given.voltage
  pub current_is : (storing board given).board.core.readings.current ≡ given.current
  pub fine_is : (storing board given).board.core.readings.fine ≡ given.fine
  pub consumed_is : (storing board given).board.core.readings.consumed ≡ given.consumed
  pub charge_is : pos (storing board given).board.core.readings.charge ≡ given.charge
  pub identity_same : (storing board given).board.core.identity ≡ board.core.identity
  pub table_same : (storing board given).board.core.table ≡ board.core.table
  pub held_same : (storing board given).board.held ≡ board.held
  pub core_is : (storing board given).board.core ≡ with_readings board.core (readings_of given)

abbrev pub StoreStores : Type 0
StoreStores = (board : Board) (given : Sample) → board_allowed board ≡ true → sample_fits given ≡ true → Stored board given

-- 12 exactly where the board is not allowed or one of the five "does not fit its width": signed 16, signed 16, signed 32, signed 32, unsigned
-- 16. (`negsuc n` is the number n + 1 below 0.)
abbrev pub from_to : ℤ → ℤ → ℤ → Bool
from_to low high x = le_z low x && le_z x high

abbrev pub is_sample : Sample → Bool
is_sample given =
    from_to (negsuc 32767) (pos 32767) given.voltage && from_to (negsuc 32767) (pos 32767) given.current
    && from_to (negsuc 2147483647) (pos 2147483647) given.fine && from_to (negsuc 2147483647) (pos 2147483647) given.consumed
    && from_to (pos 0) (pos 65535) given.charge

abbrev pub StoreGivenWhen : Type 0
StoreGivenWhen =
    (board : Board) (given : Sample) → refusal_of (storing board given).verdict ≡ first_of (row 12 (not (board_allowed board && is_sample given)) ∷ [])

-- "one that does not fit its width is refused (12) and none of the five changes"
abbrev pub StoreIsRefused : Type 0
StoreIsRefused =
    (board : Board) (given : Sample) → (board_allowed board && sample_fits given) ≡ false
    → storing board given ≡ record { board = board; verdict = Err paper.not_allowed }

abbrev pub StoreKeepsAllowed : Type 0
StoreKeepsAllowed = (board : Board) (given : Sample) → board_allowed board ≡ true → board_allowed (storing board given).board ≡ true

-- 3. A call keeps an allowed board allowed. (A table has its numbers in every value of the type, which `length` says.)
abbrev pub AnswerKeepsAllowed : Type 0
AnswerKeepsAllowed =
    (board : Board) (piece : List ℕ) (room : ℕ) → length board.core.table.numbers ≡ count → board_allowed board ≡ true
    → board_allowed (answering board piece room).answer.board ≡ true

-- 4. "On 1 to 10 the settings and readings stay", and under 11 and 12 too.
abbrev pub RefusalKeeps : Type 0
RefusalKeeps =
    (board : Board) (piece : List ℕ) (room : ℕ) (refusal : Refusal) → (answering board piece room).answer.outcome ≡ Outcome.Refused refusal
    → (answering board piece room).answer.board.core ≡ board.core

-- 5. The outcome, the bytes written and what the board holds afterwards belong together, and the other end reads in the bytes the frame that
-- was meant and no other: for every board, piece and room.
abbrev pub OutcomeAndReply : Type 0
OutcomeAndReply = (board : Board) (piece : List ℕ) (room : ℕ) → Replied board piece (answering board piece room)

-- 6. A whole frame, handed to an allowed board that is not inside one, is answered as such: all of it is taken and no frame is begun.
abbrev pub at_rest : Board → Type 0
at_rest board = board.held ≡ held_of outside

abbrev pub WholeIsAnswered : Type 0
WholeIsAnswered =
    (board : Board) (command : ℕ) (bytes : List ℕ) (room : ℕ) → board_allowed board ≡ true → at_rest board → Writable command bytes → frame_room ≤ room
    → answering board (frame command bytes) room
    ≡ decided_by board.held (frame_answer board.core command bytes) (length (frame command bytes))

-- what such a call comes to: this board, the held frame as it was, this outcome, this reply, and the whole request taken
abbrev pub comes_to : Board → Core → Outcome → List ℕ → List ℕ → Given Answered
comes_to board core outcome reply request =
    record {
      answer = record { board = record { core = core; held = board.held }; outcome = outcome; len = length reply; taken = length request };
      written = reply;
    }

-- 7. A good Get answers the number now held, and changes nothing.
abbrev pub GetAnswersHeld : Type 0
GetAnswersHeld =
    (board : Board) (k room : ℕ) → board_allowed board ≡ true → at_rest board → k < count → frame_room ≤ room
    → answering board (get_request (id_at k)) room
    ≡ comes_to board board.core Outcome.Answered (frame get_code (said (id_at k) paper.good_flag (little (width_at k) (number_at board.core.table k)))) (get_request (id_at k))

-- A Get of a read-only id answers the value that it holds, and changes nothing.
abbrev pub GetAnswersReadOnly : Type 0
GetAnswersReadOnly =
    (board : Board) (id : ℕ) (value : List ℕ) (room : ℕ) → board_allowed board ≡ true → at_rest board → frame_room ≤ room
    → Holds board.core.identity board.core.readings id value
    → answering board (get_request id) room ≡ comes_to board board.core Outcome.Answered (frame get_code (said id paper.good_flag value)) (get_request id)

-- 8. A good Set answers what it stored and stores what it answered, that number alone: its reply is the request itself.
abbrev pub SetStoresIt : Type 0
SetStoresIt =
    (board : Board) (k n room : ℕ) → board_allowed board ≡ true → at_rest board → k < count → frame_room ≤ room
    → allowed_for k n (partner_number board.core.table k) ≡ true
    → answering board (set_request k n) room ≡ comes_to board (with_table board.core (changed board.core.table k n)) Outcome.Answered (set_request k n) (set_request k n)

-- "Setting an equal number is accepted", and nothing changes.
abbrev pub SetOfEqualIsAccepted : Type 0
SetOfEqualIsAccepted =
    (board : Board) (k room : ℕ) → board_allowed board ≡ true → at_rest board → k < count → frame_room ≤ room
    → let request = set_request k (number_at board.core.table k) in
    answering board request room ≡ comes_to board board.core Outcome.Answered request request

-- 9. A Set of a number that is not allowed stores nothing, and answers flag 04 and the nearest allowed number.
abbrev pub SetRefusedNamesNearest : Type 0
SetRefusedNamesNearest =
    (board : Board) (k n room : ℕ) → board_allowed board ≡ true → at_rest board → k < count → frame_room ≤ room → n < 256 ^ width_at k
    → allowed_for k n (partner_number board.core.table k) ≡ false
    → (m : ℕ) × Nearest k n (partner_number board.core.table k) m
    × (answering board (set_request k n) room
    ≡ comes_to board board.core (Outcome.Refused paper.number_not_allowed) (frame set_code (said (id_at k) paper.parameter_flag (little (width_at k) m))) (set_request k n))

-- 10. "A state handed in is allowed when its settings, identity and readings are and its held frame is one that bytes could have left": a
-- board is allowed exactly when starts, readings and bytes give it. (Arrays have their lengths and numbers their widths in every value of
-- the type.)
pub data Given-by : Board → Type 0 where
  a_start : (product version : ℕ) (serial : List ℕ) (table : Table) → length table.numbers ≡ count → Given-by (starting product version serial table).board
  a_store : {board : Board} (given : Sample) → Given-by board → Given-by (storing board given).board
  a_call : {board : Board} (piece : List ℕ) (room : ℕ) → Given-by board → Given-by (answering board piece room).answer.board

pub record Typed (board : Board) : Type 0 where
  pub serial_long : length board.core.identity.serial.bytes ≡ most_serial
  pub numbers_long : length board.core.table.numbers ≡ count
  pub chars_long : length board.held.chars.bytes ≡ most_held
  pub voltage_fits : within (negsuc 0x7FFF) (pos 0x7FFF) board.core.readings.voltage ≡ true
  pub current_fits : within (negsuc 0x7FFF) (pos 0x7FFF) board.core.readings.current ≡ true
  pub fine_fits : within (negsuc 0x7FFFFFFF) (pos 0x7FFFFFFF) board.core.readings.fine ≡ true
  pub consumed_fits : within (negsuc 0x7FFFFFFF) (pos 0x7FFFFFFF) board.core.readings.consumed ≡ true
  pub charge_fits : within (pos 0) (pos 0xFFFF) (pos board.core.readings.charge) ≡ true

abbrev pub AllowedIsGiven : Type 0
AllowedIsGiven = (board : Board) → Typed board → (board_allowed board ≡ true) ↔ Given-by board

-- 11. Every refusal is "given exactly when" its condition holds and none before it does, and no other number is given: for every board,
-- piece and room.
abbrev pub RefusalGivenWhen : Type 0
RefusalGivenWhen = (board : Board) (piece : List ℕ) (room : ℕ) → number_of (answering board piece room).answer.outcome ≡ first_of (call_rows board piece room)

-- 11 and 12: "none; no byte taken or written"; "a state handed in comes back as it was, with counts and lengths 0".
abbrev pub nothing_done : Board → Refusal → Given Answered
nothing_done board refusal = record { answer = record { board = board; outcome = Outcome.Refused refusal; len = 0; taken = 0 }; written = [] }

pub record CallIsRefused : Type 0 where
  pub short : (board : Board) (piece : List ℕ) (room : ℕ) → room < 75 → answering board piece room ≡ nothing_done board paper.short_buffer
  pub stray : (board : Board) (piece : List ℕ) (room : ℕ) → 75 ≤ room → board_allowed board ≡ false → answering board piece room ≡ nothing_done board paper.not_allowed
