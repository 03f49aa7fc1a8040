-- What each public call answers, for every input. Assumes nothing.
use Rattle.std.specs.Prelude.{ℕ, zero, Ok, Err, cond, not, ◌&&◌, List, [], ◌∷◌, length, take, ltb}
use Rattle.laws.specs.Promise.{Given}
use Rattle.paper.specs.Numbers.{frame_room, short_buffer, not_allowed}
use Rattle.wire.specs.Frame.{frame}
use Rattle.wire.specs.Parsing.{Ended, good, refused}
use Rattle.stream.specs.Stream.{frames_from, left_from, taken}
use Rattle.stream.specs.Calls.{held_of, unfinished}
use Rattle.stream.specs.declared.Held.{Held}
use Rattle.tables.specs.Rules.{factory, allowed}
use Rattle.tables.specs.declared.Table.{Table}
use Rattle.who.specs.Parts.{serial_fits, identity_of, no_identity}
use Rattle.answers.specs.Answers.{with_readings, Sent, silent, sent, error, Decision, staying, frame_answer}
use Rattle.answers.specs.declared.Core.{Core}
use Rattle.answers.specs.declared.Outcome.{Outcome}
use Rattle.paper.specs.declared.Refusal.{Refusal}
use Rattle.board.specs.Parts.{fresh_board, sample_fits, readings_of, board_allowed}
use Rattle.board.specs.declared.Board.{Board}
use Rattle.board.specs.declared.Sample.{Sample}
use Rattle.board.specs.declared.Handed.{Handed}
use Rattle.board.specs.declared.Answered.{Answered}

-- "A refused start (12) returns product and version 0, an empty serial and the factory table."
unfoldable pub refused_start : Handed
refused_start = record { board = fresh_board no_identity factory; verdict = Err not_allowed }

unfoldable pub starting : ℕ → ℕ → List ℕ → Table → Handed
starting product version serial table =
    cond (serial_fits serial && allowed table)
    (record { board = fresh_board (identity_of product version serial) table; verdict = Ok tt })
    refused_start

-- "The board program stores readings as whole numbers; one that does not fit its width is refused (12) and none of the five changes."
unfoldable pub storing : Board → Sample → Handed
storing board given =
    cond (board_allowed board && sample_fits given)
    (record { board = record { core = with_readings board.core (readings_of given); held = board.held }; verdict = Ok tt })
    (record { board = board; verdict = Err not_allowed })

-- The call on a piece of input. "The error frame is the fixed nine bytes `:4AAAAFD` and newline."
abbrev pub error_frame : List ℕ
error_frame = 0x3A ∷ 0x34 ∷ 0x41 ∷ 0x41 ∷ 0x41 ∷ 0x41 ∷ 0x46 ∷ 0x44 ∷ 0x0A ∷ []

-- the bytes of a reply
abbrev pub reply_bytes : Sent → List ℕ
reply_bytes silent = []
reply_bytes (sent command bytes) = frame command bytes
reply_bytes error = error_frame

-- the frames that end in a piece: one at most, as a call takes no byte after it
abbrev pub ended_in : Held → List ℕ → List Ended
ended_in held piece = let u = unfinished held in frames_from u (take (taken u piece) piece)

-- what a board decides about the frame that ended, if one did; refusals 1 to 4 get the error frame
unfoldable pub deciding : Core → List Ended → Decision
deciding core [] = staying core Outcome.Nothing silent
deciding core (good command bytes ∷ rest) = frame_answer core command bytes
deciding core (refused refusal ∷ rest) = staying core (Outcome.Refused refusal) error

-- what a decision comes to with the frame that is now held: the board as decided, and the reply
unfoldable pub decided_by : Held → Decision → ℕ → Given Answered
decided_by held d count =
    record {
      answer = record { board = record { core = d.core; held = held }; outcome = d.outcome; len = length (reply_bytes d.reply); taken = count };
      written = reply_bytes d.reply;
    }

-- "A call on the board takes a piece of input, stops after the first byte that ends a frame, or at the piece's end, and returns the
-- advanced board, the outcome, the reply's length and how many bytes it took."
unfoldable pub heard_by : Board → List ℕ → Given Answered
heard_by board piece =
    let u = unfinished board.held in
    decided_by (held_of (left_from u (take (taken u piece) piece))) (deciding board.core (ended_in board.held piece)) (taken u piece)

-- "Under 11 and 12 a state handed in comes back as it was, with counts and lengths 0."
abbrev pub unanswered : Board → Refusal → Given Answered
unanswered board refusal =
    record { answer = record { board = board; outcome = Outcome.Refused refusal; len = zero; taken = zero }; written = [] }

-- "A reply buffer needs 75 bytes, always, also where no reply comes."
unfoldable pub answering : Board → List ℕ → ℕ → Given Answered
answering board piece room =
    cond (ltb room frame_room) (unanswered board short_buffer)
    (cond (not (board_allowed board)) (unanswered board not_allowed)
    (heard_by board piece))
