-- "Given exactly when", and what is sent and changes: document 01, "Numbers of refusal", of the call on a piece of input. Assumes nothing.
use Rattle.std.specs.Prelude.{ℕ, ◌≤◌, ◌≡◌, Bool, true, false, not, cond, List, [], ◌∷◌, ◌++◌, length, take, get_or, ltb}
use Rattle.laws.specs.Promise.{Given}
use Rattle.paper.specs.declared.Refusal.{Refusal}
use Rattle.paper.specs.Numbers as paper
use Rattle.paper.specs.Numbers.{newline, frame_room}
use Rattle.wire.specs.Frame.{frame}
use Rattle.wire.specs.Parsing.{Ended, good, command_of, data_of, body_says}
use Rattle.laws.specs.Refusals.{Row, row}
use Rattle.wire.specs.Refusals.{faults}
use Rattle.stream.specs.Stream.{Unfinished, outside, inside, frames_of, left_from, left_by, first_end}
use Rattle.stream.specs.Calls.{unfinished}
use Rattle.stream.specs.declared.Held.{Held}
use Rattle.answers.specs.Answers.{Sent, silent, sent, error}
use Rattle.answers.specs.Refusals.{rows, Told}
use Rattle.answers.specs.declared.Core.{Core}
use Rattle.answers.specs.declared.Outcome.{Outcome}
use Rattle.board.specs.Parts.{board_allowed}
use Rattle.board.specs.declared.Board.{Board}
use Rattle.board.specs.declared.Answered.{Answered}

-- the frame that ended in a piece: whether one did, the characters since its colon, and the byte that ended it
unfoldable pub has_end : Held → List ℕ → Bool
has_end held piece = ltb (first_end (unfinished held) piece) (length piece)

abbrev pub since : Unfinished → List ℕ
since outside = []
since (inside chars) = chars

unfoldable pub chars_of : Held → List ℕ → List ℕ
chars_of held piece = let u = unfinished held in since (left_from u (take (first_end u piece) piece))

unfoldable pub ending_of : Held → List ℕ → ℕ
ending_of held piece = get_or piece (first_end (unfinished held) piece) 0

-- "The order is 11, 12, then 1 to 10 as listed." 1 to 10 are of a frame that ended
abbrev pub call_rows : Board → List ℕ → ℕ → List Row
call_rows board piece room =
    let chars = chars_of board.held piece in
    row 11 (ltb room frame_room)
    ∷ row 12 (not (board_allowed board))
    ∷ cond (has_end board.held piece) (faults chars (ending_of board.held piece) ++ rows board.core (command_of chars) (data_of chars)) []

-- The outcome, the reply and what the board holds afterwards belong together.
pub data Says (board : Board) (piece : List ℕ) : Outcome → Sent → Core → Type 0 where
  -- 11 and 12: "none"
  row_11 : Says board piece (Outcome.Refused paper.short_buffer) silent board.core
  row_12 : Says board piece (Outcome.Refused paper.not_allowed) silent board.core
  no_frame : has_end board.held piece ≡ false → Says board piece Outcome.Nothing silent board.core
  -- 1 to 4: "error frame"
  rows_1_to_4 : (refusal : Refusal) → 1 ≤ paper.number_of refusal → paper.number_of refusal ≤ 4 → has_end board.held piece ≡ true
      → Says board piece (Outcome.Refused refusal) error board.core
  -- the others: by the command and the data of the frame that a newline ended and 1 to 4 let pass
  a_frame : {outcome : Outcome} {reply : Sent} {core : Core} (command : ℕ) (bytes : List ℕ) → has_end board.held piece ≡ true
      → ending_of board.held piece ≡ newline → body_says (chars_of board.held piece) ≡ good command bytes
      → Told board.core command bytes outcome reply core → Says board piece outcome reply core

-- the frame that is meant by a reply
abbrev pub meant : Sent → List Ended
meant silent = []
meant (sent command bytes) = good command bytes ∷ []
meant error = good paper.error_code (0xAA ∷ 0xAA ∷ []) ∷ []

-- and its bytes: none, the frame, or "the fixed nine bytes `:4AAAAFD` and newline"
abbrev pub bytes_meant : Sent → List ℕ
bytes_meant silent = []
bytes_meant (sent command bytes) = frame command bytes
bytes_meant error = 0x3A ∷ 0x34 ∷ 0x41 ∷ 0x41 ∷ 0x41 ∷ 0x41 ∷ 0x46 ∷ 0x44 ∷ 0x0A ∷ []

-- read at the other end: at most 75, that frame and no other, and none begun
pub record Readable (reply : Sent) (bytes : List ℕ) : Type 0 where
  pub short : length bytes ≤ frame_room
  pub frames_are : frames_of bytes ≡ meant reply
  pub none_left : left_by bytes ≡ outside

pub record Replied (board : Board) (piece : List ℕ) (given : Given Answered) : Type 0 where
  pub reply : Sent
  pub says : Says board piece given.answer.outcome reply given.answer.board.core
  pub written_is : given.written ≡ bytes_meant reply
  pub len_is : given.answer.len ≡ length given.written
  pub readable : Readable reply given.written
