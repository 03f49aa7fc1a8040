-- What is decided about an event of the stream, what is sent of a decision as the program holds it, and what a piece comes to by the held frame.
-- Assumes nothing.
use Rattle.std.specs.Prelude.{ℕ, ◌≤◌, cond, Some, None, Ok, Err, List, [], length, take}
use Rattle.laws.specs.Promise.{Given}
use Rattle.paper.specs.Numbers.{most_nibble, most_data, not_allowed}
use Rattle.paper.specs.declared.Refusal.{Refusal}
use Rattle.wire.specs.Frame.{frame}
use Rattle.stream.specs.Answers.{Event}
use Rattle.stream.specs.Calls as stream
use Rattle.spans.specs.Few.{those}
use Rattle.answers.specs.Answers.{Sent, silent, error, Decision, staying, frame_answer}
use Rattle.answers.specs.declared.Core.{Core}
use Rattle.answers.specs.declared.Outcome.{Outcome}
use Rattle.answers.specs.declared.Sends.{Sends}
use Rattle.board.specs.Calls.{error_frame, heard_by, unanswered}
use Rattle.board.specs.declared.Board.{Board}
use Rattle.board.specs.declared.Answered.{Answered}

-- What is sent for a refusal of the stream: under 12, which is the call's and no frame's, nothing. (11 is the call's too, and is given to no board,
-- which always lends the stream 35 bytes; it has no line here.)
abbrev pub fault_reply : Refusal → Sent
fault_reply Refusal.NotAllowed = silent
fault_reply refusal = error

-- what a board decides about an event; a frame's data are at the front of some bytes
abbrev pub heeding : Core → Event → List ℕ → Decision
heeding core (Ok (Some frame)) bytes = frame_answer core frame.command (take frame.len bytes)
heeding core (Ok None) bytes = staying core Outcome.Nothing silent
heeding core (Err refusal) bytes = staying core (Outcome.Refused refusal) (fault_reply refusal)

-- what is sent, which the frame writer takes
abbrev pub sent_bytes : Sends → List ℕ
sent_bytes Sends.Nothing = []
sent_bytes (Sends.Frame message) = frame message.command (those message.bytes)
sent_bytes Sends.Error = error_frame

abbrev pub Sendable : Sends → Type 0
Sendable Sends.Nothing = Unit {0}
Sendable (Sends.Frame message) = (message.command ≤ most_nibble) × (message.bytes.len ≤ most_data)
Sendable Sends.Error = Unit {0}

abbrev pub whole : List ℕ → Given ℕ
whole bytes = record { answer = length bytes; written = bytes }

-- A piece of input, where identity and settings are allowed.
unfoldable pub heard_if_held : Board → List ℕ → Given Answered
heard_if_held board piece = cond (stream.allowed board.held) (heard_by board piece) (unanswered board not_allowed)
