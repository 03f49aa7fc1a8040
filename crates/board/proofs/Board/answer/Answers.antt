-- `board::Board::answer` meets its contract. Assumes nothing.
use mathlib.Core.Path.{sym, ◌∙◌}
use Rattle.laws.proofs.Promise.{gives_none}
use Rattle.board.proofs.Pieces.{answering_short, answering_unfit, answering_fit}
use Rattle.board.proofs.Board.answer.Goals as goal

pub returns-then-reply-lt-FRAME_ROOM : goal.returns-then-reply-lt-FRAME_ROOM
returns-then-reply-lt-FRAME_ROOM c = rw c.unanswered.ensures (gives_none _ (answering_short _ _ _ c.if-reply-lt-FRAME_ROOM.true))

pub returns-then-not-is_allowed : goal.returns-then-not-is_allowed
returns-then-not-is_allowed c = rw c.unanswered-then-not-is_allowed.ensures (gives_none _ (answering_unfit _ _ _ c.if-reply-lt-FRAME_ROOM.false (sym c.is_allowed.ensures ∙ c.if-not-is_allowed.true)))

pub returns : goal.returns
returns c = rw (answering_fit c.args.self _ _ c.if-reply-lt-FRAME_ROOM.false (sym c.is_allowed.ensures ∙ c.if-not-is_allowed.false)) c.heard.ensures
