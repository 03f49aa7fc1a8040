-- `board::hearing::heard` meets its contract. Assumes nothing.
use mathlib.Core.Path.{◌≡◌, sym, ◌∙◌}
use Rattle.stream.specs.Calls.{hearing}
use Rattle.answers.specs.AsHeld.{decided_of}
use Rattle.board.proofs.Sending.{sendable, decided_is}
use Rattle.board.proofs.Heeding.{decision, heeded}
use Rattle.board.proofs.hearing.heard.Goals as goal
use Rattle.board.proofs.hearing.heard.Goals.{After-decided-outcome}

-- what is decided
decides : (c : After-decided-outcome) → c.decided-outcome.result ≡ decided_of (decision c.args.board.core (hearing c.args.board.held c.args.piece.now 35))
decides c = c.decided-outcome.ensures ∙ rw (c.hear-event.ensures.answered, c.hear-event.ensures.left)

pub decided-outcome-requires-clause-within : goal.decided-outcome-requires-clause-within
decided-outcome-requires-clause-within c = rw c.hear-event.ensures.answered (heeded _ _ c.requires.allowed).few

pub put-requires-clause-fits : goal.put-requires-clause-fits
unfolding decided_of
put-requires-clause-fits c = rw (decides (goal.at.put-requires-clause-fits c).After-decided-outcome) (sendable _ (heeded _ _ c.requires.allowed).fits)

pub returns : goal.returns
unfolding decided_of
returns c =
    let is = decides (goal.at.returns c).After-decided-outcome in
    let g = rw is at c.put.ensures in
    rw (is, c.hear-event.ensures.answered, sym (heeded c.args.board c.args.piece.now c.requires.allowed).answers)
    (decided_is (hearing c.args.board.held c.args.piece.now 35).answer.held (decision c.args.board.core (hearing c.args.board.held c.args.piece.now 35)) (hearing c.args.board.held c.args.piece.now 35).answer.taken g)
