-- A call by its refusals. Assumes nothing.
use mathlib.Core.Path.{◌≡◌, refl}
use mathlib.Core.Bool.{Bool, true, false}
use mathlib.Core.List.{List}
use Prim.Native.Nat.{ℕ, ◌≤◌, ◌<◌}
use borrow.Author.Tests.{lt-ltb, le-ltb}
use Rattle.laws.proofs.Bools.{and_left, and_right}
use Rattle.paper.specs.Numbers.{short_buffer, not_allowed}
use Rattle.stream.specs.Calls as stream
use Rattle.answers.specs.Answers.{core_allowed}
use Rattle.board.specs.Parts.{board_allowed}
use Rattle.board.specs.Calls.{heard_by, answering, unanswered}
use Rattle.board.specs.AsHeld as held
use Rattle.board.specs.declared.Board.{Board}

-- the parts of an allowed board
module _ (board : Board) (ok : board_allowed board ≡ true) where
  pub core_allowed_lem : core_allowed board.core ≡ true
  unfolding board_allowed
  core_allowed_lem = and_left (core_allowed board.core) _ ok

  pub held_allowed : stream.allowed board.held ≡ true
  unfolding board_allowed
  held_allowed = and_right (core_allowed board.core) _ ok

-- the call, by its refusals
module _ (board : Board) (piece : List ℕ) (room : ℕ) where
  pub answering_short : room < 75 → answering board piece room ≡ unanswered board short_buffer
  unfolding answering
  answering_short h = rw (lt-ltb room 75 h)

  pub answering_stray : 75 ≤ room → board_allowed board ≡ false → answering board piece room ≡ unanswered board not_allowed
  unfolding answering
  answering_stray h e = rw (le-ltb room 75 h, e)

  pub answering_heard : 75 ≤ room → board_allowed board ≡ true → answering board piece room ≡ heard_by board piece
  unfolding answering
  answering_heard h e = rw (le-ltb room 75 h, e)

  pub answering_unfit : 75 ≤ room → core_allowed board.core ≡ false → answering board piece room ≡ unanswered board not_allowed
  unfolding board_allowed
  answering_unfit h e = answering_stray h (rw e)

  pub answering_fit : 75 ≤ room → core_allowed board.core ≡ true → answering board piece room ≡ held.heard_if_held board piece
  unfolding board_allowed held.heard_if_held
  answering_fit h e = by (stream.allowed board.held) refl
    where
      by : (t : Bool) → stream.allowed board.held ≡ t → answering board piece room ≡ held.heard_if_held board piece
      by true p = rw p (answering_heard h (rw (e, p)))
      by false p = rw p (answering_stray h (rw (e, p)))
