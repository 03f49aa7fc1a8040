-- What a call keeps: an allowed board stays allowed, and a refusal leaves settings and readings as they were. Assumes nothing.
use mathlib.Core.Path.{◌≡◌, refl}
use mathlib.Core.Bool.{Bool, true, false}
use mathlib.Core.List.{List, [], ◌∷◌}
use Prim.Native.Nat.{ℕ, ◌≤◌, ◌<◌}
use borrow.Author.Tests.{ltb-true, ltb-false}
use lib.ListN.{length, take}
use lib.Dec.{ltb}
use Rattle.laws.specs.Promise.{Given}
use Rattle.laws.proofs.Bools.{both}
use Rattle.paper.specs.declared.Refusal.{Refusal}
use Rattle.wire.specs.Parsing.{Ended, good, refused}
use Rattle.stream.specs.Stream.{taken}
use Rattle.stream.specs.Calls as stream
use Rattle.stream.proofs.Reached.{heard_allowed}
use Rattle.settings.specs.Columns.{count}
use Rattle.answers.specs.Answers.{core_allowed}
use Rattle.answers.specs.declared.Core.{Core}
use Rattle.answers.specs.declared.Outcome.{Outcome}
use Rattle.answers.proofs.Theorems.{answer_makes_it, identity_stays_it, makes_keeps_allowed, refused_stays_it}
use Rattle.answers.proofs.Deciding.{identity_allowed_lem, table_allowed}
use Rattle.board.specs.Parts.{board_allowed}
use Rattle.board.specs.Calls.{ended_in, deciding, decided_by, heard_by, answering}
use Rattle.board.specs.Laws.{AnswerKeepsAllowed, RefusalKeeps}
use Rattle.board.specs.declared.Board.{Board}
use Rattle.board.specs.declared.Answered.{Answered}
use Rattle.board.proofs.Pieces.{core_allowed_lem, held_allowed, answering_short, answering_stray, answering_heard}

-- the three cases of a call
pub cases : (board : Board) (piece : List ℕ) (room : ℕ) (p : Given Answered → Type 0)
    → (room < 75 → p (answering board piece room)) → (75 ≤ room → board_allowed board ≡ false → p (answering board piece room))
    → (75 ≤ room → board_allowed board ≡ true → p (answering board piece room)) → p (answering board piece room)
cases board piece room p short stray heard = by (ltb room 75) (board_allowed board) refl refl
  where
    by : (s a : Bool) → ltb room 75 ≡ s → board_allowed board ≡ a → p (answering board piece room)
    by true a e f = short (ltb-true _ _ e)
    by false false e f = stray (ltb-false _ _ e) f
    by false true e f = heard (ltb-false _ _ e) f

-- what is decided
module _ (core : Core) (long : length core.table.numbers ≡ count) where
  decided_allowed : core_allowed core ≡ true → (fs : List Ended) → core_allowed (deciding core fs).core ≡ true
  unfolding deciding core_allowed
  decided_allowed ok [] = ok
  decided_allowed ok (good command bytes ∷ rest) =
      rw (identity_stays_it core command bytes, answer_makes_it core command bytes)
      (both _ _ (identity_allowed_lem core ok) ((makes_keeps_allowed core.table command bytes long).0 (table_allowed core ok)))
  decided_allowed ok (refused refusal ∷ rest) = ok

  pub decided_count : (fs : List Ended) → length (deciding core fs).core.table.numbers ≡ count
  unfolding deciding
  decided_count [] = long
  decided_count (good command bytes ∷ rest) = rw (answer_makes_it core command bytes) (makes_keeps_allowed core.table command bytes long).1
  decided_count (refused refusal ∷ rest) = long

heard_board_allowed : (board : Board) (piece : List ℕ) → length board.core.table.numbers ≡ count → board_allowed board ≡ true
    → board_allowed (heard_by board piece).answer.board ≡ true
unfolding board_allowed heard_by decided_by
heard_board_allowed board piece long ok =
    let u = stream.unfinished board.held in
    both _ _ (decided_allowed board.core long (core_allowed_lem board ok) (ended_in board.held piece))
    (heard_allowed board.held (held_allowed board ok) (take (taken u piece) piece))

pub answer_allowed : AnswerKeepsAllowed
answer_allowed board piece room long ok =
    cases board piece room (λ (g : Given Answered). board_allowed g.answer.board ≡ true)
    (λ h. rw (answering_short board piece room h) ok)
    (λ h e. rw (answering_stray board piece room h e) ok)
    (λ h e. rw (answering_heard board piece room h e) (heard_board_allowed board piece long ok))

-- a refusal
decided_stays : (core : Core) (fs : List Ended) (refusal : Refusal) → (deciding core fs).outcome ≡ Outcome.Refused refusal → (deciding core fs).core ≡ core
unfolding deciding
decided_stays core [] refusal e = refl
decided_stays core (good command bytes ∷ rest) refusal e = refused_stays_it core command bytes refusal e
decided_stays core (refused fault ∷ rest) refusal e = refl

heard_keeps : (board : Board) (piece : List ℕ) (refusal : Refusal) → (heard_by board piece).answer.outcome ≡ Outcome.Refused refusal
    → (heard_by board piece).answer.board.core ≡ board.core
unfolding heard_by decided_by
heard_keeps board piece = decided_stays board.core (ended_in board.held piece)

pub refusal_keeps : RefusalKeeps
refusal_keeps board piece room refusal =
    cases board piece room (λ (g : Given Answered). g.answer.outcome ≡ Outcome.Refused refusal → g.answer.board.core ≡ board.core)
    (λ h. rw (answering_short board piece room h) (λ e. refl))
    (λ h a. rw (answering_stray board piece room h a) (λ e. refl))
    (λ h a. rw (answering_heard board piece room h a) (heard_keeps board piece refusal))
