-- What each public call answers, for every input. Assumes nothing.
use Rattle.std.specs.Prelude.{ℕ, zero, suc, ◌-◌, ◌≡◌, Some, None, Ok, Err, List, [], ◌∷◌, ◌++◌, length, take, drop}
use Rattle.laws.specs.Promise.{overlaid}
use Rattle.laws.specs.Cutting.{Offer, calls}
use Rattle.wire.specs.Parsing.{Ended, good, refused}
use Rattle.stream.specs.Laws.{hears}
use Rattle.stream.specs.Answers.{Event}
use Rattle.stream.specs.declared.Held.{Held}
use Rattle.tables.specs.Rules.{factory}
use Rattle.board.specs.Calls.{starting, storing, answering}
use Rattle.board.specs.declared.Board.{Board}
use Rattle.board.specs.declared.Sample.{Sample}

-- The stream. A call for each size, handed that many of the bytes not taken yet or what is left of them, and lent the same room.
abbrev pub offers : List ℕ → ℕ → List (Offer ℕ)
offers [] room = []
offers (size ∷ more) room = record { count = size; with = room } ∷ offers more room

-- the frames that these calls end, in order
unfoldable pub streaming : Held → List ℕ → List ℕ → ℕ → List Ended
streaming held bytes sizes room = (calls hears held bytes (offers sizes room)).events

-- how many of them were read well
abbrev pub good_ones : List Ended → ℕ
good_ones [] = zero
good_ones (good command bytes ∷ more) = suc (good_ones more)
good_ones (refused refusal ∷ more) = good_ones more

-- and in what happened in one call
abbrev pub good_in : Event → ℕ
good_in (Ok None) = 0
good_in (Ok (Some frame)) = 1
good_in (Err refusal) = 0

-- a lent buffer with their data laid over it, one after the other
abbrev pub laid_over : List Ended → List ℕ → List ℕ
laid_over [] buffer = buffer
laid_over (good command bytes ∷ more) buffer = laid_over more (overlaid bytes buffer)
laid_over (refused refusal ∷ more) buffer = laid_over more buffer

-- the answer, and the buffer as it is afterwards
pub record Streamed (frames : List Ended) (buffer : List ℕ) (r : ℕ) (afterwards : List ℕ) : Type 0 where
  pub counted : r ≡ good_ones frames
  pub left : afterwards ≡ laid_over frames buffer

-- The board. A factory board with its first readings; a refused start or store leaves what document 01 says, and the bench goes on with it.
unfoldable pub begun_board : ℕ → ℕ → List ℕ → Sample → Board
begun_board product version serial given = (storing (starting product version serial factory).board given).board

-- what a row of calls writes, end to end: one for each size, lent the room that the earlier ones left
unfoldable pub running : Board → List ℕ → List ℕ → ℕ → List ℕ
running board bytes [] room = []
running board bytes (size ∷ more) room =
    let here = answering board (take size bytes) room in
    here.written ++ running here.answer.board (drop here.answer.taken bytes) more (room - length here.written)
