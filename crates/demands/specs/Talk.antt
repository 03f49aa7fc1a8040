-- A conversation with a board: readings are stored, and calls are made on the bytes of its serial line, what one call did not take being handed on
-- before anything else. Assumes nothing.
use Rattle.std.specs.Prelude.{ℕ, zero, ◌+◌, Bool, true, false, cond, ◌||◌, List, [], ◌∷◌, ◌++◌, take, drop, eqb}
use Rattle.paper.specs.Numbers.{short_buffer, not_allowed, number_of}
use Rattle.laws.specs.Promise.{Given}
use Rattle.answers.specs.declared.Core.{Core}
use Rattle.answers.specs.declared.Outcome.{Outcome}
use Rattle.wire.specs.Parsing.{Ended}
use Rattle.stream.specs.Stream.{Unfinished, frames_from}
use Rattle.stream.specs.Calls.{held_of, unfinished}
use Rattle.board.specs.Calls.{reply_bytes, deciding, storing, answering}
use Rattle.board.specs.declared.Board.{Board}
use Rattle.board.specs.declared.Sample.{Sample}
use Rattle.board.specs.declared.Answered.{Answered}

-- a store of readings, or a call on this many of the bytes that are not taken yet, with a lent buffer of some room; any number of either may
-- be 0, and any room too short
pub data Deed : Type 0 where
  stores : Sample → Deed
  calls : ℕ → ℕ → Deed

-- calls and nothing between
abbrev pub is_calls : List Deed → Bool
is_calls [] = true
is_calls (stores given ∷ more) = false
is_calls (calls count room ∷ more) = is_calls more

-- what a board said of a frame that ended: the outcome and the reply's bytes
pub record Said : Type 0 where
  pub outcome : Outcome
  pub reply : List ℕ

-- a call says nothing of a frame where none ended, and where the call itself was refused (11 and 12)
abbrev pub of_frame : Said → Outcome → List Said
of_frame s Outcome.Nothing = []
of_frame s Outcome.Answered = s ∷ []
of_frame s Outcome.Restarted = s ∷ []
of_frame s Outcome.Ignored = s ∷ []
of_frame s (Outcome.Refused why) = cond (eqb (number_of why) (number_of short_buffer) || eqb (number_of why) (number_of not_allowed)) [] (s ∷ [])

unfoldable pub said_in : Given Answered → List Said
said_in given = of_frame (record { outcome = given.answer.outcome; reply = given.written }) given.answer.outcome

-- what a conversation comes to: the board afterwards, the frames that ended in order, what was said of them, and how many bytes were taken
pub record Talk : Type 0 where
  pub board : Board
  pub frames : List Ended
  pub said : List Said
  pub taken : ℕ

-- the frames that end in the bytes a call takes, read on from the frame that the board holds
abbrev pub frames_at : Board → List ℕ → List Ended
frames_at board bytes = frames_from (unfinished board.held) bytes

-- A way of answering: states of its own, the one that a started board begins with, the board that is seen in a state, what is answered to a
-- piece of input with some room lent, and the states after a call and after a store. A sham may keep a memory in them.
pub record Way (S : Type 0) : Type 0 where
  pub begins : Board → S
  pub sees : S → Board
  pub answers : S → List ℕ → ℕ → Given Answered
  pub next : S → List ℕ → ℕ → S
  pub keeps : S → Sample → S

-- with no memory but the board itself
abbrev pub plainly : (Board → List ℕ → ℕ → Given Answered) → Way Board
plainly answer =
    record {
      begins = λ board. board;
      sees = λ board. board;
      answers = answer;
      next = λ board piece room. (answer board piece room).answer.board;
      keeps = λ board given. (storing board given).board;
    }

-- a conversation by any way of answering
abbrev pub talk_by : {S : Type 0} → Way S → S → List ℕ → List Deed → Talk
talk_by way s bytes [] = record { board = way.sees s; frames = []; said = []; taken = zero }
talk_by way s bytes (stores given ∷ more) = talk_by way (way.keeps s given) bytes more
talk_by way s bytes (calls count room ∷ more) =
    let here = way.answers s (take count bytes) room in
    let later = talk_by way (way.next s (take count bytes) room) (drop here.answer.taken bytes) more in
    record {
      board = later.board;
      frames = frames_at (way.sees s) (take here.answer.taken bytes) ++ later.frames;
      said = said_in here ++ later.said;
      taken = here.answer.taken + later.taken;
    }

-- and by the board's own call
abbrev pub talk : Board → List ℕ → List Deed → Talk
talk = talk_by (plainly answering)

-- The same with no calls and no bytes in it: what is said of a row of frames, one after the other, and what the board is and holds afterwards.
abbrev pub after_one : Core → Ended → Core
after_one core f = (deciding core (f ∷ [])).core

abbrev pub after_all : Core → List Ended → Core
after_all core [] = core
after_all core (f ∷ more) = after_all (after_one core f) more

abbrev pub said_to : Core → Ended → List Said
said_to core f = let d = deciding core (f ∷ []) in of_frame (record { outcome = d.outcome; reply = reply_bytes d.reply }) d.outcome

abbrev pub said_to_all : Core → List Ended → List Said
said_to_all core [] = []
said_to_all core (f ∷ more) = said_to core f ++ said_to_all (after_one core f) more

-- a board that is outside a frame, or inside one with some characters
abbrev pub board_at : Core → Unfinished → Board
board_at core u = record { core = core; held = held_of u }
