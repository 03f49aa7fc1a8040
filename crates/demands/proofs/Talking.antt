-- A conversation with a board, call by call. Assumes nothing.
use mathlib.Core.Path.{◌≡◌, refl, sym, ap, ap₂, ◌∙◌}
use mathlib.Core.Bool.{Bool, true, false}
use mathlib.Core.List.{List, [], ◌∷◌, ◌++◌, append_assoc, append-nil}
use Prim.Native.Nat.{ℕ}
use native.Mathlib.Omega.{arith}
use borrow.Author.Tests.{ltb-true, ltb-false}
use lib.ListN.{take}
use lib.Dec.{ltb}
use Rattle.laws.specs.Promise.{Given}
use Rattle.laws.specs.Cutting.{Step, Offer, calls}
use Rattle.laws.proofs.Cutting as cutting
use Rattle.wire.specs.Parsing.{Ended}
use Rattle.stream.specs.Stream.{Unfinished, frames_from, left_from, taken}
use Rattle.stream.specs.Calls.{held_of}
use Rattle.stream.specs.declared.Held.{Held}
use Rattle.stream.proofs.Streams.{left_append, frames_append, taken_within}
use Rattle.stream.proofs.Reached.{kept, unfinished_kept, kept_frames, kept_left}
use Rattle.answers.specs.declared.Core.{Core}
use Rattle.board.specs.Parts.{board_allowed}
use Rattle.board.specs.Calls.{deciding, decided_by, heard_by, answering}
use Rattle.board.specs.declared.Board.{Board}
use Rattle.board.specs.declared.Answered.{Answered}
use Rattle.board.proofs.Pieces.{answering_short, answering_stray, answering_heard}
use Rattle.demands.specs.Talk.{Said, said_in, after_one, after_all, said_to, said_to_all, board_at}
use Rattle.demands.proofs.Making.{AtMostOne, none_ended, one_ended, one_at_most}

-- what a board is and holds, and where the reading of its line is
pub record Line : Type 0 where
  pub core : Core
  pub reading : Unfinished

abbrev pub state_of : Line → Board
state_of l = board_at l.core l.reading

abbrev pub says : Line → List ℕ → List Said
says l bytes = said_to_all l.core (frames_from l.reading bytes)

abbrev pub leaves : Line → List ℕ → Line
leaves l bytes = record { core = after_all l.core (frames_from l.reading bytes); reading = left_from l.reading bytes }

abbrev pub step_of : Given Answered → Step Board Said
step_of given = record { state = given.answer.board; events = said_in given; taken = given.answer.taken }

abbrev pub call : Board → ℕ → List ℕ → Step Board Said
call board room piece = step_of (answering board piece room)

-- a call by the frames that it ended
one_step : (core : Core) (held : Held) (fs : List Ended) (count : ℕ) → AtMostOne fs
    → step_of (decided_by held (deciding core fs) count) ≡ record { state = record { core = after_all core fs; held = held }; events = said_to_all core fs; taken = count }
unfolding decided_by deciding said_in
one_step core held fs count none_ended = refl
one_step core held fs count (one_ended f) =
    ap (λ (e : List Said). record { state = record { core = after_one core f; held = held }; events = e; taken = count }) (sym (append-nil (said_to core f)))

-- frames in two rows
after_append : (core : Core) (fs gs : List Ended) → after_all core (fs ++ gs) ≡ after_all (after_all core fs) gs
after_append core [] gs = refl
after_append core (f ∷ fs) gs = after_append (after_one core f) fs gs

said_append : (core : Core) (fs gs : List Ended) → said_to_all core (fs ++ gs) ≡ said_to_all core fs ++ said_to_all (after_all core fs) gs
said_append core [] gs = refl
said_append core (f ∷ fs) gs = ap (λ (l : List Said). said_to core f ++ l) (said_append (after_one core f) fs gs) ∙ sym (append_assoc (said_to core f) (said_to_all (after_one core f) fs) (said_to_all (after_all (after_one core f) fs) gs))

-- a piece that is heard
abbrev takes : Line → List ℕ → ℕ
takes l piece = taken (kept l.reading) piece

heard_is : (l : Line) (piece : List ℕ) → heard_by (state_of l) piece
    ≡ decided_by (held_of (left_from l.reading (take (takes l piece) piece))) (deciding l.core (frames_from l.reading (take (takes l piece) piece))) (takes l piece)
unfolding heard_by
heard_is l piece =
    rw (unfinished_kept l.reading, kept_frames l.reading (take (takes l piece) piece), kept_left l.reading (take (takes l piece) piece))

heard_reads : (l : Line) (piece : List ℕ) → cutting.Reads call state_of says leaves l piece (step_of (heard_by (state_of l) piece))
heard_reads l piece =
    let bytes : List ℕ = take (takes l piece) piece in
    let one : AtMostOne (frames_from l.reading bytes) = rw (kept_frames l.reading bytes) at (one_at_most (kept l.reading) piece) in
    rw (heard_is l piece, one_step l.core (held_of (left_from l.reading bytes)) (frames_from l.reading bytes) (takes l piece) one)
    (record { within = taken_within (kept l.reading) piece; state_is = refl; events_are = refl })

-- One call, on a board whose line is anywhere, with any room: what it took is read as one row.
nothing_taken : (l : Line) (piece : List ℕ) → cutting.Reads call state_of says leaves l piece (record { state = state_of l; events = []; taken = 0 })
nothing_taken l piece = record { within = omega arith; state_is = refl; events_are = refl }

pub call_reads : (l : Line) (room : ℕ) (piece : List ℕ) → cutting.Reads call state_of says leaves l piece (call (state_of l) room piece)
unfolding said_in
call_reads l room piece = by (ltb room 75) (board_allowed (state_of l)) refl refl
  where
    by : (s t : Bool) → ltb room 75 ≡ s → board_allowed (state_of l) ≡ t → cutting.Reads call state_of says leaves l piece (call (state_of l) room piece)
    by true t e f = rw (answering_short (state_of l) piece room (ltb-true _ _ e)) (nothing_taken l piece)
    by false false e f = rw (answering_stray (state_of l) piece room (ltb-false _ _ e) f) (nothing_taken l piece)
    by false true e f = rw (answering_heard (state_of l) piece room (ltb-false _ _ e) f) (heard_reads l piece)

-- so for any row of calls
says_nil : (l : Line) → says l [] ≡ []
says_nil l = refl

leaves_nil : (l : Line) → leaves l [] ≡ l
leaves_nil l = refl

says_append : (l : Line) (xs ys : List ℕ) → says l (xs ++ ys) ≡ says l xs ++ says (leaves l xs) ys
says_append l xs ys = ap (said_to_all l.core) (frames_append l.reading xs ys) ∙ said_append l.core (frames_from l.reading xs) (frames_from (left_from l.reading xs) ys)

leaves_append : (l : Line) (xs ys : List ℕ) → leaves l (xs ++ ys) ≡ leaves (leaves l xs) ys
leaves_append l xs ys =
    ap₂ (λ (c : Core) (u : Unfinished). record { core = c; reading = u })
    (ap (after_all l.core) (frames_append l.reading xs ys) ∙ after_append l.core (frames_from l.reading xs) (frames_from (left_from l.reading xs) ys))
    (left_append l.reading xs ys)

pub any_cutting : (l : Line) (bytes : List ℕ) (offers : List (Offer ℕ)) → cutting.Reads call state_of says leaves l bytes (calls call (state_of l) bytes offers)
any_cutting = cutting.any_cutting call state_of says leaves says_nil leaves_nil says_append leaves_append call_reads
