-- A conversation of calls alone: any cutting, two cuttings, an empty piece, and calls that take every byte. Assumes nothing.
use mathlib.Core.Path.{◌≡◌, refl, sym, ap, ap₂, subst, ◌∙◌}
use mathlib.Core.Bool.{Bool, true, false, ◌&&◌, false≢true}
use mathlib.Core.List.{List, [], ◌∷◌, ◌++◌}
use Prim.Native.Nat.{ℕ, suc, ◌+◌, ◌≤◌, min}
use native.Mathlib.Omega.{arith}
use borrow.Author.Tests.{leb-true, ltb-true, ltb-false}
use lib.ListN.{length, take, drop}
use lib.Dec.{leb, ltb}
use Rattle.laws.specs.Promise.{Given}
use Rattle.laws.specs.Cutting as Cutting
use Rattle.laws.specs.Cutting.{Step, Offer, ready}
use Rattle.laws.proofs.Cutting as cutting
use Rattle.laws.proofs.Bools.{and_left, and_right, both}
use Rattle.paper.specs.Numbers.{frame_room}
use Rattle.wire.specs.Parsing.{Ended}
use Rattle.stream.specs.Stream.{Unfinished, frames_from, left_from, taken}
use Rattle.stream.specs.Calls.{unfinished, allowed}
use Rattle.stream.specs.declared.Held.{Held}
use Rattle.stream.proofs.Helds.{held_same}
use Rattle.settings.specs.Columns.{count}
use Rattle.answers.specs.declared.Core.{Core}
use Rattle.answers.specs.declared.Outcome.{Outcome}
use Rattle.board.specs.Parts.{board_allowed}
use Rattle.board.specs.Calls.{deciding, decided_by, heard_by, answering}
use Rattle.board.specs.declared.Board.{Board}
use Rattle.board.specs.declared.Answered.{Answered}
use Rattle.board.proofs.Pieces.{answering_short, answering_stray, answering_heard, held_allowed}
use Rattle.board.proofs.Replying.{bounded}
use Rattle.board.proofs.Giving.{call_count}
use Rattle.board.proofs.Theorems.{answer_keeps_allowed}
use Rattle.listen.proofs.Hearing.{box_all, box_same, box_empty}
use Rattle.demands.specs.Talk.{Deed, stores, calls, Said, said_in, Talk, talk, after_all, said_to_all, board_at, frames_at, is_calls}
use Rattle.demands.specs.Demand3.{AnyCutting, CuttingChangesNothing, EmptyChangesNothing, is_feeding, AllIsTaken}
use Rattle.demands.proofs.Talking.{Line, state_of, says, leaves, call, any_cutting}
use Rattle.demands.proofs.Deciding.{talk_frames}

-- calls and nothing between are a row of calls
abbrev offers_of : List Deed → List (Offer ℕ)
offers_of [] = []
offers_of (stores given ∷ more) = []
offers_of (calls n room ∷ more) = record { count = n; with = room } ∷ offers_of more

abbrev step_in : Talk → Step Board Said
step_in t = record { state = t.board; events = t.said; taken = t.taken }

talk_row : (deeds : List Deed) (board : Board) (bytes : List ℕ) → is_calls deeds ≡ true → step_in (talk board bytes deeds) ≡ Cutting.calls call board bytes (offers_of deeds)
talk_row [] board bytes e = refl
talk_row (stores given ∷ more) board bytes e = absurd (false≢true e)
talk_row (calls n room ∷ more) board bytes e =
    let here = call board room (take n bytes) in
    ap (λ (s : Step Board Said). record { state = s.state; events = here.events ++ s.events; taken = here.taken + s.taken })
    (talk_row more here.state (drop here.taken bytes) e)

-- any cutting
pub cutting_read : AnyCutting
cutting_read core u bytes deeds e =
    let l : Line = record { core = core; reading = u } in
    let end : Talk = talk (board_at core u) bytes deeds in
    let reads : cutting.Reads call state_of says leaves l bytes (step_in end) =
    subst (cutting.Reads call state_of says leaves l bytes) (sym (talk_row deeds (board_at core u) bytes e)) (any_cutting l bytes (offers_of deeds)) in
    let frames : end.frames ≡ frames_from u (take end.taken bytes) = talk_frames deeds core u bytes in
    record {
      frames_are = frames;
      said_is = reads.events_are ∙ ap (said_to_all core) (sym frames);
      board_is = reads.state_is ∙ ap (λ (fs : List Ended). board_at (after_all core fs) (left_from u (take end.taken bytes))) (sym frames);
    }

-- two cuttings: on a board whose line is anywhere, and on one that is not allowed
line_same : (core : Core) (u : Unfinished) (bytes : List ℕ) (deeds deeds' : List Deed) → is_calls deeds ≡ true → is_calls deeds' ≡ true
    → (talk (board_at core u) bytes deeds).taken ≡ (talk (board_at core u) bytes deeds').taken → talk (board_at core u) bytes deeds ≡ talk (board_at core u) bytes deeds'
line_same core u bytes deeds deeds' e e' same =
    let end : Talk = talk (board_at core u) bytes deeds in
    let end' : Talk = talk (board_at core u) bytes deeds' in
    let one = cutting_read core u bytes deeds e in
    let other = cutting_read core u bytes deeds' e' in
    let frames : end.frames ≡ end'.frames = one.frames_are ∙ ap (λ (n : ℕ). frames_from u (take n bytes)) same ∙ sym other.frames_are in
    let said : end.said ≡ end'.said = one.said_is ∙ ap (said_to_all core) frames ∙ sym other.said_is in
    let board : end.board ≡ end'.board =
    one.board_is ∙ ap₂ (λ (fs : List Ended) (n : ℕ). board_at (after_all core fs) (left_from u (take n bytes))) frames same ∙ sym other.board_is in
    λ i. record { board = board i; frames = frames i; said = said i; taken = same i }

idle_talk : (deeds : List Deed) (board : Board) (bytes : List ℕ) → board_allowed board ≡ false → is_calls deeds ≡ true
    → talk board bytes deeds ≡ record { board = board; frames = []; said = []; taken = 0 }
unfolding said_in
idle_talk [] board bytes stray e = refl
idle_talk (stores given ∷ more) board bytes stray e = absurd (false≢true e)
idle_talk (calls n room ∷ more) board bytes stray e = by (ltb room 75) refl (idle_talk more board bytes stray e)
  where
    goes_on : Given Answered → Talk
    goes_on here =
        let later = talk here.answer.board (drop here.answer.taken bytes) more in
        record {
          board = later.board;
          frames = frames_at board (take here.answer.taken bytes) ++ later.frames;
          said = said_in here ++ later.said;
          taken = here.answer.taken + later.taken;
        }

    idle : Talk → Talk
    idle t = record { board = t.board; frames = t.frames; said = t.said; taken = 0 + t.taken }

    by : (t : Bool) → ltb room 75 ≡ t → talk board bytes more ≡ record { board = board; frames = []; said = []; taken = 0 }
        → talk board bytes (calls n room ∷ more) ≡ record { board = board; frames = []; said = []; taken = 0 }
    by true f later = ap goes_on (answering_short board (take n bytes) room (ltb-true _ _ f)) ∙ ap idle later
    by false f later = ap goes_on (answering_stray board (take n bytes) room (ltb-false _ _ f) stray) ∙ ap idle later

-- a board's line is where its held frame is
pub on_line : (board : Board) → length board.held.chars.bytes ≡ 74 → allowed board.held ≡ true → board ≡ board_at board.core (unfinished board.held)
on_line board long ok = ap {B = Board} (λ (held : Held). record { core = board.core; held = held }) (sym (held_same board.held ok long))

board_same : (board : Board) → length board.held.chars.bytes ≡ 74 → (bytes : List ℕ) (deeds deeds' : List Deed) → is_calls deeds ≡ true → is_calls deeds' ≡ true
    → (talk board bytes deeds).taken ≡ (talk board bytes deeds').taken → talk board bytes deeds ≡ talk board bytes deeds'
board_same board long bytes deeds deeds' e e' = by (board_allowed board) refl
  where
    by : (t : Bool) → board_allowed board ≡ t → (talk board bytes deeds).taken ≡ (talk board bytes deeds').taken → talk board bytes deeds ≡ talk board bytes deeds'
    by true ok =
        subst (λ (b : Board). (talk b bytes deeds).taken ≡ (talk b bytes deeds').taken → talk b bytes deeds ≡ talk b bytes deeds') (sym (on_line board long (held_allowed board ok)))
        (line_same board.core (unfinished board.held) bytes deeds deeds' e e')
    by false stray = λ same. idle_talk deeds board bytes stray e ∙ sym (idle_talk deeds' board bytes stray e')

pub changes_nothing : CuttingChangesNothing
changes_nothing = record { at_board = board_same; at_box = box_same }

-- an empty piece
board_empty : (board : Board) (room : ℕ) → length board.held.chars.bytes ≡ 74 → board_allowed board ≡ true → 75 ≤ room
    → answering board [] room ≡ record { answer = record { board = board; outcome = Outcome.Nothing; len = 0; taken = 0 }; written = [] }
unfolding heard_by decided_by deciding taken
board_empty board room long ok h = answering_heard board [] room h ok ∙ rw (held_same board.held (held_allowed board ok) long)

pub empty_nothing : EmptyChangesNothing
empty_nothing = record { at_board = board_empty; at_box = λ held room long. box_empty held long room }

-- a call with room enough on an allowed board takes a byte at least, where there is one
some_taken : (u : Unfinished) (piece : List ℕ) → min 1 (length piece) ≤ taken u piece
unfolding taken
some_taken u piece = omega arith

call_takes : (board : Board) (piece : List ℕ) (room : ℕ) → board_allowed board ≡ true → frame_room ≤ room → min 1 (length piece) ≤ (answering board piece room).answer.taken
unfolding heard_by decided_by
call_takes board piece room ok h = rw (answering_heard board piece room h ok) (some_taken (unfinished board.held) piece)

feeding_ready : (deeds : List Deed) → is_feeding deeds ≡ true → (is_calls deeds ≡ true) × (ready (leb frame_room) (offers_of deeds) ≡ true) × (length (offers_of deeds) ≡ length deeds)
feeding_ready [] e = (refl, refl, refl)
feeding_ready (stores given ∷ more) e = absurd (false≢true e)
feeding_ready (calls n room ∷ more) e =
    let later = feeding_ready more (and_right (leb 1 n && leb frame_room room) _ e) in
    (later.0, both _ _ (and_left (leb 1 n && leb frame_room room) _ e) later.1, ap suc later.2)

pub record Fit (board : Board) : Type 0 where
  pub long : length board.core.table.numbers ≡ count
  pub ok : board_allowed board ≡ true

board_all : (board : Board) (bytes : List ℕ) (deeds : List Deed) → length board.core.table.numbers ≡ count → board_allowed board ≡ true
    → is_feeding deeds ≡ true → length bytes ≤ length deeds → (talk board bytes deeds).taken ≡ length bytes
board_all board bytes deeds long ok e enough =
    let row = feeding_ready deeds e in
    ap (λ (s : Step Board Said). s.taken) (talk_row deeds board bytes row.0)
    ∙ cutting.all_taken call Fit (leb frame_room) (λ b room piece. (bounded b piece room).within)
    (λ b room piece f serves. call_takes b piece room f.ok (leb-true frame_room room serves))
    (λ b room piece f. record { long = call_count b piece room f.long; ok = answer_keeps_allowed b piece room f.long f.ok })
    board bytes (offers_of deeds) (record { long = long; ok = ok }) row.1 (rw row.2 enough)

pub taking_all : AllIsTaken
taking_all = record { at_board = board_all; at_box = box_all }
