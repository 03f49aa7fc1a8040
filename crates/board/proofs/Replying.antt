-- What the other end reads in a reply, and what a board makes of a whole frame. Assumes nothing.
use mathlib.Core.Path.{◌≡◌, refl, ap, ◌∙◌}
use mathlib.Core.Bool.{true}
use mathlib.Core.List.{List, [], ◌∷◌, ◌++◌, append-nil}
use Prim.Native.Nat.{ℕ, ◌≤◌, ◌<◌}
use native.Mathlib.Omega.{arith}
use borrow.Author.Tests.{leb-true}
use lib.ListN.{length, take}
use lib.Seq.{take-length, set-get_or}
use Rattle.laws.specs.Promise.{Given}
use Rattle.wire.specs.Digits.{digit}
use Rattle.wire.specs.Frame.{check, body, frame}
use Rattle.wire.specs.Parsing.{Ended, good, refused}
use Rattle.stream.specs.Stream.{outside, frames_of, left_by, taken}
use Rattle.stream.specs.Calls as stream
use Rattle.wire.specs.Laws.{Writable}
use Rattle.stream.specs.Laws.{Writables, whole}
use Rattle.wire.proofs.Frames.{length_frame}
use Rattle.stream.proofs.Reached.{unfinished_kept}
use Rattle.stream.proofs.Streams.{taken_within}
use Rattle.stream.proofs.Theorems.{written_is_heard, heard_is_writable}
use Rattle.settings.specs.Columns.{count, id_at, width_at}
use Rattle.settings.proofs.Theorems.{rows_hold}
use Rattle.tables.specs.Rules.{number_at}
use Rattle.tables.proofs.Tables.{allowed_at}
use Rattle.endian.specs.Numbers.{little, said}
use Rattle.requests.specs.Requests.{get_request, set_request}
use Rattle.paper.specs.Numbers.{get_code, set_code}
use Rattle.answers.specs.Answers.{core_allowed, with_table, Sent, silent, sent, error, Decision, frame_answer}
use Rattle.answers.specs.declared.Core.{Core}
use Rattle.answers.specs.declared.Outcome.{Outcome}
use Rattle.answers.specs.Laws.{Fits, a_frame, an_error}
use Rattle.answers.specs.Laws as fitting
use Rattle.answers.proofs.Theorems.{replies_fit, get_answers_held, get_answers_read_only, set_stores_it, set_refused_names_nearest}
use Rattle.endian.proofs.Little.{length_little, bytes_little}
use Rattle.answers.proofs.Deciding.{identity_allowed_lem, table_allowed}
use Rattle.answers.proofs.Fitting.{writable_said}
use Rattle.board.specs.Parts.{board_allowed}
use Rattle.board.specs.Calls.{error_frame, reply_bytes, ended_in, deciding, decided_by, heard_by, answering}
use Rattle.board.specs.Refusals.{Readable}
use Rattle.board.specs.Laws.{at_rest, WholeIsAnswered, comes_to, GetAnswersHeld, GetAnswersReadOnly, SetStoresIt, SetOfEqualIsAccepted, SetRefusedNamesNearest}
use Rattle.board.specs.declared.Board.{Board}
use Rattle.board.specs.declared.Answered.{Answered}
use Rattle.board.proofs.Pieces.{core_allowed_lem, answering_short, answering_stray, answering_heard}
use Rattle.board.proofs.Keeping.{cases}

-- the bytes of a frame that the writer takes: that frame, and no other
record Alone (command : ℕ) (bytes : List ℕ) : Type 0 where
  frames_are : frames_of (frame command bytes) ≡ good command bytes ∷ []
  none_left : left_by (frame command bytes) ≡ outside
  all_taken : taken outside (frame command bytes) ≡ length (frame command bytes)

alone : (command : ℕ) (bytes : List ℕ) → Writable command bytes → Alone command bytes
alone command bytes w =
    let heard = written_is_heard command bytes w.nibble w.few w.small [] in
    let same : frame command bytes ++ [] ≡ frame command bytes = append-nil (frame command bytes) in
    record { frames_are = rw same at heard.0; none_left = rw same at heard.1; all_taken = rw same at heard.2 }

-- the error frame is the one of command 4 with AA AA
error_frame_lem : error_frame ≡ frame 4 (0xAA ∷ 0xAA ∷ [])
unfolding frame body check digit
error_frame_lem = refl

frame_readable : (command : ℕ) (bytes : List ℕ) → Writable command bytes → Readable (sent command bytes) (frame command bytes)
frame_readable command bytes w =
    let one : Alone command bytes = alone command bytes w in
    let few : length bytes ≤ 35 = w.few in
    record { short = rw (length_frame command bytes) (omega arith); frames_are = one.frames_are; none_left = one.none_left }

readable : (s : Sent) → Fits s → Readable s (reply_bytes s)
readable silent f = record { short = leb-true 0 75 refl; frames_are = refl; none_left = refl }
readable (sent command bytes) (a_frame w) = frame_readable command bytes w
readable error f =
    let w : Writable 4 (0xAA ∷ 0xAA ∷ []) = record { nibble = leb-true 4 15 refl; few = leb-true 2 35 refl; small = record { below = refl } } in
    let one : Alone 4 (0xAA ∷ 0xAA ∷ []) = alone 4 (0xAA ∷ 0xAA ∷ []) w in
    record { short = leb-true 9 75 refl; frames_are = ap frames_of error_frame_lem ∙ one.frames_are; none_left = ap left_by error_frame_lem ∙ one.none_left }

pub decided_fits : (core : Core) → core_allowed core ≡ true → (fs : List Ended) → Writables fs → Fits (deciding core fs).reply
unfolding deciding
decided_fits core ok [] w = fitting.nothing
decided_fits core ok (good command bytes ∷ rest) (whole w others) =
    let low : command ≤ 15 = w.nibble in
    replies_fit core command bytes (identity_allowed_lem core ok) (omega arith)
decided_fits core ok (refused number ∷ rest) w = an_error

pub heard_readable : (board : Board) (piece : List ℕ) → board_allowed board ≡ true → Readable (deciding board.core (ended_in board.held piece)).reply (heard_by board piece).written
unfolding heard_by decided_by
heard_readable board piece ok =
    let u = stream.unfinished board.held in
    readable _ (decided_fits board.core (core_allowed_lem board ok) (ended_in board.held piece) (heard_is_writable u (take (taken u piece) piece)))

-- the bounds of a call on any board with any room
pub record Bounded (piece : List ℕ) (room : ℕ) (given : Given Answered) : Type 0 where
  pub within : given.answer.taken ≤ length piece
  pub len_is : given.answer.len ≡ length given.written
  pub short : length given.written ≤ room

pub bounded : (board : Board) (piece : List ℕ) (room : ℕ) → Bounded piece room (answering board piece room)
unfolding heard_by decided_by
bounded board piece room =
    cases board piece room (Bounded piece room)
    (λ h. rw (answering_short board piece room h) (record { within = omega arith; len_is = refl; short = omega arith }))
    (λ h e. rw (answering_stray board piece room h e) (record { within = omega arith; len_is = refl; short = omega arith }))
    (λ h e.
    let few : length (heard_by board piece).written ≤ 75 = (heard_readable board piece e).short in
    rw (answering_heard board piece room h e) (record { within = taken_within (stream.unfinished board.held) piece; len_is = refl; short = omega arith }))

-- a whole frame at a board that is at rest
module _ (board : Board) (command : ℕ) (bytes : List ℕ) (rest : at_rest board) (w : Writable command bytes) where
  at_outside : stream.unfinished board.held ≡ outside
  at_outside = ap stream.unfinished rest ∙ unfinished_kept outside

  whole_heard : heard_by board (frame command bytes)
      ≡ decided_by board.held (frame_answer board.core command bytes) (length (frame command bytes))
  unfolding heard_by deciding
  whole_heard =
      let one : Alone command bytes = alone command bytes w in
      rw (at_outside, one.all_taken, take-length, one.frames_are, one.none_left, rest)

pub whole_answered : WholeIsAnswered
whole_answered board command bytes room ok rest w h = answering_heard board (frame command bytes) room h ok ∙ whole_heard board command bytes rest w

-- a Get of an id
module _ (board : Board) (id : ℕ) (rest : at_rest board) (ok : board_allowed board ≡ true) (room : ℕ) (enough : 75 ≤ room) where
  get_writable : Writable get_code (said id 0 [])
  get_writable = writable_said get_code id 0 [] (leb-true 7 15 refl) (leb-true 1 256 refl) (leb-true 0 32 refl) refl

  get_whole : (d : Decision) → frame_answer board.core get_code (said id 0 []) ≡ d
      → answering board (get_request id) room ≡ decided_by board.held d (length (get_request id))
  get_whole d e = whole_answered board get_code (said id 0 []) room ok rest get_writable enough ∙ rw e

-- a Set of a setting
module _ (board : Board) (k : ℕ) (h : k < count) (rest : at_rest board) (ok : board_allowed board ≡ true) (room : ℕ) (enough : 75 ≤ room) where
  settled : width_at k ≤ 2
  settled = (rows_hold k h).width_most

  set_writable : (n : ℕ) → Writable set_code (said (id_at k) 0 (little (width_at k) n))
  set_writable n =
      let few : width_at k ≤ 2 = settled in
      writable_said set_code (id_at k) 0 (little (width_at k) n) (leb-true 8 15 refl) (leb-true 1 256 refl)
      (rw (length_little (width_at k) n) (omega arith)) (bytes_little (width_at k) n)

  set_whole : (n : ℕ) (d : Decision) → frame_answer board.core set_code (said (id_at k) 0 (little (width_at k) n)) ≡ d
      → answering board (set_request k n) room ≡ decided_by board.held d (length (set_request k n))
  set_whole n d e = whole_answered board set_code (said (id_at k) 0 (little (width_at k) n)) room ok rest (set_writable n) enough ∙ rw e

pub get_held : GetAnswersHeld
unfolding decided_by
get_held board k room ok rest h enough =
    get_whole board (id_at k) rest ok room enough _ (get_answers_held board.core k h)

pub get_read_only : GetAnswersReadOnly
unfolding decided_by
get_read_only board id value room ok rest enough held =
    get_whole board id rest ok room enough _ (get_answers_read_only board.core id value held)

pub set_stores : SetStoresIt
unfolding decided_by
set_stores board k n room ok rest h enough fits =
    set_whole board k h rest ok room enough n _ (set_stores_it board.core k n (table_allowed board.core (core_allowed_lem board ok)) h fits)

pub set_equal : SetOfEqualIsAccepted
set_equal board k room ok rest h enough =
    let table = board.core.table in
    let fits = allowed_at table (table_allowed board.core (core_allowed_lem board ok)) k h in
    set_stores board k (number_at table k) room ok rest h enough fits
    ∙ ap (λ (l : List ℕ). comes_to board (with_table board.core (record { numbers = l })) Outcome.Answered (set_request k (number_at table k)) (set_request k (number_at table k)))
    (set-get_or table.numbers k 0)

pub set_names : SetRefusedNamesNearest
unfolding decided_by
set_names board k n room ok rest h enough small bad =
    let refused = set_refused_names_nearest board.core k n (table_allowed board.core (core_allowed_lem board ok)) h small bad in
    (refused.0, refused.1, set_whole board k h rest ok room enough n _ refused.2)
