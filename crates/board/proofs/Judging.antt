-- The refusals of a call by their rows, and what goes with each outcome. Assumes nothing.
use mathlib.Core.Path.{◌≡◌, refl, sym, ap, subst, ◌∙◌}
use mathlib.Core.Bool.{Bool, true, false, not, cond}
use mathlib.Core.List.{List, [], ◌∷◌, ◌++◌, append-nil}
use mathlib.Core.Option.{none, some}
use Prim.Native.Nat.{ℕ, suc, min, ◌≤◌, ◌<◌}
use native.Mathlib.Omega.{arith}
use borrow.Author.Tests.{leb-true, ltb-true, ltb-false, lt-ltb, le-ltb, eqb-true}
use lib.ListN.{length, take, get_or}
use lib.Seq.{take-suc, take_all}
use lib.Dec.{ltb, eqb}
use Rattle.laws.specs.Lists.{every}
use Rattle.laws.specs.Promise.{Given}
use Rattle.laws.proofs.Bools.{pick}
use Rattle.paper.specs.declared.Refusal.{Refusal}
use Rattle.paper.specs.Numbers as paper
use Rattle.paper.specs.Numbers.{colon, newline}
use Rattle.wire.specs.Digits.{is_digit}
use Rattle.wire.specs.Parsing.{Ended, good, refused, command_of, data_of, bad_count, sums_up, body_says, broken_says}
use Rattle.laws.specs.Refusals.{Row, first_of}
use Rattle.wire.specs.Refusals.{faults, fault_of}
use Rattle.wire.proofs.RoundTrip.{said, said_small}
use Rattle.wire.proofs.Theorems.{fault_given_when}
use Rattle.stream.specs.Stream.{Unfinished, outside, inside, ended_by, frames_from, left_from, first_end, taken}
use Rattle.stream.specs.Calls.{unfinished}
use Rattle.stream.specs.declared.Held.{Held}
use Rattle.stream.proofs.Streams.{frames_append}
use Rattle.stream.proofs.Theorems.{first_end_is_first}
use Rattle.answers.specs.Answers.{core_allowed, Sent, silent, sent, error}
use Rattle.answers.specs.Refusals.{rows, number_of}
use Rattle.answers.specs.declared.Core.{Core}
use Rattle.answers.proofs.Deciding.{table_allowed}
use Rattle.answers.proofs.Refusing.{frame_rows}
use Rattle.answers.proofs.Telling.{frame_told}
use Rattle.board.specs.Parts.{board_allowed}
use Rattle.board.specs.Calls.{reply_bytes, ended_in, deciding, decided_by, heard_by}
use Rattle.board.specs.Refusals.{has_end, since, chars_of, ending_of, call_rows, Says, row_11, row_12, no_frame, rows_1_to_4, a_frame, bytes_meant, Readable, Replied}
use Rattle.board.specs.Laws.{RefusalGivenWhen, OutcomeAndReply}
use Rattle.board.specs.declared.Board.{Board}
use Rattle.board.specs.declared.Answered.{Answered}
use Rattle.board.proofs.Pieces.{core_allowed_lem, answering_short, answering_stray, answering_heard}
use Rattle.board.proofs.Keeping.{cases}
use Rattle.board.proofs.Replying.{heard_readable}

-- the frame that ended in a piece, by the byte that ended it
data Ends (held : Held) (piece : List ℕ) : List Ended → Type 0 where
  none_ends : has_end held piece ≡ false → Ends held piece []
  newline_ends : has_end held piece ≡ true → ending_of held piece ≡ newline → Ends held piece (body_says (chars_of held piece) ∷ [])
  colon_ends : has_end held piece ≡ true → ending_of held piece ≡ colon → Ends held piece (broken_says (length (chars_of held piece)) ∷ [])

-- a byte that ends a frame is inside one
data Ending (u : Unfinished) (b : ℕ) : List Ended → Type 0 where
  a_newline : b ≡ newline → Ending u b (body_says (since u) ∷ [])
  a_colon : b ≡ colon → Ending u b (broken_says (length (since u)) ∷ [])

ending : (u : Unfinished) (b : ℕ) (f : Ended) → ended_by u b ≡ f ∷ [] → Ending u b (f ∷ [])
ending outside b f e = let z : ◌≡◌ {A = ℕ} 0 1 = ap length e in absurd (omega arith)
ending (inside chars) b f e = by (eqb b newline) (eqb b colon) refl refl
  where
    by : (s t : Bool) → eqb b newline ≡ s → eqb b colon ≡ t → Ending (inside chars) b (f ∷ [])
    by true t p q = subst (Ending (inside chars) b) (rw p at e) (a_newline (eqb-true b newline p))
    by false true p q = subst (Ending (inside chars) b) (rw (p, q) at e) (a_colon (eqb-true b colon q))
    by false false p q = let z : ◌≡◌ {A = ℕ} 0 1 = ap length (rw (p, q) at e) in absurd (omega arith)

module _ (held : Held) (piece : List ℕ) where
  ending_is : has_end held piece ≡ true → (fs : List Ended) → Ending (left_from (unfinished held) (take (first_end (unfinished held) piece) piece)) (ending_of held piece) fs
      → Ends held piece fs
  unfolding chars_of
  ending_is p fs (a_newline e) = newline_ends p e
  ending_is p fs (a_colon e) = colon_ends p e

  ended : Ends held piece (ended_in held piece)
  unfolding has_end ending_of taken
  ended = by (has_end held piece) refl
    where
      u : Unfinished
      u = unfinished held

      i : ℕ
      i = first_end u piece

      by : (b : Bool) → has_end held piece ≡ b → Ends held piece (ended_in held piece)
      by true p =
          let h : i < length piece = ltb-true _ _ p in
          let all : min (suc i) (length piece) ≡ suc i = omega arith in
          let one = (first_end_is_first u piece).one_there h in
          let split : frames_from u (take (suc i) piece) ≡ frames_from u (take i piece) ++ frames_from (left_from u (take i piece)) (get_or piece i 0 ∷ []) =
          ap (frames_from u) (take-suc piece i 0 h) ∙ frames_append u (take i piece) (get_or piece i 0 ∷ []) in
          let here : ended_by (left_from u (take i piece)) (get_or piece i 0) ≡ one.0 ∷ [] =
          sym (append-nil (ended_by (left_from u (take i piece)) (get_or piece i 0))) ∙ sym (rw (first_end_is_first u piece).none_before at split) ∙ one.1 in
          rw (all, one.1) (ending_is p (one.0 ∷ []) (ending (left_from u (take i piece)) (get_or piece i 0) one.0 here))
      by false p =
          let h : length piece ≤ i = ltb-false _ _ p in
          let all : min (suc i) (length piece) ≡ length piece = omega arith in
          let none : frames_from u piece ≡ [] = rw (take_all i piece h) at (first_end_is_first u piece).none_before in
          rw (all, take_all (length piece) piece (omega arith), none) (none_ends p)

-- rows one after the other
first_none : (xs ys : List Row) → first_of xs ≡ none → first_of (xs ++ ys) ≡ first_of ys
first_none [] ys e = refl
first_none (x ∷ xs) ys e = by x.holds e (first_none xs ys)
  where
    by : (b : Bool) → cond b (some x.number) (first_of xs) ≡ none → (first_of xs ≡ none → first_of (xs ++ ys) ≡ first_of ys)
        → cond b (some x.number) (first_of (xs ++ ys)) ≡ first_of ys
    by true f later = let z : ◌≡◌ {A = ℕ} 0 1 = cc in absurd (omega arith)
    by false f later = later f

first_some : (xs ys : List Row) (n : ℕ) → first_of xs ≡ some n → first_of (xs ++ ys) ≡ some n
first_some [] ys n e = let z : ◌≡◌ {A = ℕ} 0 1 = cc in absurd (omega arith)
first_some (x ∷ xs) ys n e = by x.holds e (first_some xs ys n)
  where
    by : (b : Bool) → cond b (some x.number) (first_of xs) ≡ some n → (first_of xs ≡ some n → first_of (xs ++ ys) ≡ some n)
        → cond b (some x.number) (first_of (xs ++ ys)) ≡ some n
    by true f later = f
    by false f later = later f

-- the refusals of a frame's characters are 1 to 4, and a colon leaves nothing else
abbrev Faulty : Ended → Type 0
Faulty e = (r : Refusal) → e ≡ refused r → (1 ≤ paper.number_of r) × (paper.number_of r ≤ 4)

fault : (k : Refusal) → 1 ≤ paper.number_of k → paper.number_of k ≤ 4 → Faulty (refused k)
fault k low high r e = let is : k ≡ r = cc in rw (sym is) (low, high)

body_faulty : (chars : List ℕ) → Faulty (body_says chars)
unfolding body_says
body_faulty chars =
    pick Faulty (ltb 73 (length chars)) (fault paper.too_long (omega arith) (omega arith)) (pick Faulty (not (every is_digit chars)) (fault paper.no_digit (omega arith) (omega arith))
    (pick Faulty (bad_count (length chars)) (fault paper.bad_count (omega arith) (omega arith)) (pick Faulty (not (sums_up chars)) (fault paper.bad_sum (omega arith) (omega arith))
    (λ n e. let z : ◌≡◌ {A = ℕ} 0 1 = cc in absurd (omega arith)))))

broken_faulty : (count : ℕ) → (r : Refusal) × (broken_says count ≡ refused r) × (1 ≤ paper.number_of r) × (paper.number_of r ≤ 4)
unfolding broken_says
broken_faulty count =
    pick (λ (e : Ended). (r : Refusal) × (e ≡ refused r) × (1 ≤ paper.number_of r) × (paper.number_of r ≤ 4)) (ltb 73 count)
    (paper.too_long, refl, omega arith, omega arith) (paper.no_digit, refl, omega arith, omega arith)

-- what is decided of a frame with these characters
module _ (core : Core) (ok : core_allowed core ≡ true) (chars : List ℕ) where
  judged : (b : ℕ) (e : Ended) → ((command : ℕ) (bytes : List ℕ) → e ≡ good command bytes → (command ≡ command_of chars) × (bytes ≡ data_of chars))
      → fault_of e ≡ first_of (faults chars b)
      → number_of (deciding core (e ∷ [])).outcome ≡ first_of (faults chars b ++ rows core (command_of chars) (data_of chars))
  unfolding deciding
  judged b (good command bytes) is e =
      let parts = is command bytes refl in
      rw (parts.0, parts.1) (frame_rows core (data_of chars) (table_allowed core ok) (command_of chars))
      ∙ sym (first_none (faults chars b) (rows core (command_of chars) (data_of chars)) (sym e))
  judged b (refused r) is e = sym (first_some (faults chars b) (rows core (command_of chars) (data_of chars)) (paper.number_of r) (sym e))

  body_judged : number_of (deciding core (body_says chars ∷ [])).outcome ≡ first_of (faults chars newline ++ rows core (command_of chars) (data_of chars))
  body_judged =
      judged newline (body_says chars) (λ command bytes e. let s = said chars command bytes e in (sym s.command_is, sym s.bytes_are)) (fault_given_when chars).0

  broken_judged : number_of (deciding core (broken_says (length chars) ∷ [])).outcome ≡ first_of (faults chars colon ++ rows core (command_of chars) (data_of chars))
  broken_judged = judged colon (broken_says (length chars)) (λ command bytes e. let n = broken_faulty (length chars) in let is = sym n.1 ∙ e in let z : ◌≡◌ {A = ℕ} 0 1 = cc in absurd (omega arith)) (fault_given_when chars).1

heard_judged : (board : Board) (piece : List ℕ) → board_allowed board ≡ true → (fs : List Ended) → Ends board.held piece fs
    → let chars = chars_of board.held piece in
    number_of (deciding board.core fs).outcome
    ≡ first_of (cond (has_end board.held piece) (faults chars (ending_of board.held piece) ++ rows board.core (command_of chars) (data_of chars)) [])
unfolding deciding
heard_judged board piece ok fs (none_ends p) = rw p
heard_judged board piece ok fs (newline_ends p e) = rw (p, e) (body_judged board.core (core_allowed_lem board ok) (chars_of board.held piece))
heard_judged board piece ok fs (colon_ends p e) = rw (p, e) (broken_judged board.core (core_allowed_lem board ok) (chars_of board.held piece))

pub refusal_given : RefusalGivenWhen
unfolding heard_by decided_by
refusal_given board piece room =
    cases board piece room (λ (g : Given Answered). number_of g.answer.outcome ≡ first_of (call_rows board piece room))
    (λ h. rw (answering_short board piece room h, lt-ltb room 75 h))
    (λ h e. rw (answering_stray board piece room h e, le-ltb room 75 h, e))
    (λ h e. rw (answering_heard board piece room h e, le-ltb room 75 h, e) (heard_judged board piece e (ended_in board.held piece) (ended board.held piece)))

-- the reply
module _ (board : Board) (piece : List ℕ) (ok : board_allowed board ≡ true) where
  abbrev Saying : List Ended → Type 0
  Saying fs = let d = deciding board.core fs in Says board piece d.outcome d.reply d.core

  whole_says : has_end board.held piece ≡ true → ending_of board.held piece ≡ newline → (e : Ended) → body_says (chars_of board.held piece) ≡ e → Saying (e ∷ [])
  unfolding deciding
  whole_says p q (good command bytes) e =
      let s = said (chars_of board.held piece) command bytes e in
      a_frame command bytes p q e (frame_told board.core (core_allowed_lem board ok) bytes (said_small (chars_of board.held piece) command bytes s) command)
  whole_says p q (refused n) e = let range = body_faulty (chars_of board.held piece) n e in rows_1_to_4 n range.0 range.1 p

  ends_says : (fs : List Ended) → Ends board.held piece fs → Saying fs
  unfolding deciding
  ends_says fs (none_ends p) = no_frame p
  ends_says fs (newline_ends p q) = whole_says p q _ refl
  ends_says fs (colon_ends p q) = let n = broken_faulty (length (chars_of board.held piece)) in rw n.1 (rows_1_to_4 n.0 n.2 n.3 p)

none_read : Readable silent []
none_read = record { short = leb-true 0 75 refl; frames_are = refl; none_left = refl }

reply_meant : (s : Sent) → reply_bytes s ≡ bytes_meant s
reply_meant silent = refl
reply_meant (sent command bytes) = refl
reply_meant error = refl

pub outcome_reply : OutcomeAndReply
unfolding heard_by decided_by
outcome_reply board piece room =
    cases board piece room (Replied board piece)
    (λ h. rw (answering_short board piece room h) (record { reply = silent; says = row_11; written_is = refl; len_is = refl; readable = none_read }))
    (λ h e. rw (answering_stray board piece room h e) (record { reply = silent; says = row_12; written_is = refl; len_is = refl; readable = none_read }))
    (λ h e.
    rw (answering_heard board piece room h e)
    (record { reply = _; says = ends_says board piece e (ended_in board.held piece) (ended board.held piece); written_is = reply_meant (deciding board.core (ended_in board.held piece)).reply; len_is = refl; readable = heard_readable board piece e }))
