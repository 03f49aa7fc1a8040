-- A piece of input heard by a board: what is decided about the event that it comes to on the stream. Assumes nothing.
use mathlib.Core.Path.{◌≡◌, refl, ap, ◌∙◌}
use mathlib.Core.Bool.{Bool, true, false}
use mathlib.Core.List.{List, [], ◌∷◌}
use Prim.Native.Nat.{ℕ, ◌≤◌}
use native.Mathlib.Omega.{arith}
use borrow.Author.Tests.{leb-true}
use lib.ListN.{take, replicate}
use Rattle.std.proofs.Common.{Err}
use Rattle.std.specs.Prelude.{IfOk, IfSome}
use Rattle.laws.specs.Promise.{Given, overlaid}
use Rattle.laws.proofs.Promise.{overlaid_front}
use Rattle.paper.specs.Numbers.{not_allowed, number_of}
use Rattle.paper.specs.declared.Refusal.{Refusal}
use Rattle.wire.specs.Parsing.{Ended, good, refused}
use Rattle.stream.specs.Stream.{taken}
use Rattle.stream.specs.Calls as stream
use Rattle.stream.specs.Answers.{Event}
use Rattle.stream.specs.Laws.{Writables, whole}
use Rattle.stream.specs.declared.Heard.{Heard}
use Rattle.stream.proofs.Answers.{hearing_stray, hearing_heard}
use Rattle.stream.proofs.Theorems.{heard_is_writable, refused_is_small}
use Rattle.answers.specs.Answers.{core_allowed, error, Decision, staying, frame_answer}
use Rattle.answers.specs.Laws.{Fits}
use Rattle.answers.specs.Laws as fitting
use Rattle.answers.specs.declared.Core.{Core}
use Rattle.answers.specs.declared.Outcome.{Outcome}
use Rattle.board.specs.Calls.{ended_in, deciding, decided_by, heard_by}
use Rattle.board.specs.AsHeld.{fault_reply, heeding, heard_if_held}
use Rattle.board.specs.declared.Board.{Board}
use Rattle.board.proofs.Replying.{decided_fits}

-- a frame that is refused is so by 1 to 4, and not by 12
fault_is : (refusal : Refusal) → number_of refusal ≤ 4 → fault_reply refusal ≡ error
fault_is Refusal.NotAllowed h = absurd (omega arith)
fault_is refusal h = refl

-- what is decided about the event that some frames come to, with their data at the front of a buffer, is what is decided about them
module _ (core : Core) (buffer : List ℕ) where
  heeding_is : (fs : List Ended) → ((refusal : Refusal) → stream.event_of fs ≡ Err refusal → number_of refusal ≤ 4)
      → heeding core (stream.event_of fs) (overlaid (stream.data_of_first fs) buffer) ≡ deciding core fs
  unfolding deciding
  heeding_is [] small = refl
  heeding_is (good command bytes ∷ rest) small = ap (frame_answer core command) (overlaid_front bytes buffer)
  heeding_is (refused refusal ∷ rest) small = ap (staying core (Outcome.Refused refusal)) (fault_is refusal (small refusal refl))

-- a frame's data have room
abbrev pub FrameFits : Event → Type 0
FrameFits event = IfOk event (λ ended. IfSome ended (λ frame. frame.len ≤ 35))

few_is : (fs : List Ended) → Writables fs → FrameFits (stream.event_of fs)
few_is [] w = tt
few_is (good command bytes ∷ rest) (whole w others) = w.few
few_is (refused refusal ∷ rest) w = tt

-- what is decided about a piece: it is what the call answers, and fits a frame
abbrev pub decision : Core → Given Heard → Decision
decision core g = heeding core g.answer.event (overlaid g.written (replicate 35 0))

pub record Heeded (board : Board) (piece : List ℕ) (g : Given Heard) : Type 0 where
  pub answers : decided_by g.answer.held (decision board.core g) g.answer.taken ≡ heard_if_held board piece
  pub fits : Fits (decision board.core g).reply
  pub few : FrameFits g.answer.event

module _ (board : Board) (piece : List ℕ) (fit : core_allowed board.core ≡ true) where
  heard_whole : stream.allowed board.held ≡ true → Heeded board piece (stream.heard_of (stream.unfinished board.held) piece)
  unfolding heard_if_held heard_by
  heard_whole ok =
      let u = stream.unfinished board.held in
      let enough = leb-true 35 35 refl in
      let fs : List Ended = ended_in board.held piece in
      let decides : heeding board.core (stream.event_of fs) (overlaid (stream.data_of_first fs) (replicate 35 0)) ≡ deciding board.core fs =
      heeding_is board.core (replicate 35 0) fs (λ refusal e. refused_is_small board.held piece 35 refusal ok enough (ap (λ (g : Given Heard). g.answer.event) (hearing_heard board.held piece 35 enough ok) ∙ e)) in
      record {
        answers = rw (ok, decides);
        fits = rw decides (decided_fits board.core fit fs (heard_is_writable u (take (taken u piece) piece)));
        few = few_is fs (heard_is_writable u (take (taken u piece) piece));
      }

  heard_stray : stream.allowed board.held ≡ false → Heeded board piece (stream.unheard board.held not_allowed)
  unfolding heard_if_held decided_by
  heard_stray e = record { answers = rw e; fits = fitting.nothing; few = tt }

  pub heeded : Heeded board piece (stream.hearing board.held piece 35)
  heeded = by (stream.allowed board.held) refl
    where
      by : (t : Bool) → stream.allowed board.held ≡ t → Heeded board piece (stream.hearing board.held piece 35)
      by true p = rw (hearing_heard board.held piece 35 (leb-true 35 35 refl) p) (heard_whole p)
      by false p = rw (hearing_stray board.held piece 35 (leb-true 35 35 refl) p) (heard_stray p)
