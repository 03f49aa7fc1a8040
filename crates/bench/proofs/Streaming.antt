-- The stream, call by call. Assumes nothing.
use mathlib.Core.Path.{◌≡◌, refl, sym, ap, ◌∙◌}
use mathlib.Core.Bool.{Bool, true, false}
use mathlib.Core.List.{List, [], ◌∷◌, ◌++◌}
use Prim.Native.Nat.{ℕ, ◌+◌, ◌≤◌, ◌<◌, min}
use native.Mathlib.Omega.{arith}
use native.Mathlib.Nat.{zero-add}
use borrow.Author.Tests.{ltb-true, ltb-false, eq-eqb}
use lib.ListN.{length, take, drop, get_or, length-take, drop_of_length-le}
use lib.Dec.{ltb}
use Rattle.laws.specs.Promise.{Given, Gives, overlaid}
use Rattle.laws.proofs.Lists.{drop_turn}
use Rattle.wire.specs.Parsing.{Ended, good, refused}
use Rattle.stream.specs.Stream.{Unfinished, outside, taken, frames_from}
use Rattle.stream.specs.Calls.{allowed, held_of, unfinished, heard_of, unheard, hearing, event_of, data_of_first}
use Rattle.stream.specs.Laws.{frame_in, hears}
use Rattle.stream.specs.Answers.{Event}
use Rattle.std.specs.Prelude.{Some, None, Ok, Err}
use Rattle.paper.specs.declared.Refusal.{Refusal}
use Rattle.paper.specs.Numbers.{short_buffer, not_allowed, number_of}
use Rattle.stream.specs.declared.Held.{Held}
use Rattle.stream.specs.declared.Heard.{Heard}
use Rattle.stream.proofs.Answers.{hearing_short, hearing_stray, hearing_heard}
use Rattle.stream.proofs.Streams.{taken_within}
use Rattle.bench.specs.Calls.{good_in, good_ones, laid_over, Streamed, streaming}

-- a row of calls, the first and the others
module _ (held : Held) (bytes : List ℕ) (room : ℕ) where
  stream_none : streaming held bytes [] room ≡ []
  unfolding streaming
  stream_none = refl

  stream_more : (size : ℕ) (more : List ℕ)
      → streaming held bytes (size ∷ more) room
      ≡ (hears held room (take size bytes)).events ++ streaming (hears held room (take size bytes)).state (drop (hears held room (take size bytes)).taken bytes) more room
  unfolding streaming
  stream_more size more = refl

-- frames in two rows
good_append : (fs gs : List Ended) → good_ones (fs ++ gs) ≡ good_ones fs + good_ones gs
good_append [] gs = sym (zero-add (good_ones gs))
good_append (good command bytes ∷ fs) gs = let later : good_ones (fs ++ gs) ≡ good_ones fs + good_ones gs = good_append fs gs in omega arith
good_append (refused refusal ∷ fs) gs = let later : good_ones (fs ++ gs) ≡ good_ones fs + good_ones gs = good_append fs gs in omega arith

laid_append : (fs gs : List Ended) (buffer : List ℕ) → laid_over (fs ++ gs) buffer ≡ laid_over gs (laid_over fs buffer)
laid_append [] gs buffer = refl
laid_append (good command bytes ∷ fs) gs buffer = laid_append fs gs (overlaid bytes buffer)
laid_append (refused refusal ∷ fs) gs buffer = laid_append fs gs buffer

-- what one call takes, counts and writes
pub record Fair (piece buffer : List ℕ) (given : Given Heard) : Type 0 where
  pub within : given.answer.taken ≤ length piece
  pub counts : good_ones (frame_in given.answer.event given.written) ≡ good_in given.answer.event
  pub lays : laid_over (frame_in given.answer.event given.written) buffer ≡ overlaid given.written buffer

nothing_laid : (buffer : List ℕ) → overlaid [] buffer ≡ buffer
unfolding overlaid
nothing_laid buffer = refl

module _ (buffer : List ℕ) where
  refusal_counts : (refusal : Refusal) → good_ones (frame_in (Err refusal) []) ≡ 0
  refusal_counts refusal = by (ltb 4 (number_of refusal)) refl
    where
      by : (t : Bool) → ltb 4 (number_of refusal) ≡ t → good_ones (frame_in (Err refusal) []) ≡ 0
      by true e = rw e
      by false e = rw e

  refusal_lays : (refusal : Refusal) → laid_over (frame_in (Err refusal) []) buffer ≡ overlaid [] buffer
  refusal_lays refusal = by (ltb 4 (number_of refusal)) refl
    where
      by : (t : Bool) → ltb 4 (number_of refusal) ≡ t → laid_over (frame_in (Err refusal) []) buffer ≡ overlaid [] buffer
      by true e = rw (e, nothing_laid buffer)
      by false e = rw (e, nothing_laid buffer)

  frames_count : (fs : List Ended) → good_ones (frame_in (event_of fs) (data_of_first fs)) ≡ good_in (event_of fs)
  frames_count [] = refl
  frames_count (good command bytes ∷ rest) = rw (eq-eqb (length bytes) _ refl)
  frames_count (refused refusal ∷ rest) = refusal_counts refusal

  frames_lay : (fs : List Ended) → laid_over (frame_in (event_of fs) (data_of_first fs)) buffer ≡ overlaid (data_of_first fs) buffer
  frames_lay [] = sym (nothing_laid buffer)
  frames_lay (good command bytes ∷ rest) = rw (eq-eqb (length bytes) _ refl)
  frames_lay (refused refusal ∷ rest) = refusal_lays refusal

  refused_fair : (held : Held) (refusal : Refusal) (piece : List ℕ) → Fair piece buffer (unheard held refusal)
  refused_fair held refusal piece = record { within = omega arith; counts = refusal_counts refusal; lays = refusal_lays refusal }

  heard_fair : (u : Unfinished) (piece : List ℕ) → Fair piece buffer (heard_of u piece)
  heard_fair u piece =
      let fs : List Ended = frames_from u (take (taken u piece) piece) in
      record { within = taken_within u piece; counts = frames_count fs; lays = frames_lay fs }

  pub fair : (held : Held) (piece : List ℕ) (room : ℕ) → Fair piece buffer (hearing held piece room)
  fair held piece room = by (ltb room 35) (allowed held) refl refl
    where
      by : (s t : Bool) → ltb room 35 ≡ s → allowed held ≡ t → Fair piece buffer (hearing held piece room)
      by true t e f = rw (hearing_short held piece room (ltb-true room 35 e)) (refused_fair held short_buffer piece)
      by false false e f = rw (hearing_stray held piece room (ltb-false room 35 e) f) (refused_fair held not_allowed piece)
      by false true e f = rw (hearing_heard held piece room (ltb-false room 35 e) f) (heard_fair (unfinished held) piece)

pub good_most : (event : Event) → good_in event ≤ 1
good_most (Ok None) = omega arith
good_most (Ok (Some frame)) = omega arith
good_most (Err refusal) = omega arith

-- A loop over the sizes speaks of what is left.
pub record Going (bytes sizes into₀ into : List ℕ) (held : Held) (left : List ℕ) (count i : ℕ) : Type 0 where
  pub few : count ≤ i
  pub long : length into ≡ length into₀
  pub counts : count + good_ones (streaming held left (drop i sizes) (length into₀)) ≡ good_ones (streaming (held_of outside) bytes sizes (length into₀))
  pub lays : laid_over (streaming held left (drop i sizes) (length into₀)) into ≡ laid_over (streaming (held_of outside) bytes sizes (length into₀)) into₀

module _ {bytes sizes into₀ : List ℕ} where
  pub going_start : {held : Held} → held ≡ held_of outside → Going bytes sizes into₀ into₀ held bytes 0 0
  going_start is = rw is (record { few = omega arith; long = refl; counts = zero-add _; lays = refl })

  module _ {into left : List ℕ} {held : Held} {count i : ℕ} where
    -- one turn: the call's answer, and what it leaves of the buffer
    module _ (some : i < length sizes) {piece : List ℕ} (piece-is : piece ≡ take (get_or sizes i 0) left) {into₁ : List ℕ} {r : Heard}
        (g : Gives Heard (hearing held piece (length into)) into r into₁) (w : Going bytes sizes into₀ into held left count i) where
      called : Gives Heard (hearing held piece (length into₀)) into r into₁
      called = rw w.long at g

      pub turn_within : r.taken ≤ length left
      turn_within =
          let is : r.taken ≡ (hearing held piece (length into₀)).answer.taken = ap (λ (h : Heard). h.taken) called.answered in
          let few : (hearing held piece (length into₀)).answer.taken ≤ length piece = (fair into held piece (length into₀)).within in
          let part : length piece ≡ min (get_or sizes i 0) (length left) = ap length piece-is ∙ length-take (get_or sizes i 0) left in
          omega arith

      rest_is : streaming held left (drop i sizes) (length into₀)
          ≡ (hears held (length into₀) piece).events ++ streaming r.held (drop r.taken left) (drop (i + 1) sizes) (length into₀)
      rest_is =
          ap (λ (l : List ℕ). streaming held left l (length into₀)) (drop_turn sizes i some)
          ∙ stream_more held left (length into₀) (get_or sizes i 0) (drop (i + 1) sizes)
          ∙ ap (λ (p : List ℕ). (hears held (length into₀) p).events ++ streaming (hears held (length into₀) p).state (drop (hears held (length into₀) p).taken left) (drop (i + 1) sizes) (length into₀)) (sym piece-is)
          ∙ ap (λ (h : Heard). (hears held (length into₀) piece).events ++ streaming h.held (drop h.taken left) (drop (i + 1) sizes) (length into₀)) (sym called.answered)

      pub going_turn : length into₁ ≡ length into → {m : ℕ} → m ≡ good_in r.event → Going bytes sizes into₀ into₁ r.held (drop r.taken left) (count + m) (i + 1)
      going_turn same {m} m-is =
          let f = fair into held piece (length into₀) in
          let here : List Ended = (hears held (length into₀) piece).events in
          let later : List Ended = streaming r.held (drop r.taken left) (drop (i + 1) sizes) (length into₀) in
          let one : m ≡ good_ones here = m-is ∙ ap (λ (h : Heard). good_in h.event) called.answered ∙ sym f.counts in
          let sum : good_ones (streaming held left (drop i sizes) (length into₀)) ≡ good_ones here + good_ones later = ap good_ones rest_is ∙ good_append here later in
          let all : count + good_ones (streaming held left (drop i sizes) (length into₀)) ≡ good_ones (streaming (held_of outside) bytes sizes (length into₀)) = w.counts in
          let most : good_in r.event ≤ 1 = good_most r.event in
          let before : count ≤ i = w.few in
          record {
            few = omega (arith, m-is);
            long = same ∙ w.long;
            counts = omega arith;
            lays =
                ap (laid_over later) (called.left ∙ sym f.lays) ∙ sym (laid_append here later into)
                ∙ ap (λ (fs : List Ended). laid_over fs into) (sym rest_is) ∙ w.lays;
          }

    pub going_end : length sizes ≤ i → Going bytes sizes into₀ into held left count i → Streamed (streaming (held_of outside) bytes sizes (length into₀)) into₀ count into
    going_end none w =
        let gone : streaming held left (drop i sizes) (length into₀) ≡ [] =
        ap (λ (l : List ℕ). streaming held left l (length into₀)) (drop_of_length-le sizes none) ∙ stream_none held left (length into₀) in
        let empty : good_ones (streaming held left (drop i sizes) (length into₀)) ≡ 0 = ap good_ones gone in
        let all : count + good_ones (streaming held left (drop i sizes) (length into₀)) ≡ good_ones (streaming (held_of outside) bytes sizes (length into₀)) = w.counts in
        record { counted = omega arith; left = ap (λ (fs : List Ended). laid_over fs into) (sym gone) ∙ w.lays }
