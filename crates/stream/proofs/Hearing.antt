-- What a call on the stream hears, by where the first frame ends in the piece. Assumes nothing.
use mathlib.Core.Path.{◌≡◌, refl, sym, ap, ◌∙◌}
use mathlib.Core.Bool.{Bool, true, false, or-false, false≢true}
use mathlib.Core.List.{List, [], ◌∷◌, ◌++◌, append_assoc, append-nil}
use Prim.Native.Nat.{ℕ, suc, ◌+◌, ◌≤◌, ◌<◌}
use native.Mathlib.Omega.{arith}
use native.Mathlib.Numerals.{add-one}
use borrow.Author.Tests.{eqb-true, ne_eqb}
use lib.ListN.{length, take, drop, get_or, length-append, length-take}
use lib.Seq.{take-length, take-append-add, length-take-le, split_at}
use lib.Dec.{eqb}
use Rattle.laws.specs.Lists.{every, before}
use Rattle.laws.specs.Promise.{Given, Gives}
use Rattle.laws.proofs.Lists.{before_first}
use Rattle.paper.specs.Numbers.{colon, newline}
use Rattle.paper.specs.declared.Refusal.{Refusal}
use Rattle.wire.specs.Parsing.{refused, body_says, broken_says}
use Rattle.wire.specs.Calls.{read_as, parsing_chars}
use Rattle.wire.specs.Answers.{Read}
use Rattle.std.specs.Prelude.{Ok, Err, None}
use Rattle.wire.proofs.Answers.{chars_read}
use Rattle.spans.specs.Few.{those}
use Rattle.spans.proofs.Fews.{those_back}
use Rattle.stream.specs.Stream.{Unfinished, outside, inside, ended_by, ends_frame, frames_from, left_from, ends, taken}
use Rattle.stream.specs.Calls.{allowed, held_of, unfinished, heard_of, ended_as, stays}
use Rattle.stream.specs.declared.Held.{Held}
use Rattle.stream.specs.declared.Heard.{Heard}
use Rattle.stream.proofs.Helds.{body_capped, broken_capped, held_chars, held_same, unfinished_inside, unfinished_outside}
use Rattle.stream.proofs.Streams.{left_append, frames_append, quiet_all, quiet_then, quiet_taken, stay_left, stay_frames, is_noise, noise_left, noise_frames, colon_left, colon_frames}

-- no frame ends: the whole piece is taken
abbrev pub heard_nothing : Unfinished → ℕ → Given Heard
heard_nothing u n = record { answer = record { held = held_of u; event = Ok None; taken = n }; written = [] }

pub hear_nothing : (u : Unfinished) (piece : List ℕ) → frames_from u piece ≡ [] → heard_of u piece ≡ heard_nothing (left_from u piece) (length piece)
hear_nothing u piece e = rw (quiet_all u piece e, take-length piece, e)

-- a byte ends a frame after others that end none: they are taken
pub hear_end : (u : Unfinished) (xs : List ℕ) (b : ℕ) (ys : List ℕ) → frames_from u xs ≡ [] → ends (left_from u xs) b ≡ true
    → heard_of u (xs ++ b ∷ ys) ≡ ended_as (left_from u xs) b (length xs + 1)
hear_end u xs b ys quiet ending =
    let bytes : take (taken u (xs ++ b ∷ ys)) (xs ++ b ∷ ys) ≡ xs ++ b ∷ [] = rw (quiet_then u xs b ys quiet ending, take-append-add xs (b ∷ ys) 1) in
    let frames : frames_from u (xs ++ b ∷ []) ≡ ended_by (left_from u xs) b = frames_append u xs (b ∷ []) ∙ rw (quiet, append-nil) in
    rw (bytes, left_append u xs (b ∷ []), frames, quiet_then u xs b ys quiet ending)

-- after bytes that end no frame, what is heard is what is heard from where they leave
abbrev pub behind : ℕ → Given Heard → Given Heard
behind n g =
    record { answer = record { held = g.answer.held; event = g.answer.event; taken = n + g.answer.taken }; written = g.written }

pub hear_behind : (u : Unfinished) (xs ys : List ℕ) → frames_from u xs ≡ []
    → heard_of u (xs ++ ys) ≡ behind (length xs) (heard_of (left_from u xs) ys)
hear_behind u xs ys quiet =
    let bytes : take (taken u (xs ++ ys)) (xs ++ ys) ≡ xs ++ take (taken (left_from u xs) ys) ys = rw (quiet_taken u xs ys quiet, take-append-add) in
    rw (bytes, left_append, frames_append, quiet, quiet_taken u xs ys quiet)

-- Inside a frame, in the words of the code: `end` is the first place of a newline or a colon.

module _ (chars piece : List ℕ) (end : ℕ) (first : end ≡ before ends_frame piece) where
  pub inside_nothing : end ≡ length piece → heard_of (inside chars) piece ≡ heard_nothing (inside (chars ++ piece)) end
  inside_nothing all =
      let staying : every stays piece ≡ true = rw (← first, all, take-length piece) at (before_first ends_frame piece).none in
      hear_nothing (inside chars) piece (stay_frames chars piece staying) ∙ rw (stay_left chars piece staying, all)

  module _ (some : end < length piece) where
    pub end_there : ends_frame (get_or piece end 0) ≡ true
    end_there = rw (← first) at ((before_first ends_frame piece).some (rw first at some))

    pub inside_ended : heard_of (inside chars) piece ≡ ended_as (inside (chars ++ take end piece)) (get_or piece end 0) (end + 1)
    inside_ended =
        let staying : every stays (take end piece) ≡ true = rw (← first) at (before_first ends_frame piece).none in
        let left : left_from (inside chars) (take end piece) ≡ inside (chars ++ take end piece) = stay_left chars (take end piece) staying in
        let short : end ≤ length piece = omega arith in
        ap (λ (l : List ℕ). heard_of (inside chars) l) (split_at piece end 0 some)
        ∙ hear_end (inside chars) (take end piece) (get_or piece end 0) (drop (suc end) piece) (stay_frames chars (take end piece) staying) (rw left end_there)
        ∙ rw (left, length-take-le end piece short)

-- a colon breaks it, and what ends a frame and is no colon is a newline
pub colon_ends : (chars : List ℕ) (n : ℕ) {r : Refusal} → refused r ≡ broken_says (length chars)
    → ended_as (inside chars) colon n ≡ record { answer = record { held = held_of (inside []); event = Err r; taken = n }; written = [] }
colon_ends chars n e = rw (← e)

pub newline_there : (b : ℕ) → ends_frame b ≡ true → (b ≡ colon → ⊥) → b ≡ newline
newline_there b e other = eqb-true b newline (rw (ne_eqb b colon other, or-false) at e)

-- what ends a frame makes the same of its first 74 characters
pub ended_capped : (chars : List ℕ) (b n : ℕ) → ends_frame b ≡ true → ended_as (inside (take 74 chars)) b n ≡ ended_as (inside chars) b n
ended_capped chars b n e = by (eqb b newline) (eqb b colon) refl refl
  where
    by : (s t : Bool) → eqb b newline ≡ s → eqb b colon ≡ t → ended_as (inside (take 74 chars)) b n ≡ ended_as (inside chars) b n
    by true t p q = simp (p, body_capped chars)
    by false true p q = simp (p, q, length-take, broken_capped (length chars))
    by false false p q = absurd (false≢true (rw (p, q) at e))

pub begun_more : (piece : List ℕ) (b held : Held) → b ≡ held_of (inside []) → held ≡ held_of (inside (those b.chars ++ piece)) → held ≡ held_of (inside piece)
unfolding held_of
begun_more piece b held is e = rw (is, those_back 74 []) at e

-- Outside a frame, with the place of the first colon.

abbrev pub colon_at : ℕ → Bool
colon_at b = eqb b colon

module _ (piece : List ℕ) where
  pub outside_nothing : before colon_at piece ≡ length piece → heard_of outside piece ≡ heard_nothing outside (length piece)
  outside_nothing e =
      let noise : every is_noise piece ≡ true = rw (e, take-length piece) at (before_first colon_at piece).none in
      hear_nothing outside piece (noise_frames piece noise) ∙ rw (noise_left piece noise)

  pub outside_frame : before colon_at piece < length piece
      → heard_of outside piece
      ≡ behind (before colon_at piece + 1) (heard_of (inside []) (drop (before colon_at piece + 1) piece))
  outside_frame h =
      let n : ℕ = before colon_at piece in
      let noise : every is_noise (take n piece) ≡ true = (before_first colon_at piece).none in
      let is : get_or piece n 0 ≡ colon = eqb-true _ _ ((before_first colon_at piece).some h) in
      let split : piece ≡ (take n piece ++ colon ∷ []) ++ drop (n + 1) piece =
      rw (is, ← add-one n) at (split_at piece n 0 h) ∙ sym (append_assoc (take n piece) (colon ∷ []) (drop (n + 1) piece)) in
      let short : n ≤ length piece = omega arith in
      ap (λ (l : List ℕ). heard_of outside l) split
      ∙ hear_behind outside (take n piece ++ colon ∷ []) (drop (n + 1) piece) (colon_frames (take n piece) noise)
      ∙ rw (colon_left (take n piece) noise, length-append, length-take-le n piece short)

-- The call inside a frame, in the words of the code: `end` is the first place of a newline or a colon, `whole` the state with the
-- characters up to there.

module _ (h : Held) (in-it : h.inside ≡ true) (piece : List ℕ) (end : ℕ) (first : end ≡ before ends_frame piece)
    (whole : Held) (kept : whole ≡ held_of (inside (those h.chars ++ take end piece))) where
  pub call_nothing : end ≡ length piece → heard_of (unfinished h) piece ≡ record { answer = record { held = whole; event = Ok None; taken = end }; written = [] }
  call_nothing all = rw (unfinished_inside h in-it, kept, all, take-length piece) (rw all at (inside_nothing (those h.chars) piece end first all))

  pub call_ended : end < length piece → heard_of (unfinished h) piece ≡ ended_as (inside (those whole.chars)) (get_or piece end 0) (end + 1)
  unfolding held_of
  call_ended some =
      rw (unfinished_inside h in-it, kept, held_chars, ended_capped _ (get_or piece end 0) (end + 1) (end_there (those h.chars) piece end first some))
      (inside_ended (those h.chars) piece end first some)

-- The call outside a frame: `skipped` is the place of the first colon.

module _ (h : Held) (ok : allowed h ≡ true) (long : length h.chars.bytes ≡ 74) (out : h.inside ≡ false) (piece : List ℕ) (skipped : ℕ) (first : skipped ≡ before colon_at piece) where
  pub call_skipped : skipped ≡ length piece → heard_of (unfinished h) piece ≡ record { answer = record { held = h; event = Ok None; taken = skipped }; written = [] }
  call_skipped all =
      let same : held_of outside ≡ h = rw (unfinished_outside h out) at (held_same h ok long) in
      rw (unfinished_outside h out) (outside_nothing piece (sym first ∙ all) ∙ rw (same, all))

  pub call_begun : skipped < length piece
      → heard_of (unfinished h) piece
      ≡ behind (skipped + 1) (heard_of (inside []) (drop (skipped + 1) piece))
  call_begun some = rw (unfinished_outside h out, first) (outside_frame piece (rw first at some))

-- The characters of a frame that ended, read into room enough.

pub chars_said : (chars buffer : List ℕ) {r : Read} {l : List ℕ} → 35 ≤ length buffer → Gives Read (parsing_chars chars (length buffer)) buffer r l
    → Gives Read (read_as (body_says chars)) buffer r l
chars_said chars buffer enough met = rw (chars_read chars (length buffer) enough) at met

pub gives_behind : (g : Given Heard) (n : ℕ) (buffer : List ℕ) (r : Heard) (l : List ℕ) → Gives Heard g buffer r l
    → Gives Heard (behind n g) buffer (record { held = r.held; event = r.event; taken = n + r.taken }) l
gives_behind g n buffer r l met =
    record { answered = ap (λ (x : Heard). record { held = x.held; event = x.event; taken = n + x.taken }) met.answered; left = met.left }
