-- The frame writer and the stream undo each other. Assumes nothing.
use mathlib.Core.Path.{◌≡◌, refl, ap, ◌∙◌}
use mathlib.Core.Bool.{Bool, true, false, cond}
use mathlib.Core.List.{List, [], ◌∷◌, ◌++◌}
use Prim.Native.Nat.{ℕ, ◌≤◌}
use lib.ListN.{length}
use lib.Dec.{ltb, eqb}
use Rattle.laws.specs.Lists.{every, Bytes}
use Rattle.paper.specs.Numbers as paper
use Rattle.paper.specs.Numbers.{colon, newline, most_chars}
use Rattle.wire.specs.Frame.{body, frame}
use Rattle.wire.specs.Parsing.{Ended, good, refused, body_says, broken_says}
use Rattle.wire.proofs.Nibbles.{digit_stays}
use Rattle.wire.proofs.RoundTrip.{body_all, body_says_lem, Said, said, said_nibble, said_few, said_small}
use Rattle.stream.specs.Stream.{Unfinished, outside, inside, next, frames_from, left_from, taken}
use Rattle.stream.specs.Calls.{stays}
use Rattle.stream.specs.Laws.{broken_in, HeardFromAnywhere, Writables, nothing, broken, whole, HeardIsWritable}
use Rattle.stream.proofs.Streams.{whole_frames, whole_left, whole_taken}

pub frame_heard : (command : ℕ) (bytes : List ℕ) → command ≤ 15 → length bytes ≤ 35 → Bytes bytes → (rest : List ℕ)
    → (frames_from outside (frame command bytes ++ rest) ≡ good command bytes ∷ frames_from outside rest)
    × (left_from outside (frame command bytes ++ rest) ≡ left_from outside rest)
    × (taken outside (frame command bytes ++ rest) ≡ length (frame command bytes))
unfolding frame
frame_heard command bytes nib few small rest =
    let staying : every stays (body command bytes) ≡ true = body_all command bytes nib few small.below stays digit_stays in (
      whole_frames (body command bytes) rest staying ∙ rw (body_says_lem command bytes nib few small.below),
      whole_left (body command bytes) rest staying,
      whole_taken (body command bytes) rest staying,
    )

-- from anywhere: a colon ends what it ends, and then is the first byte of a frame
colon_anywhere : (u : Unfinished) (xs : List ℕ) → (frames_from u (colon ∷ xs) ≡ broken_in u ++ frames_from outside (colon ∷ xs)) × (left_from u (colon ∷ xs) ≡ left_from outside (colon ∷ xs))
colon_anywhere outside xs = (refl, refl)
colon_anywhere (inside chars) xs = (refl, refl)

pub heard_anywhere : HeardFromAnywhere
unfolding frame
heard_anywhere u command bytes nib few small rest =
    let one = frame_heard command bytes nib few small rest in
    let at = colon_anywhere u ((body command bytes ++ newline ∷ []) ++ rest) in
    (at.0 ∙ ap (λ (fs : List Ended). broken_in u ++ fs) one.0, at.1 ∙ one.1)

-- What is heard on the stream.

body_writable : (chars : List ℕ) (rest : List Ended) → Writables rest → Writables (body_says chars ∷ rest)
body_writable chars rest others = by (body_says chars) refl
  where
    by : (e : Ended) → body_says chars ≡ e → Writables (e ∷ rest)
    by (good command bytes) e =
        let s : Said chars command bytes = said chars command bytes e in
        whole (record { nibble = said_nibble chars command bytes s; few = said_few chars command bytes s; small = said_small chars command bytes s }) others
    by (refused refusal) e = broken others

broken_writable : (count : ℕ) (rest : List Ended) → Writables rest → Writables (broken_says count ∷ rest)
unfolding broken_says
broken_writable count rest others = by (ltb most_chars count)
  where
    by : (long : Bool) → Writables (cond long (refused paper.too_long) (refused paper.no_digit) ∷ rest)
    by true = broken others
    by false = broken others

ended_writable : (chars : List ℕ) (n c : Bool) (rest : List Ended) → Writables rest
    → Writables (cond n (body_says chars ∷ []) (cond c (broken_says (length chars) ∷ []) []) ++ rest)
ended_writable chars true c rest others = body_writable chars rest others
ended_writable chars false true rest others = broken_writable (length chars) rest others
ended_writable chars false false rest others = others

pub heard_writable : HeardIsWritable
heard_writable u [] = nothing
heard_writable outside (b ∷ bs) = heard_writable (next outside b) bs
heard_writable (inside chars) (b ∷ bs) = ended_writable chars (eqb b newline) (eqb b colon) _ (heard_writable (next (inside chars) b) bs)
