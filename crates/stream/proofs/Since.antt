-- What a state says of the bytes that left it. Assumes nothing.
use mathlib.Core.Path.{◌≡◌, refl, ap, subst, ◌∙◌}
use mathlib.Core.Bool.{Bool, true, false}
use mathlib.Core.Logic.{◌≢◌}
use mathlib.Core.List.{List, [], ◌∷◌, ◌++◌, append_assoc, append-nil}
use Prim.Native.Nat.{ℕ}
use native.Mathlib.Omega.{arith}
use borrow.Author.Tests.{eqb-true, ne_eqb}
use lib.ListN.{length}
use lib.Dec.{eqb}
use Rattle.laws.proofs.Lists.{every_append}
use Rattle.paper.specs.Numbers.{colon, newline}
use Rattle.wire.specs.Frame.{frame}
use Rattle.wire.specs.Parsing.{Ended, good, body_says, broken_says}
use Rattle.wire.proofs.RoundTrip.{said, said_body}
use Rattle.stream.specs.Stream.{Unfinished, outside, inside, next, ended_by, frames_of, left_from, left_by, ends}
use Rattle.stream.specs.Calls.{stays}
use Rattle.stream.specs.Laws.{Since, InsideIsSince, ByteEndsFrame, HeardIsWritten, NoColonIsSkipped}
use Rattle.stream.proofs.Streams.{left_append, frames_append, none_ends, stay_left, noise_left, noise_frames}

-- what is known of the bytes so far, by where they leave the reading
data Reached : Unfinished → List ℕ → Type 0 where
  out : {bytes : List ℕ} → Reached outside bytes
  since : {chars bytes : List ℕ} → Since bytes chars → Reached (inside chars) bytes

begun : (bytes : List ℕ) (b : ℕ) → eqb b colon ≡ true → Since (bytes ++ b ∷ []) []
begun bytes b e = record { before = bytes; bytes_are = rw (eqb-true b colon e); none_ends = refl }

reached_next : (u : Unfinished) (bytes : List ℕ) (b : ℕ) → Reached u bytes → Reached (next u b) (bytes ++ b ∷ [])
reached_next outside bytes b r = by (eqb b colon) refl
  where
    by : (t : Bool) → eqb b colon ≡ t → Reached (next outside b) (bytes ++ b ∷ [])
    by true p = rw p (since (begun bytes b p))
    by false p = rw p out
reached_next (inside chars) bytes b (since s) = by (eqb b newline) (eqb b colon) refl refl
  where
    by : (n t : Bool) → eqb b newline ≡ n → eqb b colon ≡ t → Reached (next (inside chars) b) (bytes ++ b ∷ [])
    by true t p q = rw p out
    by false true p q = rw (p, q) (since (begun bytes b q))
    by false false p q =
        rw (p, q)
        (since (record {
          before = s.before;
          bytes_are = ap (λ (l : List ℕ). l ++ b ∷ []) s.bytes_are ∙ append_assoc s.before (colon ∷ chars) (b ∷ []);
          none_ends = rw (every_append stays chars (b ∷ []), s.none_ends, p, q);
        }))

reached_left : (u : Unfinished) (earlier bytes : List ℕ) → Reached u earlier → Reached (left_from u bytes) (earlier ++ bytes)
reached_left u earlier [] r = rw (append-nil earlier) r
reached_left u earlier (b ∷ bs) r = rw (append_assoc earlier (b ∷ []) bs) at (reached_left (next u b) (earlier ++ b ∷ []) bs (reached_next u earlier b r))

reached_since : (chars bytes : List ℕ) → Reached (inside chars) bytes → Since bytes chars
reached_since chars bytes (since s) = s

left_since : (bytes chars : List ℕ) → left_by bytes ≡ inside chars → Since bytes chars
left_since bytes chars e = reached_since chars bytes (subst (λ (u : Unfinished). Reached u bytes) e (reached_left outside [] bytes out))

-- a colon begins a frame anywhere
colon_begins : (u : Unfinished) → next u colon ≡ inside []
colon_begins outside = refl
colon_begins (inside chars) = refl

pub inside_since : InsideIsSince
inside_since bytes chars = (
  left_since bytes chars,
  λ s. ap left_by s.bytes_are ∙ left_append outside s.before (colon ∷ chars)
      ∙ ap (λ (u : Unfinished). left_from u chars) (colon_begins (left_by s.before)) ∙ stay_left [] chars s.none_ends,
)

-- one more byte: the frames are those before it, and what it ends
module _ (bytes : List ℕ) (b : ℕ) where
  more_ends : (chars : List ℕ) (f : Ended) → Since bytes chars → ended_by (inside chars) b ≡ f ∷ [] → frames_of (bytes ++ b ∷ []) ≡ frames_of bytes ++ f ∷ []
  more_ends chars f s e = frames_append outside bytes (b ∷ []) ∙ rw ((inside_since bytes chars).1 s, e)

  more_none : ends (left_by bytes) b ≡ false → frames_of (bytes ++ b ∷ []) ≡ frames_of bytes
  more_none e = frames_append outside bytes (b ∷ []) ∙ rw (none_ends (left_by bytes) b e) (append-nil (frames_of bytes))

  neither : b ≢ newline → b ≢ colon → (u : Unfinished) → ends u b ≡ false
  neither n c outside = refl
  neither n c (inside chars) = simp (ne_eqb b newline n, ne_eqb b colon c)

  never_since : ((chars : List ℕ) → Since bytes chars → ⊥) → ends (left_by bytes) b ≡ false
  never_since none = by (left_by bytes) refl
    where
      by : (u : Unfinished) → left_by bytes ≡ u → ends u b ≡ false
      by outside left = refl
      by (inside chars) left = absurd (none chars (left_since bytes chars left))

pub byte_ends : ByteEndsFrame
byte_ends bytes =
    record {
      newline_ends = λ chars s. more_ends bytes newline chars (body_says chars) s refl;
      colon_breaks = λ chars s. more_ends bytes colon chars (broken_says (length chars)) s refl;
      other_stays = λ b n c. more_none bytes b (neither bytes b n c (left_by bytes));
      none_outside = λ b none. more_none bytes b (never_since bytes b none);
    }

-- a good frame's characters, between their colon and a newline, are the writer's frame
whole_written : (before chars : List ℕ) (command : ℕ) (into : List ℕ) → body_says chars ≡ good command into
    → (before ++ colon ∷ chars) ++ newline ∷ [] ≡ before ++ frame command into
unfolding frame
whole_written before chars command into e =
    append_assoc before (colon ∷ chars) (newline ∷ [])
    ∙ ap (λ (l : List ℕ). before ++ (colon ∷ l ++ newline ∷ [])) (said_body chars command into (said chars command into e))

pub heard_written : HeardIsWritten
heard_written bytes command into e = by (left_by bytes) refl e
  where
    by : (u : Unfinished) → left_by bytes ≡ u → ended_by u newline ≡ good command into ∷ []
        → (before : List ℕ) × (bytes ++ newline ∷ [] ≡ before ++ frame command into)
    by outside left ended = let z : ◌≡◌ {A = ℕ} 0 1 = ap length ended in absurd (omega arith)
    by (inside chars) left ended =
        let s : Since bytes chars = left_since bytes chars left in
        let is : body_says chars ≡ good command into = cc in
        (s.before, ap (λ (l : List ℕ). l ++ newline ∷ []) s.bytes_are ∙ whole_written s.before chars command into is)

pub no_colon : NoColonIsSkipped
no_colon bytes e = (noise_left bytes e, noise_frames bytes e)
