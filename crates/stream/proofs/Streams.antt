-- Laws of the stream's definitions: rows of bytes one after the other, rows that end no frame, and the place where the first frame
-- ends. Assumes nothing.
use mathlib.Core.Path.{◌≡◌, refl, sym, ap, ◌∙◌}
use mathlib.Core.Bool.{Bool, true, false, not, ◌||◌, false≢true}
use mathlib.Core.List.{List, [], ◌∷◌, ◌++◌, append_assoc, append-nil}
use Prim.Native.Nat.{ℕ, suc, ◌+◌, ◌≤◌}
use native.Mathlib.Omega.{arith}
use borrow.Author.Tests.{not-true}
use lib.ListN.{length, length-append}
use lib.Dec.{eqb}
use Rattle.laws.specs.Lists.{every}
use Rattle.laws.proofs.Bools.{and_left, and_right, nor_left, nor_right}
use Rattle.paper.specs.Numbers.{colon, newline}
use Rattle.wire.specs.Parsing.{Ended, body_says}
use Rattle.stream.specs.Stream.{Unfinished, outside, inside, next, ended_by, frames_from, left_from, ends, first_end, taken}
use Rattle.stream.specs.Calls.{stays}

-- Rows of bytes one after the other.

pub left_append : (u : Unfinished) (xs ys : List ℕ) → left_from u (xs ++ ys) ≡ left_from (left_from u xs) ys
left_append u [] ys = refl
left_append u (x ∷ xs) ys = left_append (next u x) xs ys

pub frames_append : (u : Unfinished) (xs ys : List ℕ) → frames_from u (xs ++ ys) ≡ frames_from u xs ++ frames_from (left_from u xs) ys
frames_append u [] ys = refl
frames_append u (x ∷ xs) ys =
    ap (λ (fs : List Ended). ended_by u x ++ fs) (frames_append (next u x) xs ys)
    ∙ sym (append_assoc (ended_by u x) (frames_from (next u x) xs) (frames_from (left_from (next u x) xs) ys))

-- A byte ends a frame exactly where a frame comes of it.

pub ends_none : (u : Unfinished) (b : ℕ) → ended_by u b ≡ [] → ends u b ≡ false
ends_none outside b e = refl
ends_none (inside chars) b e = by (eqb b newline) (eqb b colon) refl refl
  where
    by : (s t : Bool) → eqb b newline ≡ s → eqb b colon ≡ t → ends (inside chars) b ≡ false
    by true t p q = let z : ◌≡◌ {A = ℕ} 1 0 = ap length (simp (p, q) at e) in absurd (omega arith)
    by false true p q = let z : ◌≡◌ {A = ℕ} 1 0 = ap length (simp (p, q) at e) in absurd (omega arith)
    by false false p q = simp (p, q)

pub none_ends : (u : Unfinished) (b : ℕ) → ends u b ≡ false → ended_by u b ≡ []
none_ends outside b e = refl
none_ends (inside chars) b e = by (eqb b newline) (eqb b colon) refl refl
  where
    by : (s t : Bool) → eqb b newline ≡ s → eqb b colon ≡ t → ended_by (inside chars) b ≡ []
    by true t p q = absurd (false≢true (sym (simp (p, q) at e)))
    by false true p q = absurd (false≢true (sym (simp (p, q) at e)))
    by false false p q = simp (p, q)

-- A row that ends no frame is taken whole, and the first end after it is where it would be without it.

nil_left : (fs gs : List Ended) → fs ++ gs ≡ [] → fs ≡ []
nil_left [] gs e = refl
nil_left (f ∷ fs) gs e = let z : ◌≡◌ {A = ℕ} (suc (length (fs ++ gs))) 0 = ap length e in absurd (omega arith)

nil_right : (fs gs : List Ended) → fs ++ gs ≡ [] → gs ≡ []
nil_right [] gs e = e
nil_right (f ∷ fs) gs e = let z : ◌≡◌ {A = ℕ} (suc (length (fs ++ gs))) 0 = ap length e in absurd (omega arith)

pub quiet_end : (u : Unfinished) (xs ys : List ℕ) → frames_from u xs ≡ [] → first_end u (xs ++ ys) ≡ length xs + first_end (left_from u xs) ys
quiet_end u [] ys e = omega arith
quiet_end u (x ∷ xs) ys e =
    let here : ended_by u x ≡ [] = nil_left (ended_by u x) (frames_from (next u x) xs) e in
    let later : frames_from (next u x) xs ≡ [] = nil_right (ended_by u x) (frames_from (next u x) xs) e in
    rw (ends_none u x here) (omega (arith, quiet_end (next u x) xs ys later))

pub quiet_taken : (u : Unfinished) (xs ys : List ℕ) → frames_from u xs ≡ [] → taken u (xs ++ ys) ≡ length xs + taken (left_from u xs) ys
unfolding taken
quiet_taken u xs ys e = omega (arith, quiet_end u xs ys e, length-append xs ys)

-- no more is taken than there is
pub taken_within : (u : Unfinished) (piece : List ℕ) → taken u piece ≤ length piece
unfolding taken
taken_within u piece = omega arith

-- with nothing after it
pub quiet_all : (u : Unfinished) (xs : List ℕ) → frames_from u xs ≡ [] → taken u xs ≡ length xs
unfolding taken
quiet_all u xs e = let z : first_end u xs ≡ length xs + 0 = rw append-nil at (quiet_end u xs [] e) in omega arith

-- with a byte after it that ends a frame
pub quiet_then : (u : Unfinished) (xs : List ℕ) (b : ℕ) (ys : List ℕ) → frames_from u xs ≡ [] → ends (left_from u xs) b ≡ true → taken u (xs ++ b ∷ ys) ≡ length xs + 1
unfolding taken
quiet_then u xs b ys e f = quiet_taken u xs (b ∷ ys) e ∙ rw f (omega arith)

-- Characters that stay in their frame, and bytes outside a frame that begin none.

stay_next : (chars : List ℕ) (x : ℕ) → stays x ≡ true → next (inside chars) x ≡ inside (chars ++ x ∷ [])
stay_next chars x e =
    let none : (eqb x newline || eqb x colon) ≡ false = not-true _ e in
    simp (nor_left (eqb x newline) (eqb x colon) none, nor_right (eqb x newline) (eqb x colon) none)

stay_ends : (chars : List ℕ) (x : ℕ) → stays x ≡ true → ended_by (inside chars) x ≡ []
stay_ends chars x e =
    let none : (eqb x newline || eqb x colon) ≡ false = not-true _ e in
    simp (nor_left (eqb x newline) (eqb x colon) none, nor_right (eqb x newline) (eqb x colon) none)

pub stay_left : (chars xs : List ℕ) → every stays xs ≡ true → left_from (inside chars) xs ≡ inside (chars ++ xs)
stay_left chars [] e = ap inside (sym (append-nil chars))
stay_left chars (x ∷ xs) e =
    ap (λ (u : Unfinished). left_from u xs) (stay_next chars x (and_left (stays x) (every stays xs) e))
    ∙ stay_left (chars ++ x ∷ []) xs (and_right (stays x) (every stays xs) e)
    ∙ ap inside (append_assoc chars (x ∷ []) xs)

pub stay_frames : (chars xs : List ℕ) → every stays xs ≡ true → frames_from (inside chars) xs ≡ []
stay_frames chars [] e = refl
stay_frames chars (x ∷ xs) e =
    let here : stays x ≡ true = and_left (stays x) (every stays xs) e in
    ap (λ (fs : List Ended). fs ++ frames_from (next (inside chars) x) xs) (stay_ends chars x here)
    ∙ ap (λ (u : Unfinished). frames_from u xs) (stay_next chars x here)
    ∙ stay_frames (chars ++ x ∷ []) xs (and_right (stays x) (every stays xs) e)

abbrev pub is_noise : ℕ → Bool
is_noise b = not (eqb b colon)

pub noise_left : (xs : List ℕ) → every is_noise xs ≡ true → left_from outside xs ≡ outside
noise_left [] e = refl
noise_left (x ∷ xs) e =
    rw (not-true (eqb x colon) (and_left (is_noise x) (every is_noise xs) e)) (noise_left xs (and_right (is_noise x) (every is_noise xs) e))

pub noise_frames : (xs : List ℕ) → every is_noise xs ≡ true → frames_from outside xs ≡ []
noise_frames [] e = refl
noise_frames (x ∷ xs) e =
    rw (not-true (eqb x colon) (and_left (is_noise x) (every is_noise xs) e)) (noise_frames xs (and_right (is_noise x) (every is_noise xs) e))

-- a colon after them begins a frame
pub colon_left : (xs : List ℕ) → every is_noise xs ≡ true → left_from outside (xs ++ colon ∷ []) ≡ inside []
colon_left xs e = left_append outside xs (colon ∷ []) ∙ rw (noise_left xs e)

pub colon_frames : (xs : List ℕ) → every is_noise xs ≡ true → frames_from outside (xs ++ colon ∷ []) ≡ []
colon_frames xs e = frames_append outside xs (colon ∷ []) ∙ rw (noise_frames xs e, noise_left xs e)

-- A whole frame: a colon, characters that stay in it, and a newline. What is after it is read as if it stood alone.

pub whole_frames : (chars rest : List ℕ) → every stays chars ≡ true → frames_from outside ((colon ∷ chars ++ newline ∷ []) ++ rest) ≡ body_says chars ∷ frames_from outside rest
whole_frames chars rest e =
    rw (append_assoc chars (newline ∷ []) rest, frames_append (inside []) chars (newline ∷ rest), stay_frames [] chars e, stay_left [] chars e)

pub whole_left : (chars rest : List ℕ) → every stays chars ≡ true → left_from outside ((colon ∷ chars ++ newline ∷ []) ++ rest) ≡ left_from outside rest
whole_left chars rest e =
    rw (append_assoc chars (newline ∷ []) rest, left_append (inside []) chars (newline ∷ rest), stay_left [] chars e)

pub whole_taken : (chars rest : List ℕ) → every stays chars ≡ true
    → taken outside ((colon ∷ chars ++ newline ∷ []) ++ rest) ≡ length (colon ∷ chars ++ newline ∷ [])
whole_taken chars rest e =
    let ended : ends (left_from (inside []) chars) newline ≡ true = rw (stay_left [] chars e) in
    rw (append_assoc chars (newline ∷ []) rest) (quiet_then outside (colon ∷ chars) newline rest (stay_frames [] chars e) ended)
    ∙ sym (length-append (colon ∷ chars) (newline ∷ []))
