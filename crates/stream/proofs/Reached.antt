-- The states that bytes leave: they are allowed, and there are no others. What is not kept past the 74th character never shows.
-- Assumes nothing.
use mathlib.Core.Path.{◌≡◌, refl, sym, ap, ap₂, subst, ◌∙◌}
use mathlib.Core.Bool.{Bool, true, false}
use mathlib.Core.List.{List, [], ◌∷◌, ◌++◌}
use Prim.Native.Nat.{ℕ}
use native.Mathlib.Omega.{arith}
use lib.ListN.{length, take, length-take}
use lib.Seq.{take-take}
use lib.Dec.{eqb}
use Rattle.laws.specs.Lists.{every}
use Rattle.laws.proofs.Lists.{every_append, take_again}
use Rattle.paper.specs.Numbers.{colon, newline}
use Rattle.wire.specs.Parsing.{Ended}
use Rattle.spans.specs.Few.{those}
use Rattle.stream.specs.Stream.{Unfinished, outside, inside, next, ended_by, frames_from, frames_of, left_from, left_by}
use Rattle.stream.specs.Calls.{allowed, stays, held_of, unfinished}
use Rattle.stream.specs.Laws.{AllowedIsLeft}
use Rattle.stream.specs.declared.Held.{Held}
use Rattle.stream.proofs.Streams.{stay_left, stay_frames}
use Rattle.stream.proofs.Helds.{allowed_inside, allowed_outside, allowed_stays, held_same, unfinished_inside, unfinished_outside, unfinished_held, body_capped, broken_capped}

-- Inside a frame neither a newline nor a colon is among the characters.

abbrev proper : Unfinished → Bool
proper outside = true
proper (inside chars) = every stays chars

proper_next : (u : Unfinished) (b : ℕ) → proper u ≡ true → proper (next u b) ≡ true
proper_next outside b e = by (eqb b colon) refl
  where
    by : (t : Bool) → eqb b colon ≡ t → proper (next outside b) ≡ true
    by true p = rw p
    by false p = rw p
proper_next (inside chars) b e = by (eqb b newline) (eqb b colon) refl refl
  where
    by : (s t : Bool) → eqb b newline ≡ s → eqb b colon ≡ t → proper (next (inside chars) b) ≡ true
    by true t p q = rw p
    by false true p q = simp (p, q)
    by false false p q = rw (p, q, every_append, e, p, q)

left_proper : (u : Unfinished) (bytes : List ℕ) → proper u ≡ true → proper (left_from u bytes) ≡ true
left_proper u [] e = e
left_proper u (b ∷ bs) e = left_proper (next u b) bs (proper_next u b e)

proper_allowed : (u : Unfinished) → proper u ≡ true → allowed (held_of u) ≡ true
proper_allowed outside e = allowed_outside
proper_allowed (inside chars) e = allowed_inside chars e

pub left_allowed : (bytes : List ℕ) → allowed (held_of (left_by bytes)) ≡ true
left_allowed bytes = proper_allowed (left_by bytes) (left_proper outside bytes refl)

-- and what more bytes make of an allowed state is allowed
pub heard_allowed : (held : Held) → allowed held ≡ true → (bytes : List ℕ) → allowed (held_of (left_from (unfinished held) bytes)) ≡ true
heard_allowed held ok bytes = proper_allowed (left_from (unfinished held) bytes) (left_proper (unfinished held) bytes (by held.inside refl))
  where
    by : (t : Bool) → held.inside ≡ t → proper (unfinished held) ≡ true
    by true e = rw (unfinished_inside held e) (allowed_stays held ok)
    by false e = rw (unfinished_outside held e)

-- Every allowed state is left by some bytes that end no frame: by none, or by a colon and the characters held.

pub left_quietly : (held : Held) → length held.chars.bytes ≡ 74 → allowed held ≡ true → (bytes : List ℕ) × (held_of (left_by bytes) ≡ held) × (frames_of bytes ≡ [])
left_quietly held long ok = by held.inside refl
  where
    by : (t : Bool) → held.inside ≡ t → (bytes : List ℕ) × (held_of (left_by bytes) ≡ held) × (frames_of bytes ≡ [])
    by true e = (
      colon ∷ those held.chars,
      ap held_of (stay_left [] (those held.chars) (allowed_stays held ok) ∙ sym (unfinished_inside held e)) ∙ held_same held ok long,
      stay_frames [] (those held.chars) (allowed_stays held ok),
    )
    by false e = ([], ap held_of (sym (unfinished_outside held e)) ∙ held_same held ok long, refl)

pub allowed_left : AllowedIsLeft
allowed_left held long = (λ ok. let some = left_quietly held long ok in (some.0, some.1), λ some. subst (λ (h : Held). allowed h ≡ true) some.1 (left_allowed some.0))

-- What is kept of an unfinished frame reads on as the whole of it does.

abbrev pub kept : Unfinished → Unfinished
kept outside = outside
kept (inside chars) = inside (take 74 chars)

pub unfinished_kept : (u : Unfinished) → unfinished (held_of u) ≡ kept u
unfinished_kept outside = unfinished_outside (held_of outside) (unfold held_of in refl)
unfinished_kept (inside chars) = unfinished_held chars

kept_held : (u : Unfinished) → held_of (kept u) ≡ held_of u
unfolding held_of
kept_held outside = refl
kept_held (inside chars) = rw (take-take 74 74 chars (omega arith))

kept_next : (u : Unfinished) (b : ℕ) → kept (next (kept u) b) ≡ kept (next u b)
kept_next outside b = refl
kept_next (inside chars) b = by (eqb b newline) (eqb b colon) refl refl
  where
    by : (s t : Bool) → eqb b newline ≡ s → eqb b colon ≡ t → kept (next (inside (take 74 chars)) b) ≡ kept (next (inside chars) b)
    by true t p q = rw p
    by false true p q = simp (p, q)
    by false false p q = rw (p, q, take_again)

kept_ended : (u : Unfinished) (b : ℕ) → ended_by (kept u) b ≡ ended_by u b
kept_ended outside b = refl
kept_ended (inside chars) b = rw (body_capped, length-take, broken_capped)

pub kept_frames : (u : Unfinished) (bytes : List ℕ) → frames_from (kept u) bytes ≡ frames_from u bytes
kept_frames u [] = refl
kept_frames u (b ∷ bs) =
    ap₂ (λ (fs gs : List Ended). fs ++ gs) (kept_ended u b)
    (sym (kept_frames (next (kept u) b) bs) ∙ ap (λ (v : Unfinished). frames_from v bs) (kept_next u b) ∙ kept_frames (next u b) bs)

kept_kept : (u : Unfinished) (bytes : List ℕ) → kept (left_from (kept u) bytes) ≡ kept (left_from u bytes)
kept_kept outside [] = refl
kept_kept (inside chars) [] = ap inside (take-take 74 74 chars (omega arith))
kept_kept u (b ∷ bs) = sym (kept_kept (next (kept u) b) bs) ∙ ap (λ (v : Unfinished). kept (left_from v bs)) (kept_next u b) ∙ kept_kept (next u b) bs

pub kept_left : (u : Unfinished) (bytes : List ℕ) → held_of (left_from (kept u) bytes) ≡ held_of (left_from u bytes)
kept_left u bytes = sym (kept_held (left_from (kept u) bytes)) ∙ ap held_of (kept_kept u bytes) ∙ kept_held (left_from u bytes)
