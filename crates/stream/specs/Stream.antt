-- What a row of bytes says, read from its first byte to its last: no calls, no pieces and no buffers are in it. Document 01, Frames:
-- "Outside a frame every byte but a colon is skipped. Inside one, a newline ends it. A colon inside one ends it as broken and begins the
-- next (*ours*)." Assumes nothing.
use Rattle.std.specs.Prelude.{ℕ, zero, suc, min, Bool, false, cond, ◌||◌, List, [], ◌∷◌, ◌++◌, length, eqb}
use Rattle.paper.specs.Numbers.{colon, newline}
use Rattle.wire.specs.Parsing.{Ended, body_says, broken_says}

-- where the reading is: outside a frame, or inside one with the characters since its colon
pub data Unfinished : Type 0 where
  outside : Unfinished
  inside : List ℕ → Unfinished

-- what one byte makes of it
abbrev pub next : Unfinished → ℕ → Unfinished
next outside b = cond (eqb b colon) (inside []) outside
next (inside chars) b = cond (eqb b newline) outside (cond (eqb b colon) (inside []) (inside (chars ++ b ∷ [])))

-- the frame that one byte ends, if it ends one
abbrev pub ended_by : Unfinished → ℕ → List Ended
ended_by outside b = []
ended_by (inside chars) b = cond (eqb b newline) (body_says chars ∷ []) (cond (eqb b colon) (broken_says (length chars) ∷ []) [])

-- the frames of a row of bytes, in order
abbrev pub frames_from : Unfinished → List ℕ → List Ended
frames_from u [] = []
frames_from u (b ∷ bs) = ended_by u b ++ frames_from (next u b) bs

-- what is left unfinished after it
abbrev pub left_from : Unfinished → List ℕ → Unfinished
left_from u [] = u
left_from u (b ∷ bs) = left_from (next u b) bs

-- the frames of a whole byte list, and what it leaves
abbrev pub frames_of : List ℕ → List Ended
frames_of = frames_from outside

abbrev pub left_by : List ℕ → Unfinished
left_by = left_from outside

-- whether a byte ends a frame: inside one, a newline and a colon do
abbrev pub ends_frame : ℕ → Bool
ends_frame b = eqb b newline || eqb b colon

abbrev pub ends : Unfinished → ℕ → Bool
ends outside b = false
ends (inside chars) b = ends_frame b

-- the place of the first byte that ends a frame, and the length where none does
abbrev pub first_end : Unfinished → List ℕ → ℕ
first_end u [] = zero
first_end u (b ∷ bs) = cond (ends u b) zero (suc (first_end (next u b) bs))

-- "The number of bytes taken equals the place of the first frame end, plus one, or the whole length."
unfoldable pub taken : Unfinished → List ℕ → ℕ
taken u piece = min (suc (first_end u piece)) (length piece)
