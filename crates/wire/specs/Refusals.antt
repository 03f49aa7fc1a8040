-- Document 01, "Numbers of refusal": rows 1 to 4, each with its condition alone, no other number in it. Assumes nothing.
use Rattle.std.specs.Prelude.{ℕ, ◌+◌, ◌*◌, ◌%◌, Bool, Ok, Err, not, ◌&&◌, ◌||◌, List, [], ◌∷◌, length, drop, get_or, ltb, leb, eqb}
use Rattle.std.proofs.Math.Option.{Option, none, some}
use Rattle.laws.specs.Lists.{every, before}
use Rattle.laws.specs.Refusals.{Row, row}
use Rattle.paper.specs.Numbers as paper
use Rattle.paper.specs.Numbers.{number_of}
use Rattle.wire.specs.Parsing.{Ended, good, refused}
use Rattle.wire.specs.Answers.{Written, Read}

-- "Digits are `0`-`9`, `A`-`F` only."
abbrev pub is_hex : ℕ → Bool
is_hex c = (leb 48 c && leb c 57) || (leb 65 c && leb c 70)

-- The sixteen, written out, and what a character means: its place among them.
abbrev pub sixteen : List ℕ
sixteen = 48 ∷ 49 ∷ 50 ∷ 51 ∷ 52 ∷ 53 ∷ 54 ∷ 55 ∷ 56 ∷ 57 ∷ 65 ∷ 66 ∷ 67 ∷ 68 ∷ 69 ∷ 70 ∷ []

unfoldable pub value : ℕ → ℕ
value c = before (λ x. eqb x c) sixteen

-- "A frame is `:`, a command nibble, data bytes as two digits each, a check byte as two digits": what they add up to
abbrev pub pairs_total : List ℕ → ℕ
pairs_total [] = 0
pairs_total (x ∷ []) = 0
pairs_total (x ∷ y ∷ rest) = value x * 16 + value y + pairs_total rest

abbrev pub total : List ℕ → ℕ
total chars = value (get_or chars 0 0) + pairs_total (drop 1 chars)

-- the rows of the characters since the colon and of the byte that ended the frame, a newline or a colon: 1 "over 73 characters in the
-- frame"; 2 "a character is no digit, or a colon broke it"; 3 "under 3 characters, or an even count"; 4 "sum is not 0x55"
abbrev pub faults : List ℕ → ℕ → List Row
faults chars ending =
    row 1 (ltb 73 (length chars))
    ∷ row 2 (not (every is_hex chars) || eqb ending paper.colon)
    ∷ row 3 (ltb (length chars) 3 || eqb (length chars % 2) 0)
    ∷ row 4 (not (eqb (total chars % 256) 0x55))
    ∷ []

-- the number that was given
abbrev pub fault_of : Ended → Option ℕ
fault_of (good command bytes) = none
fault_of (refused refusal) = some (number_of refusal)

abbrev pub refusal_of : Read → Option ℕ
refusal_of (Ok frame) = none
refusal_of (Err refusal) = some (number_of refusal)

abbrev pub write_refusal_of : Written → Option ℕ
write_refusal_of (Ok len) = none
write_refusal_of (Err refusal) = some (number_of refusal)
