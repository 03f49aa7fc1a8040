-- Document 01, Frames: "A frame is `:`, a command nibble, data bytes as two digits each, a check byte as two digits, and a newline
-- (byte 10)." Assumes nothing.
use Rattle.std.specs.Prelude.{ℕ, ◌+◌, ◌-◌, ◌/◌, ◌%◌, List, [], ◌∷◌, ◌++◌}
use Rattle.paper.specs.Numbers.{colon, newline, frame_total}
use Rattle.laws.specs.Lists.{sum_of}
use Rattle.wire.specs.Digits.{digit}

-- the check byte that brings command and data to the total
unfoldable pub check : ℕ → List ℕ → ℕ
check command bytes = (frame_total + (256 - (command + sum_of bytes) % 256)) % 256

-- each byte as two digits, the high nibble first
abbrev pub digits_of : List ℕ → List ℕ
digits_of [] = []
digits_of (b ∷ bs) = digit (b / 16) ∷ digit (b % 16) ∷ digits_of bs

-- what is between colon and newline
unfoldable pub body : ℕ → List ℕ → List ℕ
body command bytes = digit command ∷ digits_of (bytes ++ check command bytes ∷ [])

unfoldable pub frame : ℕ → List ℕ → List ℕ
frame command bytes = colon ∷ body command bytes ++ newline ∷ []
