-- Document 01, Frames: "Digits are `0`-`9`, `A`-`F` only." Assumes nothing.
use Rattle.std.specs.Prelude.{ℕ, ◌+◌, ◌-◌, Bool, cond, ◌&&◌, ltb, leb}

-- the character of a nibble: 0 to 9 are the bytes from 48 on, A to F those from 65 on
unfoldable pub digit : ℕ → ℕ
digit n = cond (ltb n 10) (48 + n) (55 + n)

-- the nibble that a character means, and 16 where it is no digit
unfoldable pub nibble : ℕ → ℕ
nibble c = cond (leb 48 c && leb c 57) (c - 48) (cond (leb 65 c && leb c 70) (c - 55) 16)

abbrev pub is_digit : ℕ → Bool
is_digit c = ltb (nibble c) 16
