-- Numbers in a line. Assumes nothing.
use Rattle.std.specs.Prelude.{ℕ, zero, suc, ◌+◌, ◌/◌, ◌%◌, cond, List, [], ◌∷◌, ◌++◌, ltb, eqb}
use Rattle.lines.specs.Lines.{chars}

-- the last decimal digit of a number
abbrev pub last_digit : ℕ → List ℕ
last_digit n = (48 + n % 10) ∷ []

-- the digits of a number without leading zeros: those of a tenth of it, then its last one; at most `more` are made before the last
unfoldable pub decimal_from : ℕ → ℕ → List ℕ
decimal_from zero n = last_digit n
decimal_from (suc more) n = cond (ltb n 10) (last_digit n) (decimal_from more (n / 10) ++ last_digit n)

-- no 64-bit number has more than 20 digits
abbrev pub decimal : ℕ → List ℕ
decimal n = decimal_from 19 n

-- how many steps a unit has: by its decimals 0, 1, 2, and 3 for any other
abbrev pub steps : ℕ → ℕ
steps decimals = cond (eqb decimals 0) 1 (cond (eqb decimals 1) 10 (cond (eqb decimals 2) 100 1000))

-- the point and the digits after it
abbrev pub fraction : ℕ → ℕ → List ℕ
fraction decimals n =
    cond (eqb decimals 0) []
    (cond (eqb decimals 1) (chars "." ++ last_digit n)
    (cond (eqb decimals 2) (chars "." ++ last_digit (n / 10) ++ last_digit n)
    (chars "." ++ last_digit (n / 100) ++ last_digit (n / 10) ++ last_digit n)))

-- a whole number of steps in the unit: 120 at one decimal is 12.0
unfoldable pub pointed : ℕ → ℕ → List ℕ
pointed n decimals = decimal (n / steps decimals) ++ fraction decimals n
