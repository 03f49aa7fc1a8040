-- A fraction as the program puts it, one digit after the other: for the clause of a private function, and nothing else here is built on it. It is
-- the fraction of Numbers.antt, as proofs/Fractions.antt proves. Assumes nothing.
use Rattle.std.specs.Prelude.{ℕ, zero, suc, ◌/◌, List, ◌++◌}
use Rattle.lines.specs.Lines.{chars}
use Rattle.lines.specs.Numbers.{last_digit}

-- the point, and so many last digits of a number after it
abbrev pub last_digits : ℕ → ℕ → List ℕ
last_digits zero n = chars "."
last_digits (suc more) n = last_digits more (n / 10) ++ last_digit n
