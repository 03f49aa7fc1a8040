-- Decimal numbers as they are read. They are written as everywhere, by `decimal` of `lines`. Assumes nothing.
use Rattle.std.specs.Prelude.{ℕ, Bool, not, ◌&&◌, ◌||◌, List, length, get_or, leb, eqb}
use Rattle.laws.specs.Lists.{every}
use Rattle.lines.specs.Laws.{is_digit, read_on}

-- "1 to 5 decimal digits with no leading zero but a lone 0"
unfoldable pub is_number : List ℕ → Bool
is_number digits =
    (leb 1 (length digits) && leb (length digits) 5) && (every is_digit digits && (eqb (length digits) 1 || not (eqb (get_or digits 0 0) 48)))

-- the number that digits are read as
abbrev pub value_of : List ℕ → ℕ
value_of = read_on 0
