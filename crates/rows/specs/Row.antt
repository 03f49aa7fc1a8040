-- The row. Document 01, "Backup text": "tabs between fields, numbers decimal without leading zeros, newline after each line". Assumes
-- nothing.
use Rattle.std.specs.Prelude.{ℕ, suc, ◌+◌, ◌*◌, ◌/◌, ◌%◌, Bool, ◌&&◌, List, [], ◌∷◌, ◌++◌, length, take, drop, get_or, eqb}
use Rattle.paper.specs.Numbers.{newline}
use Rattle.laws.specs.Lists.{every, before}
use Rattle.wire.specs.Digits.{nibble, is_digit}
use Rattle.wire.specs.Frame.{digits_of}
use Rattle.lines.specs.Numbers.{decimal}
use Rattle.rows.specs.Decimals.{is_number, value_of}
use Rattle.rows.specs.declared.Row.{Row}

abbrev pub tab : ℕ
tab = 9

-- an id in four digits
abbrev pub id_digits : ℕ → List ℕ
id_digits id = digits_of (id / 256 ∷ id % 256 ∷ [])

unfoldable pub row_of : ℕ → ℕ → List ℕ
row_of id n = id_digits id ++ tab ∷ decimal n ++ newline ∷ []

-- a row is no longer than this
abbrev pub row_room : ℕ
row_room = 11

-- Reading: the first line of a text, without its newline.
abbrev pub line_length : List ℕ → ℕ
line_length text = before (λ b. eqb b newline) text

abbrev pub first_line : List ℕ → List ℕ
first_line text = take (line_length text) text

-- "four digits as above, tab, 1 to 5 decimal digits with no leading zero but a lone 0"
unfoldable pub is_row : List ℕ → Bool
is_row line = every is_digit (take 4 line) && (eqb (get_or line 4 0) tab && is_number (drop 5 line))

-- its id and its number
abbrev pub nibble_at : List ℕ → ℕ → ℕ
nibble_at line i = nibble (get_or line i 0)

abbrev pub id_in : List ℕ → ℕ
id_in line = (nibble_at line 0 * 16 + nibble_at line 1) * 256 + (nibble_at line 2 * 16 + nibble_at line 3)

abbrev pub number_in : List ℕ → ℕ
number_in line = value_of (drop 5 line)

-- what such a line says, with its newline counted
abbrev pub row_in : List ℕ → Row
row_in line = record { id = id_in line; number = number_in line; len = suc (length line) }
