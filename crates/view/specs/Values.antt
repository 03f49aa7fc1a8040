-- The ids that are asked for, and which values of them are understood. Document 01, "Read-only values". Assumes nothing.
use Rattle.std.specs.Prelude.{ℕ, suc, Bool, cond, ◌&&◌, List, [], ◌∷◌, length, get_or, take, ltb, eqb}
use Rattle.paper.specs.Numbers as paper
use Rattle.laws.specs.Lists.{before}
use Rattle.who.specs.Parts.{serial_fits}

-- in the order in which they are asked for
abbrev pub ids : List ℕ
ids = paper.product_id ∷ paper.serial_id ∷ paper.version_id ∷ paper.voltage_id ∷ paper.current_id ∷ paper.fine_id ∷ paper.consumed_id ∷ paper.charge_id ∷ []

abbrev pub count : ℕ
count = length ids

abbrev pub id_at : ℕ → ℕ
id_at k = get_or ids k 0

-- "four bytes 00, product low, product high, FF"
unfoldable pub product_fits : List ℕ → Bool
product_fits value = eqb (length value) 4 && (eqb (get_or value 0 0) 0 && eqb (get_or value 3 0) 0xFF)

-- "version, 2 bytes"; "ED8D signed 16 [..]; ED8F signed 16 [..]; ED8C signed 32 [..]; EEFF signed 32 [..]; 0FFF unsigned 16"
abbrev pub width_of : ℕ → ℕ
width_of id = cond (eqb id paper.fine_id) 4 (cond (eqb id paper.consumed_id) 4 2)

-- "0 to 32 bytes of 0x20..0x7E, one zero byte after it if under 32": the bytes up to the first zero byte, how wide the value of n bytes is, and
-- both together (the law SerialIsRead says it without the first zero byte)
abbrev pub serial_in : List ℕ → List ℕ
serial_in value = take (before (eqb 0) value) value

abbrev pub serial_width : ℕ → ℕ
serial_width n = cond (ltb n paper.most_serial) (suc n) n

unfoldable pub serial_reads : List ℕ → Bool
serial_reads value = serial_fits (serial_in value) && eqb (length value) (serial_width (before (eqb 0) value))

unfoldable pub is_understood : ℕ → List ℕ → Bool
is_understood id value =
    cond (eqb id paper.product_id) (product_fits value) (cond (eqb id paper.serial_id) (serial_reads value) (eqb (length value) (width_of id)))
