-- The read-only values as bytes. Document 01, "Read-only values". Assumes nothing.
use Rattle.std.specs.Prelude.{ℕ, Bool, false, cond, ◌||◌, List, [], ◌∷◌, ◌++◌, eqb, ltb}
use Rattle.std.proofs.Math.Option.{Option, none, some}
use Rattle.paper.specs.Numbers as paper
use Rattle.endian.specs.Numbers.{little, complement}
use Rattle.paper.specs.Numbers.{most_serial}
use Rattle.who.specs.Parts.{serial_of}
use Rattle.who.specs.declared.Identity.{Identity}
use Rattle.who.specs.declared.Readings.{Readings}

-- "0100: four bytes 00, product low, product high, FF"
abbrev pub product_value : Identity → List ℕ
product_value identity = 0 ∷ little 2 identity.product ++ 0xFF ∷ []

-- "010A: serial, 0 to 32 bytes [..], one zero byte after it if under 32"
unfoldable pub serial_value : Identity → List ℕ
serial_value identity = serial_of identity ++ cond (ltb identity.serial.len most_serial) (0 ∷ []) []

-- "EEF9: version, 2 bytes. Readings: ED8D signed 16 [..]; ED8F signed 16 [..]; ED8C signed 32 [..]; EEFF signed 32 [..]; 0FFF unsigned 16":
-- the value of a read-only id, and none for any other
unfoldable pub read_only : Identity → Readings → ℕ → Option (List ℕ)
read_only identity readings id =
    cond (eqb id paper.product_id) (some (product_value identity))
    (cond (eqb id paper.serial_id) (some (serial_value identity))
    (cond (eqb id paper.version_id) (some (little 2 identity.version))
    (cond (eqb id paper.voltage_id) (some (little 2 (complement 2 readings.voltage)))
    (cond (eqb id paper.current_id) (some (little 2 (complement 2 readings.current)))
    (cond (eqb id paper.fine_id) (some (little 4 (complement 4 readings.fine)))
    (cond (eqb id paper.consumed_id) (some (little 4 (complement 4 readings.consumed)))
    (cond (eqb id paper.charge_id) (some (little 2 readings.charge))
    none)))))))

-- the eight ids
abbrev pub read_only_ids : List ℕ
read_only_ids = 0x0100 ∷ 0x010A ∷ 0xEEF9 ∷ 0xED8D ∷ 0xED8F ∷ 0xED8C ∷ 0xEEFF ∷ 0x0FFF ∷ []

abbrev pub among : ℕ → List ℕ → Bool
among id [] = false
among id (x ∷ more) = eqb id x || among id more
