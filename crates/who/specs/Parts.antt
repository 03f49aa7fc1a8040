-- Who a board is, and what it has measured. Document 01: "identity (product and version of two bytes, a serial as below)". Assumes nothing.
use Rattle.std.specs.Prelude.{ℕ, Bool, ◌&&◌, List, [], length, pos, leb}
use Rattle.paper.specs.Numbers.{most_serial}
use Rattle.laws.specs.Lists.{every}
use Rattle.spans.specs.Few.{few, those, tidy}
use Rattle.who.specs.declared.Identity.{Identity}
use Rattle.who.specs.declared.Readings.{Readings}

-- "serial, 0 to 32 bytes of 0x20..0x7E"
abbrev pub printed : ℕ → Bool
printed b = leb 0x20 b && leb b 0x7E

unfoldable pub serial_fits : List ℕ → Bool
serial_fits serial = leb (length serial) most_serial && every printed serial

unfoldable pub identity_of : ℕ → ℕ → List ℕ → Identity
identity_of product version serial =
    record { product = product; version = version; serial = few most_serial serial }

unfoldable pub no_identity : Identity
no_identity = identity_of 0 0 []

unfoldable pub serial_of : Identity → List ℕ
serial_of identity = those identity.serial

-- a serial as above, and tidy, so each serial is one value
unfoldable pub identity_allowed : Identity → Bool
identity_allowed identity = tidy identity.serial && every printed (serial_of identity)

abbrev pub no_readings : Readings
no_readings = record { voltage = pos 0; current = pos 0; fine = pos 0; consumed = pos 0; charge = 0 }
