-- What a board holds. Document 01: "A board is started with an identity (product and version of two bytes, a serial as below) and a table,
-- or the factory table, with readings 0 and no frame." Assumes nothing.
use Rattle.std.specs.Prelude.{Bool, ◌&&◌, ℤ, pos, negsuc, nat_abs}
use Rattle.std.specs.Int.Signed.{le_z}
use Rattle.stream.specs.Calls as stream
use Rattle.stream.specs.Stream.{outside}
use Rattle.tables.specs.declared.Table.{Table}
use Rattle.who.specs.Parts.{no_readings}
use Rattle.answers.specs.Answers.{core_allowed}
use Rattle.who.specs.declared.Identity.{Identity}
use Rattle.who.specs.declared.Readings.{Readings}
use Rattle.board.specs.declared.Sample.{Sample}
use Rattle.board.specs.declared.Board.{Board}

-- "stores readings as whole numbers; one that does not fit its width is refused (12) and none of the five changes": signed 16, signed 16,
-- signed 32, signed 32, unsigned 16
abbrev pub within : ℤ → ℤ → ℤ → Bool
within low high x = le_z low x && le_z x high

abbrev pub fits16 : ℤ → Bool
fits16 x = within (negsuc 0x7FFF) (pos 0x7FFF) x

abbrev pub fits32 : ℤ → Bool
fits32 x = within (negsuc 0x7FFFFFFF) (pos 0x7FFFFFFF) x

abbrev pub fits_charge : ℤ → Bool
fits_charge x = within (pos 0) (pos 0xFFFF) x

unfoldable pub sample_fits : Sample → Bool
sample_fits given = fits16 given.voltage && fits16 given.current && fits32 given.fine && fits32 given.consumed && fits_charge given.charge

unfoldable pub readings_of : Sample → Readings
readings_of given =
    record { voltage = given.voltage; current = given.current; fine = given.fine; consumed = given.consumed; charge = nat_abs given.charge }

-- "A state handed in is allowed when its settings, identity and readings are and its held frame is one that bytes could have left"
unfoldable pub board_allowed : Board → Bool
board_allowed board = core_allowed board.core && stream.allowed board.held

-- "started with an identity [..] and a table [..], with readings 0 and no frame"
unfoldable pub fresh_board : Identity → Table → Board
fresh_board identity table = record { core = record { identity = identity; table = table; readings = no_readings }; held = stream.held_of outside }
