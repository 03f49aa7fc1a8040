-- `who::values::serial_value` meets its contract. Assumes nothing.
use mathlib.Core.Path.{◌≡◌}
use native.Mathlib.Numerals.{add-one}
use borrow.Author.Rules.{rules}
use lib.ListN.{length}
use Rattle.who.proofs.SerialValues.{serial_short_value, serial_full_value}
use Rattle.who.proofs.values.serial_value.Goals as goal

pub returns-then-serial-lt-MOST_SERIAL : goal.returns-then-serial-lt-MOST_SERIAL
returns-then-serial-lt-MOST_SERIAL c =
    let long : length c.args.identity.serial.bytes ≡ 32 = search rules in
    rw add-one (serial_short_value _ long c.requires c.if-serial-lt-MOST_SERIAL.true)

pub returns-else-serial-lt-MOST_SERIAL : goal.returns-else-serial-lt-MOST_SERIAL
returns-else-serial-lt-MOST_SERIAL c =
    let long : length c.args.identity.serial.bytes ≡ 32 = search rules in
    serial_full_value _ long c.requires c.if-serial-lt-MOST_SERIAL.false
