-- The statements of specs/Laws.antt, proved. Assumes nothing.
use Rattle.wire.specs.Laws.{WrittenIsRead, ReadIsWritten, WrittenSums, ReadSums, SaidIsFrame, FaultGivenWhen, ReadGivenWhen, CharsGivenWhen, CharsAreWhole, DigitsAreTwo, DigitsOnly, WriteGivenWhen, RefusedWritesNothing}
use Rattle.wire.proofs.RoundTrip.{frame_says, slice_written, said_frame, chars_whole, digits_two}
use Rattle.wire.proofs.Refusing

pub written_is_read : WrittenIsRead
written_is_read = frame_says

pub read_is_written : ReadIsWritten
read_is_written = slice_written

pub written_sums : WrittenSums
written_sums = Refusing.written_sums

pub read_sums : ReadSums
read_sums = Refusing.read_sums

pub said_is_frame : SaidIsFrame
said_is_frame = said_frame

pub fault_given_when : FaultGivenWhen
fault_given_when = Refusing.fault_given

pub read_given_when : ReadGivenWhen
read_given_when = Refusing.read_given

pub chars_given_when : CharsGivenWhen
chars_given_when = Refusing.chars_given

pub chars_are_whole : CharsAreWhole
chars_are_whole = chars_whole

pub digits_are_two : DigitsAreTwo
digits_are_two = digits_two

pub digits_only : DigitsOnly
digits_only = Refusing.digits_only

pub write_given_when : WriteGivenWhen
write_given_when = Refusing.write_given

pub refused_writes_nothing : RefusedWritesNothing
refused_writes_nothing = Refusing.refused_silent
