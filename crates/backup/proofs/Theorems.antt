-- The statements of specs/Laws.antt, proved. Assumes nothing.
use mathlib.Core.Path.{refl}
use Rattle.wire.specs.Digits.{digit}
use Rattle.lines.specs.Numbers.{decimal_from}
use Rattle.rows.specs.Row.{row_of}
use Rattle.backup.specs.Text.{lines_for, text_for, places_from, places, header, text_of}
use Rattle.backup.specs.Laws.{ReadExactly, RefusedInOrder, AnsweredExactly, WrittenExactly, TextIsLines, WrittenIsRead, ReadIsWritten, TextIsShort, FactoryIsPrinted}
use Rattle.backup.proofs.RoundTrip.{read_exactly, refused_order, written_read, read_written, text_fits}
use Rattle.backup.proofs.Answering as answering

pub text_is_read_exactly : ReadExactly
text_is_read_exactly = read_exactly

pub refused_in_order : RefusedInOrder
refused_in_order = refused_order

pub answered_exactly : AnsweredExactly
answered_exactly = answering.answered_exactly

pub written_exactly : WrittenExactly
written_exactly = answering.written_exactly

pub text_is_lines : TextIsLines
text_is_lines = answering.text_lines

pub written_is_read : WrittenIsRead
written_is_read = written_read

pub read_is_written : ReadIsWritten
read_is_written = read_written

pub text_is_short : TextIsShort
text_is_short = text_fits

-- by computation
pub factory_is_printed : FactoryIsPrinted
unfolding digit decimal_from row_of lines_for text_for places_from places header text_of
factory_is_printed = refl
