-- The statements of specs/Laws.antt, proved. Assumes nothing.
use Rattle.lines.specs.Laws.{LineIsText, DecimalIsRead, PointedIsRead}
use Rattle.lines.proofs.Adding.{line_text}
use Rattle.lines.proofs.Digits.{decimal_read, pointed_read}

pub line_is_text : LineIsText
line_is_text = line_text

pub decimal_is_read : DecimalIsRead
decimal_is_read = decimal_read

pub pointed_is_read : PointedIsRead
pointed_is_read = pointed_read
