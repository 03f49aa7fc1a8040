-- The statements of specs/Laws.antt, proved. Assumes nothing.
use Rattle.rows.specs.Laws.{DecimalIsRead, ReadIsDecimal, ReadExactly, JudgedExactly, PastIsRefused, RowIsSpelled, RowIsShort, WrittenExactly}
use Rattle.rows.proofs.Decimal.{decimal_read, read_decimal}
use Rattle.rows.proofs.Rows.{read_exactly, row_spelled, row_short, written_exactly}
use Rattle.rows.proofs.Judging.{judged_exactly, past_refused}

pub decimal_is_read : DecimalIsRead
decimal_is_read = decimal_read

pub read_is_decimal : ReadIsDecimal
read_is_decimal = read_decimal

pub row_is_read_exactly : ReadExactly
row_is_read_exactly = read_exactly

pub row_is_judged_exactly : JudgedExactly
row_is_judged_exactly = judged_exactly

pub past_is_refused : PastIsRefused
past_is_refused = past_refused

pub row_is_spelled : RowIsSpelled
row_is_spelled = row_spelled

pub row_is_short : RowIsShort
row_is_short = row_short

pub row_is_written_exactly : WrittenExactly
row_is_written_exactly = written_exactly
