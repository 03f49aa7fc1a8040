-- The statements of specs/Laws.antt, proved. Assumes nothing.
use Rattle.reply.specs.Laws.{SaidIsRead, DoneIsRead, UnknownIsRead, ErrorIsRead, PingIsRead, ReadIsFrom, ReadIsSaid, HeedIsSaid, HeededIsAnswer, HeededIsLong, FlagIsRead, OutcomeIsRead, ShownExactly, BoardIsShown}
use Rattle.reply.proofs.Hearing.{said_read, done_read, unknown_read, error_read, ping_read}
use Rattle.reply.proofs.Origins.{read_from_lem, read_said}
use Rattle.reply.proofs.Heeding.{heed_said, heeded_answers}
use Rattle.reply.proofs.Outcomes.{flag_read, outcome_read}
use Rattle.reply.proofs.Showing.{shown_as}
use Rattle.reply.proofs.Measures.{board_shown}
use Rattle.reply.proofs.Lengths.{heeded_long}

pub said_is_read : SaidIsRead
said_is_read = said_read

pub done_is_read : DoneIsRead
done_is_read = done_read

pub unknown_is_read : UnknownIsRead
unknown_is_read = unknown_read

pub error_is_read : ErrorIsRead
error_is_read = error_read

pub ping_is_read : PingIsRead
ping_is_read = ping_read

pub read_is_from : ReadIsFrom
read_is_from = read_from_lem

pub read_is_said : ReadIsSaid
read_is_said = read_said

pub shown_exactly : ShownExactly
shown_exactly = shown_as

pub board_is_shown : BoardIsShown
board_is_shown = board_shown

pub heed_is_said : HeedIsSaid
heed_is_said = heed_said

pub heeded_is_answer : HeededIsAnswer
heeded_is_answer = heeded_answers

pub heeded_is_long : HeededIsLong
heeded_is_long = heeded_long

pub flag_is_read : FlagIsRead
flag_is_read = flag_read

pub outcome_is_read : OutcomeIsRead
outcome_is_read = outcome_read
