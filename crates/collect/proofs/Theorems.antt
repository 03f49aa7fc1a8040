-- The statements of specs/Laws.antt, proved. Assumes nothing.
use Rattle.collect.specs.Laws.{AllowedIsReached, RefusedIsStray, CallsFollow, TableIsCarried, ToldIsLast, EndedStays, TableIsAllowed, BoardIsRead}
use Rattle.collect.proofs.Calling.{reached_calls, stray_refused, calls_run, table_carried, told_last, ended_stays_it, table_allowed, board_read}

pub allowed_is_reached : AllowedIsReached
allowed_is_reached = reached_calls

pub refused_is_stray : RefusedIsStray
refused_is_stray = stray_refused

pub calls_follow : CallsFollow
calls_follow = calls_run

pub table_is_carried : TableIsCarried
table_is_carried = table_carried

pub told_is_last : ToldIsLast
told_is_last = told_last

pub ended_stays : EndedStays
ended_stays = ended_stays_it

pub table_is_allowed : TableIsAllowed
table_is_allowed = table_allowed

pub board_is_read : BoardIsRead
board_is_read = board_read
