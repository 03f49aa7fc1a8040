-- Demand 1: "Any bytes, numbers or tables may be handed to any public call. Each call ends, and where it refuses it gives the number fixed in
-- the papers, with the stated reply, and only the stated bytes of a lent buffer change. Nobody else checks first." That every call takes
-- anything and ends is what the gate proves of each, as none has a `requires`: no statement is needed. The rest is stated here of every call that
-- refuses, each number exactly when its condition holds and none before it does; the conditions are those of the crate that has the call.
-- (Three calls take a state and give no number: a listener told of a request keeps its time, and its next read refuses it; a stray follower is not
-- begun anew; to a stray viewer a frame says nothing. A sentence prints the number that a call gave.) Assumes nothing.
use Rattle.paper.specs.Laws as paper
use Rattle.laws.specs.Laws as laws
use Rattle.wire.specs.Laws as wire
use Rattle.stream.specs.Laws as stream
use Rattle.settings.specs.Laws as settings
use Rattle.tables.specs.Laws as tables
use Rattle.who.specs.Laws as who
use Rattle.answers.specs.Laws as answers
use Rattle.board.specs.Laws as board
use Rattle.reply.specs.Laws as reply
use Rattle.listen.specs.Laws as listen
use Rattle.requests.specs.Laws as requests
use Rattle.restore.specs.Laws as restore
use Rattle.follow.specs.Laws as follow
use Rattle.tally.specs.Laws as tally
use Rattle.collect.specs.Laws as collect
use Rattle.view.specs.Laws as view
use Rattle.rows.specs.Laws as rows
use Rattle.backup.specs.Laws as backup
use Rattle.firmware.specs.Laws as firmware

-- "the number fixed in the papers"
pub record NumbersAreGiven : Type 0 where
  -- each name of a refusal has the number that is printed
  pub numbers_printed : paper.RefusalsArePrinted
  -- a frame, whole or as its characters: 11, then 2 for the enclosing, then 1 to 4; the writer's 11 and 12
  pub frame_read : wire.ReadGivenWhen
  pub chars_read : wire.CharsGivenWhen
  pub frame_written : wire.WriteGivenWhen
  -- the stream: 11 and 12 of the call, and 1 to 4 of the frame that ended in it, which is the next of the bytes' own
  pub stream_heard : stream.CallIsRefused
  pub stream_frames : wire.FaultGivenWhen
  pub stream_told : stream.AnyCutting
  pub stream_numbers : stream.RefusedIsSmall
  -- a setting, a table and who a board is
  pub nearest_found : settings.NearestGivenWhen
  pub setting_set : tables.SetGivenWhen
  pub identity_named : who.NamedGivenWhen
  pub value_read : who.ReadOnlyGivenWhen
  -- the board: 11 and 12, then 1 to 10 of the frame that ended; and its answer to a whole frame
  pub board_started : board.StartGivenWhen
  pub board_stored : board.StoreGivenWhen
  pub board_answered : board.RefusalGivenWhen
  pub frame_answered : answers.RefusalGivenWhen
  -- the box: a reply read, 5 and 6 where it is none of the seven kinds, and a reading shown
  pub reply_read : reply.ReadIsFrom
  pub reply_said : reply.SaidIsRead
  pub done_read : reply.DoneIsRead
  pub unknown_read : reply.UnknownIsRead
  pub error_read : reply.ErrorIsRead
  pub ping_read : reply.PingIsRead
  pub reading_shown : reply.ShownExactly
  -- listening, asking, listing
  pub line_read : listen.ReadGivenWhen
  pub line_told : listen.AnyCutting
  pub get_asked : requests.GetGivenWhen
  pub set_asked : requests.SetGivenWhen
  pub request_written : requests.WriteGivenWhen
  pub list_made : restore.ListGivenWhen
  pub sets_counted : restore.SetsGivenWhen
  pub due_named : restore.DueGivenWhen
  -- 12 for a follower, a tally, a collector and a viewer that no calls give
  pub follower_started : follow.StandingExactly
  pub follower_told : follow.RefusedIsStray
  pub trailer_counted : tally.RefusedIsStray
  pub board_collected : collect.RefusedIsStray
  pub board_viewed : view.RefusedIsStray
  -- a row of text, and the backup: 11 to 18, each with its line
  pub row_written : rows.WrittenExactly
  pub row_read : rows.ReadExactly
  pub row_judged : rows.JudgedExactly
  pub row_past : rows.PastIsRefused
  pub backup_written : backup.WrittenExactly
  pub backup_read : backup.AnsweredExactly
  -- the calls for C give what the calls of `wire` and `settings` give
  pub written_for_c : firmware.WrittenComesBack
  pub read_for_c : firmware.ReadComesBack
  pub nearest_for_c : firmware.NumberComesBack

-- "with the stated reply"
pub record RepliesAreStated : Type 0 where
  pub by_the_board : board.OutcomeAndReply
  pub to_a_frame : answers.OutcomeAndReply

-- "and only the stated bytes of a lent buffer change": what is written is at its front and the rest is as it was, by the form of every promise
-- with a lent buffer; under a refusal nothing is written, taken or changed
pub record LentBytesAreStated : Type 0 where
  pub front_alone : laws.OverlaidIs
  pub wire_refused : wire.RefusedWritesNothing
  pub stream_refused : stream.CallIsRefused
  pub stream_written : stream.OnlyAFrameIsWritten
  pub listen_refused : listen.CallIsRefused
  pub listen_written : listen.OnlyAFrameIsWritten
  pub board_refused : board.CallIsRefused
  pub start_refused : board.StartIsRefused
  pub store_refused : board.StoreIsRefused
