-- Demand 1: the statements of every crate, gathered. Assumes nothing.
use Rattle.demands.specs.Demand1.{NumbersAreGiven, RepliesAreStated, LentBytesAreStated}
use Rattle.paper.proofs.Theorems as paper
use Rattle.laws.proofs.Theorems as laws
use Rattle.wire.proofs.Theorems as wire
use Rattle.stream.proofs.Theorems as stream
use Rattle.settings.proofs.Theorems as settings
use Rattle.tables.proofs.Theorems as tables
use Rattle.who.proofs.Theorems as who
use Rattle.answers.proofs.Theorems as answers
use Rattle.board.proofs.Theorems as board
use Rattle.reply.proofs.Theorems as reply
use Rattle.listen.proofs.Theorems as listen
use Rattle.requests.proofs.Theorems as requests
use Rattle.restore.proofs.Theorems as restore
use Rattle.follow.proofs.Theorems as follow
use Rattle.tally.proofs.Theorems as tally
use Rattle.collect.proofs.Theorems as collect
use Rattle.view.proofs.Counting as view
use Rattle.rows.proofs.Theorems as rows
use Rattle.backup.proofs.Theorems as backup
use Rattle.firmware.proofs.Theorems as firmware

pub numbers_given : NumbersAreGiven
numbers_given =
    record {
      numbers_printed = paper.refusals_are_printed;
      frame_read = wire.read_given_when;
      chars_read = wire.chars_given_when;
      frame_written = wire.write_given_when;
      stream_heard = stream.call_is_refused;
      stream_frames = wire.fault_given_when;
      stream_told = stream.any_cutting;
      stream_numbers = stream.refused_is_small;
      nearest_found = settings.nearest_given_when;
      setting_set = tables.set_given_when;
      identity_named = who.named_given_when;
      value_read = who.read_only_given_when;
      board_started = board.start_given_when;
      board_stored = board.store_given_when;
      board_answered = board.refusal_given_when;
      frame_answered = answers.refusal_given_when;
      reply_read = reply.read_is_from;
      reply_said = reply.said_is_read;
      done_read = reply.done_is_read;
      unknown_read = reply.unknown_is_read;
      error_read = reply.error_is_read;
      ping_read = reply.ping_is_read;
      reading_shown = reply.shown_exactly;
      line_read = listen.read_given_when;
      line_told = listen.any_cutting;
      get_asked = requests.get_given_when;
      set_asked = requests.set_given_when;
      request_written = requests.write_given_when;
      list_made = restore.list_given_when;
      sets_counted = restore.sets_given_when;
      due_named = restore.due_given_when;
      follower_started = follow.standing_exactly;
      follower_told = follow.refused_is_stray;
      trailer_counted = tally.refused_is_stray;
      board_collected = collect.refused_is_stray;
      board_viewed = view.refused_is_stray;
      row_written = rows.row_is_written_exactly;
      row_read = rows.row_is_read_exactly;
      row_judged = rows.row_is_judged_exactly;
      row_past = rows.past_is_refused;
      backup_written = backup.written_exactly;
      backup_read = backup.answered_exactly;
      written_for_c = firmware.written_comes_back;
      read_for_c = firmware.read_comes_back;
      nearest_for_c = firmware.number_comes_back;
    }

pub replies_stated : RepliesAreStated
replies_stated =
    record {
      by_the_board = board.outcome_and_reply;
      to_a_frame = answers.outcome_and_reply;
    }

pub lent_stated : LentBytesAreStated
lent_stated =
    record {
      front_alone = laws.overlaid_is;
      wire_refused = wire.refused_writes_nothing;
      stream_refused = stream.call_is_refused;
      stream_written = stream.only_a_frame_is_written;
      listen_refused = listen.call_is_refused;
      listen_written = listen.only_a_frame_is_written;
      board_refused = board.call_is_refused;
      start_refused = board.start_is_refused;
      store_refused = board.store_is_refused;
    }
