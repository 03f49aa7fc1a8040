-- The worked lines hold by computation: each definition that they pass through is opened and run.
use mathlib.Core.Path.{refl}
use Rattle.laws.specs.Promise.{overlaid, front_of}
use Rattle.wire.specs.Digits.{digit, nibble}
use Rattle.wire.specs.Frame.{check, body, frame}
use Rattle.wire.specs.Parsing.{body_says}
use Rattle.spans.specs.Few.{few, tidy}
use Rattle.stream.specs.Stream.{taken}
use Rattle.stream.specs.Calls.{held_of, unfinished}
use Rattle.stream.specs.Calls as stream
use Rattle.settings.specs.Rules.{in_range, low_agrees, high_agrees, agrees, allowed_for, all_allowed, nearest_of}
use Rattle.tables.specs.Rules.{allowed}
use Rattle.settings.specs.Calls.{placing, finding, partner_fits, nearing}
use Rattle.settings.specs.Columns.{partner_at, place_of}
use Rattle.tables.specs.Calls.{set_to}
use Rattle.who.specs.Parts.{serial_fits, identity_of, serial_of, identity_allowed}
use Rattle.answers.specs.Answers.{core_allowed, tells, restarts, get_answer, sets_setting, set_answer, frame_answer}
use Rattle.board.specs.Parts.{board_allowed, fresh_board}
use Rattle.board.specs.Calls.{starting, deciding, decided_by, heard_by, answering}
use Rattle.restore.specs.Order.{differs, higher_first, exchanged, placed, turns_from, order}
use Rattle.demands.specs.Lines.{ThirteenHold}

pub thirteen_lines_hold : ThirteenHold
unfolding overlaid digit nibble check body frame body_says taken few tidy front_of held_of unfinished stream.allowed
    in_range low_agrees high_agrees agrees allowed_for all_allowed allowed nearest_of placing partner_at place_of finding set_to partner_fits nearing
    serial_fits identity_of serial_of identity_allowed tells restarts get_answer sets_setting set_answer frame_answer
    core_allowed board_allowed fresh_board starting deciding decided_by heard_by answering differs higher_first exchanged placed turns_from order
thirteen_lines_hold = refl
