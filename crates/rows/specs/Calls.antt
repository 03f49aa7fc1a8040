-- What each public call answers, for every input. Assumes nothing.
use Rattle.std.specs.Prelude.{ℕ, suc, cond, Ok, Err, ◌&&◌, List, length, ltb, eqb}
use Rattle.paper.specs.Numbers as paper
use Rattle.laws.specs.Promise.{Given}
use Rattle.wire.specs.Calls.{unwritten, written_as}
use Rattle.wire.specs.Answers.{Written}
use Rattle.settings.specs.Columns.{count, id_at}
use Rattle.settings.specs.Rules.{in_range}
use Rattle.rows.specs.Row.{row_of, row_room, line_length, first_line, is_row, id_in, number_in}
use Rattle.rows.specs.Answers.{Read, Judgement, row_is, number_is}

unfoldable pub writing : ℕ → ℕ → ℕ → Given Written
writing id n room = cond (ltb room row_room) (unwritten paper.short_buffer) (written_as (row_of id n))

-- 14: "not four digits as above, tab, 1 to 5 decimal digits with no leading zero but a lone 0, newline, or text ended"
unfoldable pub parsing : List ℕ → Read
parsing text =
    cond (ltb (line_length text) (length text) && is_row (first_line text))
    (row_is (id_in (first_line text)) (number_in (first_line text)) (suc (line_length text)))
    (Err paper.bad_line)

-- then 15 "another id is due", 16 "outside own range"
unfoldable pub judged_as : ℕ → Read → Judgement
judged_as k (Ok row) =
    cond (eqb row.id (id_at k)) (cond (in_range k row.number) (number_is row.number row.len) (Err paper.out_of_range)) (Err paper.other_id)
judged_as k (Err refusal) = Err refusal

-- 12 for a place past the table
unfoldable pub judging : ℕ → List ℕ → Judgement
judging k text = cond (ltb k count) (judged_as k (parsing text)) (Err paper.not_allowed)
