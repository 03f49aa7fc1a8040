-- The text. Document 01, "Backup text": "Ascending id, tabs between fields, numbers decimal without leading zeros, newline after each line."
-- The first line and the places of the settings that have a line are parameters. Assumes nothing.
use Rattle.std.specs.Prelude.{ℕ, zero, suc, cond, Result, Ok, Err, List, [], ◌∷◌, ◌++◌, length, take, drop, eqb}
use Rattle.paper.specs.Numbers as paper
use Rattle.laws.specs.Lists.{same}
use Rattle.settings.specs.Columns.{count, id_at}
use Rattle.tables.specs.Rules.{allowed, number_at, changed, factory}
use Rattle.tables.specs.declared.Table.{Table}
use Rattle.lines.specs.Lines.{chars}
use Rattle.lines.specs.Numbers.{decimal}
use Rattle.rows.specs.Row.{tab, row_of}
use Rattle.rows.specs.Calls.{judging}
use Rattle.rows.specs.Answers.{Judgement}
use Rattle.paper.specs.declared.Refusal.{Refusal}
use Rattle.backup.specs.declared.BadText.{BadText}
use Rattle.backup.specs.Answers.{bad}

-- Writing: a line for the setting at each of these places.
unfoldable pub lines_for : List ℕ → Table → List ℕ
lines_for [] t = []
lines_for (k ∷ places) t = row_of (id_at k) (number_at t k) ++ lines_for places t

unfoldable pub text_for : List ℕ → List ℕ → Table → List ℕ
text_for header places t = header ++ lines_for places t

-- Reading. What a text says: a table, or its refusal and the line.
abbrev pub Says : Type 0
Says = Result Table BadText

abbrev pub good : Table → Says
good t = Ok t

abbrev pub refused : Refusal → ℕ → Says
refused refusal line = Err (bad refusal line)

-- "then 18 bytes follow the last line; then 17 a pair disagrees", the line being "0 for 17 and 18"
unfoldable pub end_says : Table → ℕ → Says
end_says t more = cond (eqb more 0) (cond (allowed t) (good t) (refused paper.pair_disagrees 0)) (refused paper.more_bytes 0)

-- what follows a line: the next one, or the refusal
abbrev pub following : (ℕ → ℕ → Says) → ℕ → Judgement → Says
following next line (Ok row) = next row.number row.len
following next line (Err refusal) = refused refusal line

-- "line by line", each judged 14, 15, 16 for the setting that is due, into a table
unfoldable pub lines_say : List ℕ → ℕ → Table → List ℕ → Says
lines_say [] line t text = end_says t (length text)
lines_say (k ∷ places) line t text = following (λ n len. lines_say places (suc line) (changed t k n) (drop len text)) line (judging k text)

-- 13: "first line differs", "the line, the header being 1". A setting without a line has its factory number.
unfoldable pub says_for : List ℕ → List ℕ → List ℕ → Says
says_for header places text =
    cond (same (take (length header) text) header) (lines_say places 2 factory (drop (length header) text)) (refused paper.other_header 1)

-- The text of all settings: its first line is `settings`, a tab and their number.
unfoldable pub places_from : ℕ → ℕ → List ℕ
places_from zero k = []
places_from (suc left) k = k ∷ places_from left (suc k)

unfoldable pub places : List ℕ
places = places_from count 0

unfoldable pub header : List ℕ
header = chars "settings" ++ tab ∷ decimal count ++ paper.newline ∷ []

unfoldable pub text_of : Table → List ℕ
text_of t = text_for header places t

unfoldable pub text_says : List ℕ → Says
text_says text = says_for header places text
