-- What each public call answers, for every input. Assumes nothing.
use Rattle.std.specs.Prelude.{ℕ, Ok, Err, cond, not, List, ltb}
use Rattle.paper.specs.Numbers as paper
use Rattle.paper.specs.Numbers.{text_room}
use Rattle.laws.specs.Promise.{Given}
use Rattle.wire.specs.Calls.{unwritten, written_as}
use Rattle.wire.specs.Answers.{Written}
use Rattle.tables.specs.Rules.{factory, allowed}
use Rattle.tables.specs.declared.Table.{Table}
use Rattle.backup.specs.Text.{text_of, Says, text_says}
use Rattle.backup.specs.declared.Backup.{Backup}

unfoldable pub writing : Table → ℕ → Given Written
writing table room = cond (ltb room text_room) (unwritten paper.short_buffer) (cond (not (allowed table)) (unwritten paper.not_allowed) (written_as (text_of table)))

-- "A refusal returns its number, the line, the header being 1 (0 for 17 and 18) and the factory table."
abbrev pub read_as : Says → Backup
read_as (Ok table) = record { table = table; verdict = Ok tt }
read_as (Err why) = record { table = factory; verdict = Err why }

unfoldable pub parsing : List ℕ → Backup
parsing text = read_as (text_says text)
