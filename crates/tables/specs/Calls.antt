-- What each public call answers, for every input. Assumes nothing.
use Rattle.std.specs.Prelude.{ℕ, zero, Ok, Err, cond, ◌&&◌, ltb}
use Rattle.settings.specs.Columns.{count}
use Rattle.settings.specs.Rules.{allowed_for, nearest_of}
use Rattle.paper.specs.Numbers.{not_allowed, number_not_allowed}
use Rattle.tables.specs.Rules.{allowed, partner_number, changed}
use Rattle.tables.specs.declared.Table.{Table}
use Rattle.tables.specs.Answers.{denied}
use Rattle.tables.specs.declared.Change.{Change}

-- A Set of one setting: 12 for a table that is not allowed or a place past it, 10 with the nearest allowed number for a number that is
-- not allowed; under either the table is as it was.
unfoldable pub set_to : Table → ℕ → ℕ → Change
set_to t k n =
    cond (allowed t && ltb k count)
    (cond (allowed_for k n (partner_number t k))
    (record { answer = Ok tt; table = changed t k n })
    (record { answer = Err (denied number_not_allowed (nearest_of k n (partner_number t k))); table = t }))
    (record { answer = Err (denied not_allowed zero); table = t })
