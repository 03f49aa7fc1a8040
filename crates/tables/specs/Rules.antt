-- The table: the number of each setting, in the order of the ids. Document 01, "Settings". Assumes nothing.
use Rattle.std.specs.Prelude.{ℕ, Bool, get_or, set}
use Rattle.settings.specs.Columns.{factories, partner_at}
use Rattle.settings.specs.Rules.{all_allowed}
use Rattle.tables.specs.declared.Table.{Table}

-- the number of the setting at a place
abbrev pub number_at : Table → ℕ → ℕ
number_at t k = get_or t.numbers k 0

abbrev pub partner_number : Table → ℕ → ℕ
partner_number t k = number_at t (partner_at k)

-- a table is allowed when every number is in its own range and every pair agrees
unfoldable pub allowed : Table → Bool
allowed t = all_allowed t.numbers

-- the table with one number changed
abbrev pub changed : Table → ℕ → ℕ → Table
changed t k n = record { numbers = set t.numbers k n }

-- the factory table
abbrev pub factory : Table
factory = record { numbers = factories }
