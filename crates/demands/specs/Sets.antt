-- What the Sets among some frames make of a table. Demand 3: "the table is what the complete, valid Sets among the bytes taken, in order, make
-- of the first one." Nothing of a board is in it: frames are those of `wire`, the rules those of `settings`, the table that of `tables`. Assumes nothing.
use Rattle.std.specs.Prelude.{ℕ, Bool, true, cond, ◌&&◌, List, [], ◌∷◌, length, take, drop, get_or, eqb, leb, ltb}
use Rattle.paper.specs.Numbers as paper
use Rattle.endian.specs.Numbers.{from_little}
use Rattle.wire.specs.Parsing.{Ended, good, refused}
use Rattle.settings.specs.Columns.{count, width_at, role_at, place_of}
use Rattle.settings.specs.Rules.{in_range, agrees}
use Rattle.tables.specs.Rules.{partner_number, changed}
use Rattle.tables.specs.declared.Table.{Table}

-- the place of the setting that a frame's data name, and the value after id and flags
abbrev pub place_in : List ℕ → ℕ
place_in bytes = place_of (from_little (take 2 bytes))

abbrev pub value_in : List ℕ → List ℕ
value_in bytes = drop 3 bytes

-- complete: command 8, three bytes and more, flags 0, the id of a setting, and a value in its width
unfoldable pub is_complete : ℕ → List ℕ → Bool
is_complete command bytes =
    eqb command paper.set_code && (leb 3 (length bytes) && eqb (get_or bytes 2 0) 0)
    && (ltb (place_in bytes) count && eqb (length (value_in bytes)) (width_at (place_in bytes)))

-- which settings may be set, by their places: all of them
abbrev pub any_setting : ℕ → Bool
any_setting k = true

module _ (may : ℕ → Bool) where
  -- valid: the setting may be set, and the number is in its own range and agrees with the partner's in the table so far
  unfoldable pub is_valid : Table → ℕ → ℕ → Bool
  is_valid table k n = may k && (in_range k n && agrees (role_at k) n (partner_number table k))

  -- what one frame makes of a table
  unfoldable pub makes : Table → ℕ → List ℕ → Table
  makes table command bytes =
      let k = place_in bytes in let n = from_little (value_in bytes) in
      cond (is_complete command bytes && is_valid table k n) (changed table k n) table

  -- and what frames make of it, in order
  unfoldable pub made : Table → List Ended → Table
  made table [] = table
  made table (good command bytes ∷ more) = made (makes table command bytes) more
  made table (refused number ∷ more) = made table more
