-- What each public call answers, for every input. Assumes nothing.
use Rattle.std.specs.Prelude.{ℕ, Bool, Some, None, Ok, Err, cond, ◌&&◌, ◌||◌, ltb, eqb}
use Rattle.paper.specs.Numbers.{unknown_id, not_allowed}
use Rattle.settings.specs.Columns.{count, id_at, width_at, partner_at, place_of}
use Rattle.settings.specs.Rules.{in_range, allowed_for, nearest_of}
use Rattle.settings.specs.declared.Setting.{Setting}
use Rattle.settings.specs.Answers.{Found, Number}

-- the setting at a place of the table, and the setting of an id
abbrev pub setting_at : ℕ → Setting
setting_at k = record { index = k; id = id_at k; width = width_at k; partner = partner_at k }

unfoldable pub placing : ℕ → Found
placing k = cond (ltb k count) (Some (setting_at k)) None

unfoldable pub finding : ℕ → Found
finding id = placing (place_of id)

-- whether a number is in the own range of the setting at any place; past the table none is
unfoldable pub ranging : ℕ → ℕ → Bool
ranging k n = ltb k count && in_range k n

-- "A number is allowed for a setting when it is in its own range and agrees with the partner now held", for any place
unfoldable pub allowing : ℕ → ℕ → ℕ → Bool
allowing k n partner = ltb k count && allowed_for k n partner

-- The nearest allowed number. "7 if the id is no setting, then 12 if the partner is outside its own range", the partner's number being
-- "unused without a partner".
unfoldable pub partner_fits : ℕ → ℕ → Bool
partner_fits k partner = eqb (partner_at k) k || in_range (partner_at k) partner

unfoldable pub nearing : ℕ → ℕ → ℕ → Number
nearing id wished partner =
    cond (ltb (place_of id) count)
    (cond (partner_fits (place_of id) partner) (Ok (nearest_of (place_of id) wished partner)) (Err not_allowed))
    (Err unknown_id)
