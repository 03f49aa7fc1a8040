-- `tables::Table::store` meets its contract. Assumes nothing.
use Rattle.std.proofs.Common.{arith, rules, ◌≡◌, ◌∙◌, sym, Some}
use Rattle.settings.specs.Calls.{placing}
use Rattle.settings.proofs.Rows.{place_past}
use Rattle.tables.proofs.Tables.{set_stray, set_past, set_refused, set_accepted, setting_below, partner_in, allows_is, nearest_is}
use Rattle.tables.proofs.Table.store.Goals as goal
use Rattle.tables.proofs.Table.store.Goals.{In_ok-setting}

found : (c : In_ok-setting) → placing c.args.index ≡ Some c.in_ok-setting.setting
found c = sym c.at.ensures ∙ c.in_ok-setting.ensures.ok_part

pub returns-then-not-is_allowed : goal.returns-then-not-is_allowed
returns-then-not-is_allowed c = sym (set_stray _ _ _ (sym c.if-not-is_allowed.ensures))

pub returns-in_err-setting : goal.returns-in_err-setting
returns-in_err-setting c =
    let past = place_past c.args.index (sym c.at.ensures ∙ c.in_err-setting.ensures.ok_part) in
    rw (set_past _ _ c.args.number (sym c.if-not-is_allowed.ensures) past) (search rules)

pub bounds-self-setting : goal.bounds-self-setting
bounds-self-setting c = partner_in _ _ (found (goal.at.bounds-self-setting c).In_ok-setting)

pub offset_bounds-self-setting : goal.offset_bounds-self-setting
offset_bounds-self-setting c = let below = partner_in _ _ (found (goal.at.offset_bounds-self-setting c).In_ok-setting) in omega arith

pub bounds-self-index : goal.bounds-self-index
bounds-self-index c = setting_below _ _ (found (goal.at.bounds-self-index c).In_ok-setting)

pub offset_bounds-self-index : goal.offset_bounds-self-index
offset_bounds-self-index c = let below = setting_below _ _ (found (goal.at.offset_bounds-self-index c).In_ok-setting) in omega arith

pub unwrap-nearest-requires : goal.unwrap-nearest-requires
unwrap-nearest-requires c =
    let is = found (goal.at.unwrap-nearest-requires c).In_ok-setting in
    rw (c.nearest.ensures, nearest_is _ _ is _ (sym c.if-not-is_allowed.ensures) _) (search rules)

pub returns-then-not-allows : goal.returns-then-not-allows
returns-then-not-allows c =
    let is = found (goal.at.returns-then-not-allows c).In_ok-setting in
    let near = nearest_is _ _ is _ (sym c.if-not-is_allowed.ensures) c.args.number in
    rw (set_refused _ _ _ (sym c.if-not-is_allowed.ensures) (setting_below _ _ is) (sym (allows_is _ _ is _ _) ∙ sym c.if-not-allows.ensures)) (cc)

pub returns : goal.returns
returns c =
    let is = found (goal.at.returns c).In_ok-setting in
    sym (set_accepted _ _ _ (sym c.if-not-is_allowed.ensures) (setting_below _ _ is) (sym (allows_is _ _ is _ _) ∙ sym c.if-not-allows.ensures))
