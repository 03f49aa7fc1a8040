-- `restore::order::Restore::set_at` meets its contract. Assumes nothing.
use Rattle.std.proofs.Common.{arith, rules, ◌≡◌, ◌∙◌, refl, sym, ap, ◌<◌, ℕ, Bool, true, false, cond, Some, None}
use Rattle.std.specs.Bool.{then_some}
use Rattle.requests.specs.declared.Wanted.{Wanted}
use Rattle.settings.specs.Calls.{setting_at}
use Rattle.settings.specs.Columns.{count, partner_at}
use Rattle.settings.specs.declared.Setting.{Setting}
use Rattle.settings.proofs.Rows.{place_has, place_past, partner_below}
use Rattle.restore.specs.Order.{placed}
use Rattle.restore.proofs.Placing.{placed_below}
use Rattle.restore.proofs.Rows.{set_there, placed_by, past_none}
use Rattle.restore.proofs.order.Restore.set_at.Goals.{In_ok-here, Joined-exchanged, then-exchanged, else-exchanged}
use Rattle.restore.proofs.order.Restore.set_at.Goals as goal

inside : (c : In_ok-here) → c.args.place < count
inside c = (place_has _ _ (sym c.in_ok-here.ensures)).0

here : (c : In_ok-here) → setting_at c.args.place ≡ c.in_ok-here.here
here c = (place_has _ _ (sym c.in_ok-here.ensures)).1

partner : (c : In_ok-here) → partner_at c.args.place ≡ c.in_ok-here.here.partner
partner c = ap (λ (s : Setting). s.partner) (here c)

some_if : (b : Bool) (w : Wanted) → then_some b w ≡ cond b (Some w) None
some_if true w = refl
some_if false w = refl

pub returns-in_err-here : goal.returns-in_err-here
returns-in_err-here c =
    rw (c.from_residual.ensures, past_none c.args.self.now.from c.args.self.now.to c.args.place (place_past _ (sym c.in_err-here.ensures)))

pub higher_first-exchanged-requires : goal.higher_first-exchanged-requires
higher_first-exchanged-requires c =
    let at = (goal.at.higher_first-exchanged-requires c).In_ok-here in
    let inside = inside at in
    let there = partner_below _ inside in
    let is = partner at in
    (omega arith, omega arith)

-- the setting whose turn it is
turn : (c : Joined-exchanged) (p : ℕ) → partner_at c.args.place ≡ p → p ≡ c.in_ok-here.here.partner → setting_at c.args.place ≡ c.in_ok-here.here
    → c.if-exchanged.setting ≡ setting_at (placed c.args.self.now.from c.args.self.now.to c.args.place)
turn c p is same found = elim c.if-exchanged.branch [
  | then-exchanged w ↦
      w.setting-is ∙ w.setting_at-setting.ensures ∙ ap setting_at (sym same ∙ placed_by c.args.self.now.from c.args.self.now.to c.args.place p is true (rw same (search rules)))
  | else-exchanged w ↦
      w.setting-is ∙ sym found ∙ ap setting_at (placed_by c.args.self.now.from c.args.self.now.to c.args.place p is false (rw same (search rules)))
]

pub differs-requires : goal.differs-requires
differs-requires c =
    let at = goal.at.differs-requires c in
    rw (turn at.Joined-exchanged _ (partner at.In_ok-here) refl (here at.In_ok-here)) (placed_below _ _ _ (inside at.In_ok-here))

pub bounds-self-setting : goal.bounds-self-setting
bounds-self-setting c =
    let at = goal.at.bounds-self-setting c in
    rw (turn at.Joined-exchanged _ (partner at.In_ok-here) refl (here at.In_ok-here)) (placed_below _ _ _ (inside at.In_ok-here))

pub offset_bounds-self-setting : goal.offset_bounds-self-setting
offset_bounds-self-setting c =
    let at = goal.at.offset_bounds-self-setting c in
    let is = ap (λ (s : Setting). s.index) (turn at.Joined-exchanged _ (partner at.In_ok-here) refl (here at.In_ok-here)) in
    let below = placed_below c.args.self.now.from c.args.self.now.to _ (inside at.In_ok-here) in
    omega arith

pub returns : goal.returns
returns c =
    let at = goal.at.returns c in
    let is = turn at.Joined-exchanged _ (partner at.In_ok-here) refl (here at.In_ok-here) in
    rw (set_there c.args.self.now.from c.args.self.now.to c.args.place (inside at.In_ok-here), c.then_some.ensures, c.differs.ensures, is)
    (some_if _ _)
