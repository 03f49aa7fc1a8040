-- `requests::set_found` meets its contract. Assumes nothing.
use Rattle.std.proofs.Common.{arith, rules, ◌≡◌, ◌∙◌, sym, length, length-take, Some, Err}
use Rattle.paper.specs.Numbers.{not_allowed}
use Rattle.laws.proofs.Promise.{gives_none}
use Rattle.requests.proofs.Asking.{set_short, set_roomy, Width, width_of, data_is, set_of_is}
use Rattle.requests.proofs.set_found.Goals as goal
use Rattle.requests.proofs.set_found.Goals.{In_ok-setting}

width : (c : In_ok-setting) → Width c.in_ok-setting.setting.width
width c = width_of _ (c.requires _ c.in_ok-setting.ensures.ok_part)

pub returns-then-out-lt-FRAME_ROOM : goal.returns-then-out-lt-FRAME_ROOM
returns-then-out-lt-FRAME_ROOM c = gives_none _ (set_short _ _ _ c.if-out-lt-FRAME_ROOM.true)

pub returns-in_err-setting : goal.returns-in_err-setting
returns-in_err-setting c =
    let is : c.from_residual.result ≡ Err not_allowed = search rules in
    rw (is, c.in_err-setting.ensures.ok_part) (gives_none _ (set_roomy _ _ _ c.if-out-lt-FRAME_ROOM.false))

pub holds-requires : goal.holds-requires
holds-requires c = let w = width (goal.at.holds-requires c).In_ok-setting in (w.some, w.few)

pub returns-then-not-holds : goal.returns-then-not-holds
returns-then-not-holds c =
    rw c.in_ok-setting.ensures.ok_part (gives_none _ (set_roomy _ _ _ c.if-out-lt-FRAME_ROOM.false ∙ rw (sym c.if-not-holds.ensures)))

pub overflow_add-bytes : goal.overflow_add-bytes
overflow_add-bytes c = let few = (width (goal.at.overflow_add-bytes c).In_ok-setting).few in omega arith

pub slice_bounds-bytes-end : goal.slice_bounds-bytes-end
slice_bounds-bytes-end c = let few = (width (goal.at.slice_bounds-bytes-end c).In_ok-setting).few in omega arith

pub slice_bounds-write_frame-end : goal.slice_bounds-write_frame-end
slice_bounds-write_frame-end c = let few = (width (goal.at.slice_bounds-write_frame-end c).In_ok-setting).few in rw length-take (omega arith)

pub returns : goal.returns
returns c =
    let w = width (goal.at.returns c).In_ok-setting in
    let setting = c.in_ok-setting.setting in
    rw (
      c.in_ok-setting.ensures.ok_part,
      set_roomy (Some setting) c.args.number (length c.args.out.now) c.if-out-lt-FRAME_ROOM.false,
      sym c.if-not-holds.ensures,
      sym (set_of_is setting.id setting.width c.args.number (length c.args.out.now) w.few c.if-out-lt-FRAME_ROOM.false),
      sym (data_is setting.width setting.id c.args.number w.some w.few),
    )
    (rw (c.bytes_16.ensures, c.bytes_16-2.ensures) at c.write_frame.ensures)
