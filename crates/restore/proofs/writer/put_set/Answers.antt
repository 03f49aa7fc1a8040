-- `restore::writer::put_set` meets its contract. Assumes nothing.
use Rattle.std.proofs.Common.{arith, rules, refl, sym, ap, ◌∙◌, ℕ, ◌+◌, ◌<◌, length}
use lib.Seq.{sets}
use Rattle.laws.proofs.Promise.{copied_at}
use Rattle.restore.proofs.Writing.{Requested, request_ok, request_written}
use Rattle.restore.proofs.writer.put_set.Goals as goal
use Rattle.restore.proofs.writer.put_set.Goals.{Start, After-unwrap-len}

short : (c : Start) → length c.args.out.now < 0x8000000000000000
short s = search rules

made : (c : After-unwrap-len) → Requested c.args.set.setting.index c.args.set.number c.set.new.out c.unwrap-len.result
made c = request_written _ _ _ _ _ _ c.requires.1 c.requires.2 refl c.set.ensures c.unwrap-len.ensures

pub unwrap-len-requires : goal.unwrap-len-requires
unwrap-len-requires c = rw (request_ok _ _ _ _ _ c.requires.1 c.requires.2 refl c.set.ensures).answered (search rules)

pub slice_bounds-frame-end : goal.slice_bounds-frame-end
slice_bounds-frame-end c = (made (goal.at.slice_bounds-frame-end c).After-unwrap-len).inside

pub slice_bounds-copy-end : goal.slice_bounds-copy-end
slice_bounds-copy-end c =
    let is = made (goal.at.slice_bounds-copy-end c).After-unwrap-len in
    is.size ∙ sym (ap length is.front_is)

pub overflow_add-result : goal.overflow_add-result
overflow_add-result c =
    let is = made (goal.at.overflow_add-result c).After-unwrap-len in
    omega (arith, short (goal.at.overflow_add-result c).Start)

pub returns : goal.returns
returns c =
    let is = made (goal.at.returns c).After-unwrap-len in (
      ap (λ (m : ℕ). c.args.at + m) is.size,
      copied_at _ c.args.out.now c.args.at (rw is.front_is (omega arith)) c.copy.ensures.copied ∙ ap (sets c.args.out.now c.args.at) is.front_is,
    )
