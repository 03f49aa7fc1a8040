-- `wire::reader::read_digits` meets its contract. Assumes nothing.
use Prim.Native.Nat.{◌+◌, ◌-◌, ◌%◌, ◌/◌, ◌≤◌}
use mathlib.Core.Path.{◌≡◌, sym, ap, ◌∙◌}
use native.Mathlib.Nat.{add-mod-mod}
use native.Mathlib.Omega.{arith}
use borrow.Author.Tests.{eq-eqb, ne_eqb}
use lib.ListN.{length, take, length-take}
use Rattle.laws.specs.Lists.{sum_of}
use Rattle.laws.proofs.Promise.{copied, gives_none, gives_bytes}
use Rattle.wire.specs.Parsing.{command_of, payload_of, data_of}
use Rattle.wire.specs.Calls.{read_as}
use Rattle.wire.proofs.Bytes.{length_data, payload_part, data_part}
use Rattle.wire.proofs.Answers.{body_sum, body_good}
use Rattle.wire.proofs.reader.read_digits.Goals as goal
use Rattle.wire.proofs.reader.read_digits.Goals.{After-sum_of}

-- the sum as it was taken is that of the whole payload
sums : (c : After-sum_of) → (c.nibble_of-command.result + c.sum_of.result) % 256 ≡ (command_of c.args.chars.now + sum_of (payload_of c.args.chars.now)) % 256
sums c =
    rw (c.nibble_of-command.ensures, c.sum_of.ensures, payload_part _ _ c.requires.2 c.payload_of-payload.ensures.1) (add-mod-mod _ _ 256)

pub returns-then-command-sum_of-ne-FRAME_TOTAL : goal.returns-then-command-sum_of-ne-FRAME_TOTAL
returns-then-command-sum_of-ne-FRAME_TOTAL c =
    let pre = c.requires in
    gives_none _ (ap read_as (body_sum _ pre.0 pre.1 pre.2 (ne_eqb _ _ (λ e. c.if-command-sum_of-ne-FRAME_TOTAL.true (sums (goal.at.returns-then-command-sum_of-ne-FRAME_TOTAL c).After-sum_of ∙ e)))))

pub returns : goal.returns
returns c =
    let pre = c.requires in
    let fits : length (take (length c.args.chars.now / 2 - 1) c.payload_of-payload.result) ≤ length c.args.into.now =
    rw length-take (omega (arith, c.payload_of-payload.ensures.0)) in
    let all : c.copy-len.result ≡ length (data_of c.args.chars.now) = rw (length_data c.args.chars.now pre.2) (c.copy-len.ensures.count ∙ rw length-take (omega (arith, c.payload_of-payload.ensures.0))) in
    rw (c.nibble_of-command.ensures, all)
    (gives_bytes _ _ _ (ap read_as (body_good _ pre.0 pre.1 pre.2 (eq-eqb _ _ (sym (sums (goal.at.returns c).After-sum_of) ∙ c.if-command-sum_of-ne-FRAME_TOTAL.false))))
    (rw (data_part _ _ pre.2 c.payload_of-payload.ensures.1) at (copied (take (length c.args.chars.now / 2 - 1) c.payload_of-payload.result) c.args.into.now fits c.copy-len.ensures.copied)))
