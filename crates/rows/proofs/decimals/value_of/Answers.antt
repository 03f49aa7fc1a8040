-- `rows::decimals::value_of` meets its contract. Assumes nothing.
use mathlib.Core.Path.{◌≡◌, sym, ◌∙◌}
use mathlib.Core.Bool.{true}
use native.Mathlib.Omega.{arith}
use Rattle.rows.specs.Decimals.{is_number}
use Rattle.rows.proofs.Decimal.{here, parsing_turn, parsing_low}
use Rattle.rows.proofs.decimals.value_of.Goals as goal
use Rattle.rows.proofs.decimals.value_of.Goals.{In-loop-c}

ok : (c : In-loop-c) → is_number c.args.digits.now ≡ true
ok c = sym c.is_number.ensures ∙ c.if-not-is_number.false

pub overflow_mul-n : goal.overflow_mul-n
overflow_mul-n c = omega (arith, parsing_low (ok c) c.loop-c-test.true c.loop-c.invariant)

pub overflow_sub-n : goal.overflow_sub-n
overflow_sub-n c = (here (ok (goal.at.overflow_sub-n c).In-loop-c) c.loop-c-test.true c.loop-c.invariant).0

pub overflow_add-n : goal.overflow_add-n
overflow_add-n c =
    let given = (goal.at.overflow_add-n c).In-loop-c in
    omega (arith, parsing_low (ok given) c.loop-c-test.true c.loop-c.invariant, (here (ok given) c.loop-c-test.true c.loop-c.invariant).1)

pub loop-c-preserved : goal.loop-c-preserved
loop-c-preserved c = parsing_turn (ok (goal.at.loop-c-preserved c).In-loop-c) c.loop-c-test.true c.loop-c.invariant
