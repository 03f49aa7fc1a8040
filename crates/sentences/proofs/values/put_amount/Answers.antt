-- `sentences::values::put_amount` meets its contract. Assumes nothing.
use mathlib.Core.Path.{◌≡◌, sym, ap, ◌∙◌}
use mathlib.Core.Bool.{true, false, false≢true}
use mathlib.Core.List.{◌++◌}
use Prim.Native.Nat.{ℕ, ◌<◌}
use native.Mathlib.Omega.{arith}
use borrow.Author.Tests.{ltb-true}
use lib.IntN.{ℤ, pos, negsuc, nat_abs}
use lib.Signed.{lt_z}
use mir.Syntax.{w32}
use Rattle.std.proofs.lemmas.Int.{to_z-of_z}
use Rattle.lines.specs.Lines.{chars}
use Rattle.lines.specs.Numbers.{pointed}
use Rattle.lines.proofs.Adding.{further}
use Rattle.sentences.specs.Values.{whole_text, amount_text}
use Rattle.sentences.proofs.values.put_amount.Goals as goal

-- a whole number by its sign
below : (z : ℤ) (n decimals : ℕ) → lt_z z (pos 0) ≡ true → n ≡ nat_abs z → whole_text z decimals ≡ chars "-" ++ pointed n decimals
below (pos k) n decimals h e = let none : k < 0 = ltb-true k 0 h in absurd (omega arith)
below (negsuc k) n decimals h e = rw e

above : (z : ℤ) (n decimals : ℕ) → lt_z z (pos 0) ≡ false → n ≡ nat_abs z → whole_text z decimals ≡ pointed n decimals
above (pos k) n decimals h e = rw e
above (negsuc k) n decimals h e = absurd (false≢true (sym h))

pub returns-then-steps-lt0 : goal.returns-then-steps-lt0
unfolding amount_text
returns-then-steps-lt0 c =
    let same = to_z-of_z w32 c.args.steps c.ranges.steps in
    rw (below c.args.steps c.unsigned_abs-size.result c.args.decimals (rw same at c.if-steps-lt0.true) (c.unsigned_abs-size.ensures.value ∙ ap nat_abs same))
    (further _ _ _ (further _ _ _ c.put-begun.ensures (further _ _ _ c.put.ensures c.put_pointed.ensures)) c.put-then-steps-lt0.ensures)

pub returns : goal.returns
unfolding amount_text
returns c =
    let same = to_z-of_z w32 c.args.steps c.ranges.steps in
    rw (above c.args.steps c.unsigned_abs-size.result c.args.decimals (rw same at c.if-steps-lt0.false) (c.unsigned_abs-size.ensures.value ∙ ap nat_abs same))
    (further _ _ _ (further _ _ _ c.put-begun.ensures c.put_pointed-2.ensures) c.put-2.ensures)
