-- `sentences::values::put_reading` meets its contract. Assumes nothing.
use mathlib.Core.Path.{◌≡◌, ap, ◌∙◌}
use mathlib.Core.List.{List}
use Prim.Native.Nat.{ℕ}
use lib.IntN.{ℤ, pos}
use mathlib.Core.Logic.{◌≢◌}
use Rattle.std.proofs.Common.{rules}
use Rattle.endian.specs.Numbers.{from_little}
use mir.Syntax.{w32}
use mir.Val.{SFits, of_z, to_z}
use borrow.Author.Tests.{ne_eqb}
use Rattle.std.proofs.lemmas.Int.{to_z-of_z}
use Rattle.lines.specs.Lines.{chars, adding}
use Rattle.lines.specs.declared.Line.{Line}
use Rattle.sentences.specs.Values.{amount_text, reading_text}
use Rattle.sentences.proofs.values.put_reading.Goals as goal

-- a whole number as it is passed on
taken : (l : Line) (before after : List ℕ) (decimals : ℕ) {r : Line} {x z : ℤ} → SFits w32 x → x ≡ z
    → r ≡ adding l (amount_text before (to_z w32 (of_z w32 x)) decimals after) → r ≡ adding l (amount_text before z decimals after)
taken l before after decimals {x = x} fits is e = e ∙ ap (λ (n : ℤ). adding l (amount_text before n decimals after)) (to_z-of_z w32 x fits ∙ is)

pub returns-in-60813 : goal.returns-in-60813
unfolding reading_text
returns-in-60813 c = let fits : SFits w32 c.narrow.result = search rules in rw c.in-60813.is (taken _ _ _ _ fits c.narrow.ensures c.put_amount.ensures)

pub returns-in-60815 : goal.returns-in-60815
unfolding reading_text
returns-in-60815 c = let fits : SFits w32 c.narrow-in-60815.result = search rules in rw c.in-60815.is (taken _ _ _ _ fits c.narrow-in-60815.ensures c.put_amount-in-60815.ensures)

pub returns-in-60812 : goal.returns-in-60812
unfolding reading_text
returns-in-60812 c = let fits : SFits w32 c.wide.result = search rules in rw c.in-60812.is (taken _ _ _ _ fits c.wide.ensures c.put_amount-in-60812.ensures)

pub returns-in-61183 : goal.returns-in-61183
unfolding reading_text
returns-in-61183 c = let fits : SFits w32 c.wide-in-61183.result = search rules in rw c.in-61183.is (taken _ _ _ _ fits c.wide-in-61183.ensures c.put_amount-in-61183.ensures)

-- no other reading has a sign
other : (id : ℕ) (value : List ℕ) → id ≢ 0xED8D → id ≢ 0xED8F → id ≢ 0xED8C → id ≢ 0xEEFF
    → reading_text id value ≡ amount_text (chars "charge ") (pos (from_little value)) 2 (chars " %")
unfolding reading_text
other id value a b c d = rw (ne_eqb id 0xED8D a, ne_eqb id 0xED8F b, ne_eqb id 0xED8C c, ne_eqb id 0xEEFF d)

pub returns-in_default : goal.returns-in_default
returns-in_default c =
    let fits : SFits w32 c.unsigned.result = search rules in
    rw (other c.args.id c.args.value.now (search rules) (search rules) (search rules) (search rules)) (taken _ _ _ _ fits c.unsigned.ensures c.put_amount-in_default.ensures)
