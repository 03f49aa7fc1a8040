-- `rows::decimals::value_of` meets its contract. Assumes nothing.
use Rattle.rows.proofs.Decimal.{Parsing}
use Rattle.rows.proofs.decimals.value_of.Given as goal

abbrev pub invariant-loop-c : goal.invariant-loop-c
invariant-loop-c l = Parsing l.digits l.n l.c-index
