-- Two answers that meet a call's own contract are the same. `Post` is what the call ensures, as its source states it. Assumes nothing.
use mathlib.Core.Path.{◌≡◌}
use mathlib.Core.List.{List}
use Prim.Native.Nat.{ℕ}
use denote.Ref.{Bor}
use contract.Lifetimes.{Lfts}
use Rattle.laws.proofs.Promise.{equal_same}
use Rattle.lines.specs.declared.Line.{Line}
use Rattle.lines.proofs.Line.start.Reads as start
use Rattle.lines.proofs.Line.put.Reads as put
use Rattle.lines.proofs.Line.put_number.Reads as put-number
use Rattle.lines.proofs.Line.put_pointed.Reads as put-pointed

pub start_same : (r r' : Line) → start.Post tt tt r tt → start.Post tt tt r' tt → r ≡ r'
start_same r r' met met' = equal_same met met'

pub put_same : (κs : Lfts 1) (line : Line) (text : Bor (List ℕ)) (r r' : Line)
    → put.Post κs (line, (text, tt)) r (line, (text, tt)) → put.Post κs (line, (text, tt)) r' (line, (text, tt)) → r ≡ r'
put_same κs line text r r' met met' = equal_same met met'

pub put_number_same : (line : Line) (n : ℕ) (r r' : Line) → put-number.Post tt (line, (n, tt)) r (line, (n, tt)) → put-number.Post tt (line, (n, tt)) r' (line, (n, tt)) → r ≡ r'
put_number_same line n r r' met met' = equal_same met met'

pub put_pointed_same : (line : Line) (n decimals : ℕ) (r r' : Line)
    → put-pointed.Post tt (line, (n, (decimals, tt))) r (line, (n, (decimals, tt))) → put-pointed.Post tt (line, (n, (decimals, tt))) r' (line, (n, (decimals, tt))) → r ≡ r'
put_pointed_same line n decimals r r' met met' = equal_same met met'
