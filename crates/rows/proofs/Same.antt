-- Two answers that meet a call's own contract are the same, and so are the buffers that they leave. `Post` is what the call ensures, as
-- its source states it. Assumes nothing.
use mathlib.Core.Path.{◌≡◌}
use mathlib.Core.List.{List}
use Prim.Native.Nat.{ℕ}
use denote.Bor.{Bor}
use denote.MutBor.{MutBor}
use contract.Lifetimes.{Lfts}
use Rattle.laws.proofs.Promise.{gives_same, equal_same}
use Rattle.wire.specs.Answers.{Written}
use Rattle.rows.specs.Answers.{Read, Judgement}
use Rattle.rows.proofs.write.Reads as write
use Rattle.rows.proofs.read.Reads as read
use Rattle.rows.proofs.judge.Reads as judge

pub write_same : (κs : Lfts 1) (id n : ℕ) (out left left' : MutBor (List ℕ)) (r r' : Written)
    → write.Post κs (id, (n, (out, tt))) r (id, (n, (left, tt))) → write.Post κs (id, (n, (out, tt))) r' (id, (n, (left', tt))) → (r ≡ r') × (left.now ≡ left'.now)
write_same κs id n out left left' r r' met met' = gives_same met met'

pub read_same : (κs : Lfts 1) (text : Bor (List ℕ)) (r r' : Read) → read.Post κs (text, tt) r (text, tt) → read.Post κs (text, tt) r' (text, tt) → r ≡ r'
read_same κs text r r' met met' = equal_same met met'

pub judge_same : (κs : Lfts 1) (text : Bor (List ℕ)) (index : ℕ) (r r' : Judgement)
    → judge.Post κs (text, (index, tt)) r (text, (index, tt)) → judge.Post κs (text, (index, tt)) r' (text, (index, tt)) → r ≡ r'
judge_same κs text index r r' met met' = equal_same met met'
