-- Two answers that meet a call's own contract are the same, and so are the buffers that they leave. `Post` is what the call ensures, as
-- its source states it. Assumes nothing.
use mathlib.Core.Path.{◌≡◌}
use mathlib.Core.List.{List}
use Prim.Native.Nat.{ℕ}
use denote.MutBor.{MutBor}
use contract.Lifetimes.{Lfts}
use Rattle.laws.proofs.Promise.{gives_same, equal_same}
use Rattle.tables.specs.declared.Table.{Table}
use Rattle.restore.specs.Answers.{Listed, Sets, Due}
use Rattle.restore.proofs.list.Reads as list
use Rattle.restore.proofs.sets_due.Reads as sets-due
use Rattle.restore.proofs.due_after.Reads as due-after

pub list_same : (κs : Lfts 1) (from to : Table) (out left left' : MutBor (List ℕ)) (r r' : Listed)
    → list.Post κs (from, (to, (out, tt))) r (from, (to, (left, tt))) → list.Post κs (from, (to, (out, tt))) r' (from, (to, (left', tt)))
    → (r ≡ r') × (left.now ≡ left'.now)
list_same κs from to out left left' r r' met met' = gives_same met met'

pub sets_due_same : (from to : Table) (r r' : Sets) → sets-due.Post tt (from, (to, tt)) r (from, (to, tt)) → sets-due.Post tt (from, (to, tt)) r' (from, (to, tt)) → r ≡ r'
sets_due_same from to r r' met met' = equal_same met met'

pub due_after_same : (from to : Table) (done : ℕ) (r r' : Due) → due-after.Post tt (from, (to, (done, tt))) r (from, (to, (done, tt)))
    → due-after.Post tt (from, (to, (done, tt))) r' (from, (to, (done, tt))) → r ≡ r'
due_after_same from to done r r' met met' = equal_same met met'
