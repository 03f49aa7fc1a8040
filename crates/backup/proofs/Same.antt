-- Two answers that meet a call's own contract are the same, and so are the buffers that they leave. `Post` is what the call ensures, as
-- its source states it. Assumes nothing.
use mathlib.Core.Path.{◌≡◌}
use mathlib.Core.List.{List}
use Prim.Native.Nat.{ℕ}
use denote.Bor.{Bor}
use denote.MutBor.{MutBor}
use contract.Lifetimes.{Lfts}
use Rattle.laws.proofs.Promise.{gives_same, equal_same}
use Rattle.tables.specs.declared.Table.{Table}
use Rattle.wire.specs.Answers.{Written}
use Rattle.backup.specs.declared.Backup.{Backup}
use Rattle.backup.proofs.write.Reads as write
use Rattle.backup.proofs.read.Reads as read

pub write_same : (κs : Lfts 1) (table : Table) (out left left' : MutBor (List ℕ)) (r r' : Written)
    → write.Post κs (table, (out, tt)) r (table, (left, tt)) → write.Post κs (table, (out, tt)) r' (table, (left', tt)) → (r ≡ r') × (left.now ≡ left'.now)
write_same κs table out left left' r r' met met' = gives_same met met'

pub read_same : (κs : Lfts 1) (text : Bor (List ℕ)) (r r' : Backup)
    → read.Post κs (text, tt) r (text, tt) → read.Post κs (text, tt) r' (text, tt) → r ≡ r'
read_same κs text r r' met met' = equal_same met met'
