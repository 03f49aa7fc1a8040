-- Two answers that meet a call's own contract are the same. `Post` is what the call ensures, as its source states it. Assumes nothing.
use mathlib.Core.Path.{◌≡◌}
use mathlib.Core.Bool.{Bool}
use Prim.Native.Nat.{ℕ}
use Rattle.laws.proofs.Promise.{equal_same}
use Rattle.tables.specs.declared.Table.{Table}
use Rattle.tables.specs.declared.Change.{Change}
use Rattle.tables.proofs.Table.factory.Reads as factory
use Rattle.tables.proofs.Table.is_allowed.Reads as is_allowed
use Rattle.tables.proofs.Table.set.Reads as set

pub factory_same : (r r' : Table) → factory.Post tt tt r tt → factory.Post tt tt r' tt → r ≡ r'
factory_same r r' met met' = equal_same met met'

pub is_allowed_same : (t : Table) (r r' : Bool) → is_allowed.Post tt (t, tt) r (t, tt) → is_allowed.Post tt (t, tt) r' (t, tt) → r ≡ r'
is_allowed_same t r r' met met' = equal_same met met'

pub set_same : (t : Table) (index n : ℕ) (r r' : Change) → set.Post tt (t, (index, (n, tt))) r (t, (index, (n, tt)))
    → set.Post tt (t, (index, (n, tt))) r' (t, (index, (n, tt))) → r ≡ r'
set_same t index n r r' met met' = equal_same met met'
