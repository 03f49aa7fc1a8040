-- Two answers that meet a call's own contract are the same. `Post` is what the call ensures, as its source states it. Assumes nothing.
use mathlib.Core.Path.{◌≡◌}
use mathlib.Core.Bool.{Bool}
use mathlib.Core.List.{List}
use Prim.Native.Nat.{ℕ}
use denote.Ref.{Bor}
use contract.Lifetimes.{Lfts}
use Rattle.laws.proofs.Promise.{equal_same}
use Rattle.who.specs.declared.Identity.{Identity}
use Rattle.who.specs.declared.Readings.{Readings}
use Rattle.who.specs.declared.Named.{Named}
use Rattle.who.specs.Answers.{Looked}
use Rattle.who.proofs.Identity.named.Reads as named
use Rattle.who.proofs.Identity.is_allowed.Reads as is_allowed
use Rattle.who.proofs.Readings.nothing.Reads as none
use Rattle.who.proofs.read_only.Reads as read_only_lem

pub named_same : (κs : Lfts 1) (product version : ℕ) (serial : Bor (List ℕ)) (r r' : Named)
    → named.Post κs (product, (version, (serial, tt))) r (product, (version, (serial, tt)))
    → named.Post κs (product, (version, (serial, tt))) r' (product, (version, (serial, tt))) → r ≡ r'
named_same κs product version serial r r' met met' = equal_same met met'

pub is_allowed_same : (identity : Identity) (r r' : Bool) → is_allowed.Post tt (identity, tt) r (identity, tt)
    → is_allowed.Post tt (identity, tt) r' (identity, tt) → r ≡ r'
is_allowed_same identity r r' met met' = equal_same met met'

pub nothing_same : (r r' : Readings) → none.Post tt tt r tt → none.Post tt tt r' tt → r ≡ r'
nothing_same r r' met met' = equal_same met met'

module _ (identity : Identity) (readings : Readings) (id : ℕ) (r r' : Looked) where
  pub read_only_same : read_only_lem.Post tt (identity, (readings, (id, tt))) r (identity, (readings, (id, tt)))
      → read_only_lem.Post tt (identity, (readings, (id, tt))) r' (identity, (readings, (id, tt))) → r ≡ r'
  read_only_same met met' = equal_same met met'
