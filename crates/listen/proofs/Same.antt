-- Two answers that meet a call's own contract are the same, and so are the buffers that they leave. `Post` is what the call ensures, as
-- its source states it. Assumes nothing.
use mathlib.Core.Path.{◌≡◌}
use mathlib.Core.List.{List}
use Prim.Native.Nat.{ℕ}
use denote.Bor.{Bor}
use denote.MutBor.{MutBor}
use contract.Lifetimes.{Lfts}
use Rattle.laws.proofs.Promise.{gives_same, equal_same}
use Rattle.listen.specs.declared.Listener.{Listener}
use Rattle.listen.specs.declared.Listened.{Listened}
use Rattle.listen.proofs.Listener.start.Reads as start
use Rattle.listen.proofs.Listener.asked.Reads as asked
use Rattle.listen.proofs.Listener.read.Reads as read

pub start_same : (time : ℕ) (r r' : Listener) → start.Post tt (time, tt) r (time, tt) → start.Post tt (time, tt) r' (time, tt) → r ≡ r'
start_same time r r' met met' = equal_same met met'

pub asked_same : (l : Listener) (time : ℕ) (r r' : Listener) → asked.Post tt (l, (time, tt)) r (l, (time, tt)) → asked.Post tt (l, (time, tt)) r' (l, (time, tt)) → r ≡ r'
asked_same l time r r' met met' = equal_same met met'

pub read_same : (κs : Lfts 2) (piece : Bor (List ℕ)) (into left left' : MutBor (List ℕ)) (l : Listener) (time : ℕ) (r r' : Listened)
    → read.Post κs (l, (piece, (time, (into, tt)))) r (l, (piece, (time, (left, tt)))) → read.Post κs (l, (piece, (time, (into, tt)))) r' (l, (piece, (time, (left', tt))))
    → (r ≡ r') × (left.now ≡ left'.now)
read_same κs piece into left left' l time r r' met met' = gives_same met met'
