-- Two answers that meet a call's own contract are the same, and so are the buffers that they leave. `Post` is what the call ensures, as
-- its source states it. Assumes nothing.
use mathlib.Core.Path.{◌≡◌}
use mathlib.Core.List.{List}
use Prim.Native.Nat.{ℕ}
use denote.MutBor.{MutBor}
use contract.Lifetimes.{Lfts}
use Rattle.laws.proofs.Promise.{gives_same}
use Rattle.wire.specs.Answers.{Written}
use Rattle.requests.proofs.get.Reads as get
use Rattle.requests.specs.declared.Request.{Request}
use Rattle.requests.proofs.set.Reads as set
use Rattle.requests.proofs.write.Reads as write

pub get_same : (κs : Lfts 1) (id : ℕ) (out left left' : MutBor (List ℕ)) (r r' : Written)
    → get.Post κs (id, (out, tt)) r (id, (left, tt)) → get.Post κs (id, (out, tt)) r' (id, (left', tt)) → (r ≡ r') × (left.now ≡ left'.now)
get_same κs id out left left' r r' met met' = gives_same met met'

pub set_same : (κs : Lfts 1) (index number : ℕ) (out left left' : MutBor (List ℕ)) (r r' : Written)
    → set.Post κs (index, (number, (out, tt))) r (index, (number, (left, tt))) → set.Post κs (index, (number, (out, tt))) r' (index, (number, (left', tt)))
    → (r ≡ r') × (left.now ≡ left'.now)
set_same κs index number out left left' r r' met met' = gives_same met met'

pub write_same : (κs : Lfts 1) (request : Request) (out left left' : MutBor (List ℕ)) (r r' : Written)
    → write.Post κs (request, (out, tt)) r (request, (left, tt)) → write.Post κs (request, (out, tt)) r' (request, (left', tt)) → (r ≡ r') × (left.now ≡ left'.now)
write_same κs request out left left' r r' met met' = gives_same met met'
