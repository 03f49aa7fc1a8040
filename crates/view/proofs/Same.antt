-- Two answers that meet a call's own contract are the same. `Post` is what the call ensures, as its source states it. Assumes nothing.
use mathlib.Core.Path.{◌≡◌}
use mathlib.Core.Bool.{Bool}
use mathlib.Core.List.{List}
use Prim.Native.Nat.{ℕ}
use denote.Ref.{Bor}
use contract.Lifetimes.{Lfts}
use Rattle.laws.proofs.Promise.{equal_same}
use Rattle.view.specs.declared.Viewer.{Viewer}
use Rattle.view.specs.declared.Viewed.{Viewed}
use Rattle.view.proofs.Viewer.start.Reads as start
use Rattle.view.proofs.Viewer.is_allowed.Reads as is_allowed
use Rattle.view.proofs.Viewer.reply.Reads as reply
use Rattle.view.proofs.Viewer.no_answer.Reads as no_answer

pub start_same : (r r' : Viewed) → start.Post tt tt r tt → start.Post tt tt r' tt → r ≡ r'
start_same r r' met met' = equal_same met met'

pub is_allowed_same : (viewer : Viewer) (r r' : Bool) → is_allowed.Post tt (viewer, tt) r (viewer, tt) → is_allowed.Post tt (viewer, tt) r' (viewer, tt) → r ≡ r'
is_allowed_same viewer r r' met met' = equal_same met met'

pub reply_same : (κs : Lfts 1) (viewer : Viewer) (command : ℕ) (bytes : Bor (List ℕ)) (r r' : Viewed)
    → reply.Post κs (viewer, (command, (bytes, tt))) r (viewer, (command, (bytes, tt)))
    → reply.Post κs (viewer, (command, (bytes, tt))) r' (viewer, (command, (bytes, tt)))
    → r ≡ r'
reply_same κs viewer command bytes r r' met met' = equal_same met met'

pub no_answer_same : (viewer : Viewer) (r r' : Viewed) → no_answer.Post tt (viewer, tt) r (viewer, tt) → no_answer.Post tt (viewer, tt) r' (viewer, tt) → r ≡ r'
no_answer_same viewer r r' met met' = equal_same met met'
