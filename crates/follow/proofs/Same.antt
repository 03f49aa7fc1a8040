-- Two answers that meet a call's own contract are the same. `Post` is what the call ensures, as its source states it. Assumes nothing.
use mathlib.Core.Path.{◌≡◌}
use mathlib.Core.List.{List}
use Prim.Native.Nat.{ℕ}
use denote.Ref.{Bor}
use contract.Lifetimes.{Lfts}
use Rattle.laws.proofs.Promise.{equal_same}
use Rattle.tables.specs.declared.Table.{Table}
use Rattle.follow.specs.declared.Follower.{Follower}
use Rattle.follow.specs.declared.Followed.{Followed}
use Rattle.follow.proofs.Follower.start.Reads as start
use Rattle.follow.proofs.Follower.told.Reads as told
use Rattle.follow.proofs.Follower.reply.Reads as reply
use Rattle.follow.proofs.Follower.refused_frame.Reads as refused-frame
use Rattle.follow.proofs.Follower.no_answer.Reads as no_answer

pub start_same : (from to : Table) (r r' : Followed) → start.Post tt (from, (to, tt)) r (from, (to, tt)) → start.Post tt (from, (to, tt)) r' (from, (to, tt)) → r ≡ r'
start_same from to r r' met met' = equal_same met met'

pub told_same : (f : Follower) (r r' : Followed) → told.Post tt (f, tt) r (f, tt) → told.Post tt (f, tt) r' (f, tt) → r ≡ r'
told_same f r r' met met' = equal_same met met'

pub reply_same : (κs : Lfts 1) (f : Follower) (command : ℕ) (bytes : Bor (List ℕ)) (r r' : Followed)
    → reply.Post κs (f, (command, (bytes, tt))) r (f, (command, (bytes, tt))) → reply.Post κs (f, (command, (bytes, tt))) r' (f, (command, (bytes, tt))) → r ≡ r'
reply_same κs f command bytes r r' met met' = equal_same met met'

pub refused_frame_same : (f : Follower) (r r' : Followed) → refused-frame.Post tt (f, tt) r (f, tt) → refused-frame.Post tt (f, tt) r' (f, tt) → r ≡ r'
refused_frame_same f r r' met met' = equal_same met met'

pub no_answer_same : (f : Follower) (r r' : Followed) → no_answer.Post tt (f, tt) r (f, tt) → no_answer.Post tt (f, tt) r' (f, tt) → r ≡ r'
no_answer_same f r r' met met' = equal_same met met'
