-- Two answers that meet a call's own contract are the same. `Post` is what the call ensures, as its source states it. Assumes nothing.
use mathlib.Core.Path.{◌≡◌}
use mathlib.Core.List.{List}
use Prim.Native.Nat.{ℕ}
use denote.Ref.{Bor}
use contract.Lifetimes.{Lfts}
use Rattle.laws.proofs.Promise.{equal_same}
use Rattle.collect.specs.declared.Collector.{Collector}
use Rattle.collect.specs.declared.Collected.{Collected}
use Rattle.collect.proofs.Collector.start.Reads as start
use Rattle.collect.proofs.Collector.told.Reads as told
use Rattle.collect.proofs.Collector.reply.Reads as reply
use Rattle.collect.proofs.Collector.refused_frame.Reads as refused-frame
use Rattle.collect.proofs.Collector.no_answer.Reads as no_answer

pub start_same : (r r' : Collected) → start.Post tt tt r tt → start.Post tt tt r' tt → r ≡ r'
start_same r r' met met' = equal_same met met'

pub told_same : (c : Collector) (r r' : Collected) → told.Post tt (c, tt) r (c, tt) → told.Post tt (c, tt) r' (c, tt) → r ≡ r'
told_same c r r' met met' = equal_same met met'

pub reply_same : (κs : Lfts 1) (c : Collector) (command : ℕ) (bytes : Bor (List ℕ)) (r r' : Collected)
    → reply.Post κs (c, (command, (bytes, tt))) r (c, (command, (bytes, tt)))
    → reply.Post κs (c, (command, (bytes, tt))) r' (c, (command, (bytes, tt))) → r ≡ r'
reply_same κs c command bytes r r' met met' = equal_same met met'

pub refused_frame_same : (c : Collector) (r r' : Collected) → refused-frame.Post tt (c, tt) r (c, tt) → refused-frame.Post tt (c, tt) r' (c, tt) → r ≡ r'
refused_frame_same c r r' met met' = equal_same met met'

pub no_answer_same : (c : Collector) (r r' : Collected) → no_answer.Post tt (c, tt) r (c, tt) → no_answer.Post tt (c, tt) r' (c, tt) → r ≡ r'
no_answer_same c r r' met met' = equal_same met met'
