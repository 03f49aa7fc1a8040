-- Two answers that meet a call's own contract are the same. `Post` is what the call ensures, as its source states it. Assumes nothing.
use mathlib.Core.Path.{◌≡◌}
use mathlib.Core.List.{List}
use Prim.Native.Nat.{ℕ}
use denote.Ref.{Bor}
use contract.Lifetimes.{Lfts}
use Rattle.laws.proofs.Promise.{equal_same}
use Rattle.follow.specs.declared.Follower.{Follower}
use Rattle.collect.specs.declared.Collector.{Collector}
use Rattle.sentences.specs.Texts.{Verdict}
use Rattle.tally.specs.declared.Tally.{Tally}
use Rattle.view.specs.declared.Viewer.{Viewer}
use Rattle.lines.specs.declared.Line.{Line}
use Rattle.sentences.specs.declared.Kept.{Kept}
use Rattle.backup.specs.Answers.{Checked}
use Rattle.sentences.proofs.followed.Reads as followed
use Rattle.sentences.proofs.progress.Reads as progress
use Rattle.sentences.proofs.collected.Reads as collected
use Rattle.sentences.proofs.saved.Reads as saved
use Rattle.sentences.proofs.checked.Reads as checked
use Rattle.sentences.proofs.judged.Reads as judged
use Rattle.sentences.proofs.summed.Reads as summed
use Rattle.sentences.proofs.seen.Reads as seen
use Rattle.sentences.proofs.shown.Reads as shown

pub followed_same : (follower : Follower) (r r' : Line) → followed.Post tt (follower, tt) r (follower, tt) → followed.Post tt (follower, tt) r' (follower, tt) → r ≡ r'
followed_same follower r r' met met' = equal_same met met'

pub progress_same : (follower : Follower) (r r' : Line) → progress.Post tt (follower, tt) r (follower, tt) → progress.Post tt (follower, tt) r' (follower, tt) → r ≡ r'
progress_same follower r r' met met' = equal_same met met'

pub collected_same : (collector : Collector) (r r' : Line) → collected.Post tt (collector, tt) r (collector, tt) → collected.Post tt (collector, tt) r' (collector, tt) → r ≡ r'
collected_same collector r r' met met' = equal_same met met'

pub saved_same : (collector : Collector) (kept : Kept) (r r' : Line)
    → saved.Post tt (collector, (kept, tt)) r (collector, (kept, tt)) → saved.Post tt (collector, (kept, tt)) r' (collector, (kept, tt)) → r ≡ r'
saved_same collector kept r r' met met' = equal_same met met'

pub checked_same : (verdict : Verdict) (r r' : Line) → checked.Post tt (verdict, tt) r (verdict, tt) → checked.Post tt (verdict, tt) r' (verdict, tt) → r ≡ r'
checked_same verdict r r' met met' = equal_same met met'

pub judged_same : (verdict : Checked) (r r' : Line) → judged.Post tt (verdict, tt) r (verdict, tt) → judged.Post tt (verdict, tt) r' (verdict, tt) → r ≡ r'
judged_same verdict r r' met met' = equal_same met met'

pub summed_same : (tally : Tally) (r r' : Line) → summed.Post tt (tally, tt) r (tally, tt) → summed.Post tt (tally, tt) r' (tally, tt) → r ≡ r'
summed_same tally r r' met met' = equal_same met met'

pub seen_same : (κs : Lfts 1) (viewer : Viewer) (command : ℕ) (bytes : Bor (List ℕ)) (r r' : Line)
    → seen.Post κs (viewer, (command, (bytes, tt))) r (viewer, (command, (bytes, tt)))
    → seen.Post κs (viewer, (command, (bytes, tt))) r' (viewer, (command, (bytes, tt)))
    → r ≡ r'
seen_same κs viewer command bytes r r' met met' = equal_same met met'

pub shown_same : (viewer : Viewer) (r r' : Line) → shown.Post tt (viewer, tt) r (viewer, tt) → shown.Post tt (viewer, tt) r' (viewer, tt) → r ≡ r'
shown_same viewer r r' met met' = equal_same met met'
