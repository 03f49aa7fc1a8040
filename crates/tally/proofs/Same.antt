-- Two answers that meet a call's own contract are the same. `Post` is what the call ensures, as its source states it. Assumes nothing.
use mathlib.Core.Path.{◌≡◌}
use mathlib.Core.Bool.{Bool}
use Rattle.laws.proofs.Promise.{equal_same}
use Rattle.follow.specs.declared.Follower.{Follower}
use Rattle.tally.specs.declared.Tally.{Tally}
use Rattle.tally.specs.declared.Counted.{Counted}
use Rattle.tally.proofs.begins_anew.Reads as begins-anew
use Rattle.tally.proofs.Tally.nothing.Reads as nothing
use Rattle.tally.proofs.Tally.is_allowed.Reads as is_allowed
use Rattle.tally.proofs.Tally.restored.Reads as restored
use Rattle.tally.proofs.Tally.silent.Reads as silent
use Rattle.tally.proofs.Tally.not_begun.Reads as not-begun

pub nothing_same : (r r' : Tally) → nothing.Post tt tt r tt → nothing.Post tt tt r' tt → r ≡ r'
nothing_same r r' met met' = equal_same met met'

pub is_allowed_same : (t : Tally) (r r' : Bool) → is_allowed.Post tt (t, tt) r (t, tt) → is_allowed.Post tt (t, tt) r' (t, tt) → r ≡ r'
is_allowed_same t r r' met met' = equal_same met met'

pub restored_same : (t : Tally) (f : Follower) (answered : Bool) (r r' : Counted)
    → restored.Post tt (t, (f, (answered, tt))) r (t, (f, (answered, tt))) → restored.Post tt (t, (f, (answered, tt))) r' (t, (f, (answered, tt))) → r ≡ r'
restored_same t f answered r r' met met' = equal_same met met'

pub silent_same : (t : Tally) (r r' : Counted) → silent.Post tt (t, tt) r (t, tt) → silent.Post tt (t, tt) r' (t, tt) → r ≡ r'
silent_same t r r' met met' = equal_same met met'

pub not_begun_same : (t : Tally) (r r' : Counted) → not-begun.Post tt (t, tt) r (t, tt) → not-begun.Post tt (t, tt) r' (t, tt) → r ≡ r'
not_begun_same t r r' met met' = equal_same met met'

pub begins_anew_same : (f : Follower) (answered last r r' : Bool)
    → begins-anew.Post tt (f, (answered, (last, tt))) r (f, (answered, (last, tt))) → begins-anew.Post tt (f, (answered, (last, tt))) r' (f, (answered, (last, tt))) → r ≡ r'
begins_anew_same f answered last r r' met met' = equal_same met met'
