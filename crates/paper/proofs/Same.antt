-- Two answers that meet a call's own contract are the same. `Post` is what the call ensures, as its source states it. Assumes nothing.
use Rattle.std.proofs.Common.{◌≡◌, ℕ, sym, ◌∙◌}
use Rattle.paper.specs.declared.Refusal.{Refusal}
use Rattle.paper.proofs.Refusal.number.Reads as number

pub number_same : (refusal : Refusal) (r r' : ℕ) → number.Post tt (refusal, tt) r (refusal, tt) → number.Post tt (refusal, tt) r' (refusal, tt) → r ≡ r'
number_same refusal r r' met met' = met ∙ sym met'
