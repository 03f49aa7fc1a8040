-- Two answers that meet a call's own contract are the same. `Post` is what the call ensures, as its source states it. Assumes nothing.
use mathlib.Core.Path.{◌≡◌}
use mathlib.Core.Bool.{Bool}
use mathlib.Core.List.{List}
use Prim.Native.Nat.{ℕ}
use denote.Ref.{Bor}
use contract.Lifetimes.{Lfts}
use Rattle.laws.proofs.Promise.{equal_same}
use Rattle.answers.specs.declared.Core as declared
use Rattle.answers.specs.declared.Decided.{Decided}
use Rattle.answers.proofs.Core.is_allowed.Reads as is_allowed
use Rattle.answers.proofs.answer.Reads as answer

module _ (core : declared.Core) where
  pub is_allowed_same : (r r' : Bool) → is_allowed.Post tt (core, tt) r (core, tt) → is_allowed.Post tt (core, tt) r' (core, tt) → r ≡ r'
  is_allowed_same r r' met met' = equal_same met met'

  pub answer_same : (κs : Lfts 1) (command : ℕ) (bytes : Bor (List ℕ)) (r r' : Decided)
      → answer.Post κs (core, (command, (bytes, tt))) r (core, (command, (bytes, tt)))
      → answer.Post κs (core, (command, (bytes, tt))) r' (core, (command, (bytes, tt))) → r ≡ r'
  answer_same κs command bytes r r' met met' = equal_same met met'
