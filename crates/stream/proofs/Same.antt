-- Two answers that meet a call's own contract are the same, and so are the buffers that they leave. `Post` is what the call ensures, as
-- its source states it. Assumes nothing.
use mathlib.Core.Path.{◌≡◌}
use mathlib.Core.Bool.{Bool}
use mathlib.Core.List.{List}
use Prim.Native.Nat.{ℕ}
use denote.Bor.{Bor}
use denote.MutBor.{MutBor}
use contract.Lifetimes.{Lfts}
use Rattle.laws.proofs.Promise.{gives_same, equal_same}
use Rattle.stream.specs.declared.Held.{Held}
use Rattle.stream.specs.declared.Heard.{Heard}
use Rattle.stream.proofs.Held.hear.Reads as hear
use Rattle.stream.proofs.Held.is_allowed.Reads as is_allowed
use Rattle.stream.proofs.Held.outside.Reads as outside

module _ (κs : Lfts 2) (bytes : Bor (List ℕ)) (buffer left left' : MutBor (List ℕ)) where
  pub hear_same : (held : Held) (r r' : Heard)
      → hear.Post κs (held, (bytes, (buffer, tt))) r (held, (bytes, (left, tt))) → hear.Post κs (held, (bytes, (buffer, tt))) r' (held, (bytes, (left', tt)))
      → (r ≡ r') × (left.now ≡ left'.now)
  hear_same held r r' met met' = gives_same met met'

pub outside_same : (r r' : Held) → outside.Post tt tt r tt → outside.Post tt tt r' tt → r ≡ r'
outside_same r r' met met' = equal_same met met'

pub is_allowed_same : (held : Held) (r r' : Bool) → is_allowed.Post tt (held, tt) r (held, tt) → is_allowed.Post tt (held, tt) r' (held, tt) → r ≡ r'
is_allowed_same held r r' met met' = equal_same met met'
