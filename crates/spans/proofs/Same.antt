-- Two answers that meet a call's own contract are the same, and so are the buffers that they leave. `Post` is what the call ensures, as
-- its source states it. Assumes nothing.
use Rattle.std.proofs.Common.{◌≡◌, ℕ, Bool, List, sym, ◌∙◌}
use Rattle.std.specs.declared.clone.Clone
use denote.Param.Laws.{Laws, IsCopy}
use denote.RattleType.{RattleType}
use denote.Ref.{Bor}
use denote.MutBor.{MutBor}
use contract.Lifetimes.{Lfts}
use mir.Syntax.{Dict}
use Rattle.spans.specs.declared.Kind
use Rattle.spans.proofs.copy.Reads as copy
use Rattle.spans.proofs.all.Reads as all
use Rattle.spans.proofs.first.Reads as first
use Rattle.spans.proofs.find.Reads as find
use Rattle.spans.proofs.Few.of.Reads as of
use Rattle.spans.proofs.Few.as_slice.Reads as as-slice
use Rattle.spans.proofs.Few.is_tidy.Reads as is-tidy
use Rattle.spans.proofs.Few.put.Reads as put
use Rattle.spans.specs.declared.Few.{Few}

pub copy_same : (κs : Lfts 2) (from : Bor (List ℕ)) (to left left' : MutBor (List ℕ)) (r r' : ℕ)
    → copy.Post κs (from, (to, tt)) r (from, (left, tt)) → copy.Post κs (from, (to, tt)) r' (from, (left', tt))
    → (r ≡ r') × (left.now ≡ left'.now)
copy_same κs from to left left' r r' met met' = (met.0 ∙ sym met'.0, met.1 ∙ sym met'.1)

-- at any type of kinds, whatever holds of them
module _
    (K : RattleType) (laws : Laws K) (copies : IsCopy K) (holds : Kind.Ghosts K.Denot) (holds-code : Dict) (clone : Clone.Ghosts K.Denot) (clone-code : Dict)
    (κs : Lfts 2) (bytes : Bor (List ℕ)) (kind : K.Denot) where
  pub all_same : (r r' : Bool)
      → all.Post K laws copies holds holds-code clone clone-code κs (bytes, (kind, tt)) r (bytes, (kind, tt))
      → all.Post K laws copies holds holds-code clone clone-code κs (bytes, (kind, tt)) r' (bytes, (kind, tt)) → r ≡ r'
  all_same r r' met met' = met ∙ sym met'

  pub first_same : (r r' : ℕ)
      → first.Post K laws copies holds holds-code clone clone-code κs (bytes, (kind, tt)) r (bytes, (kind, tt))
      → first.Post K laws copies holds holds-code clone clone-code κs (bytes, (kind, tt)) r' (bytes, (kind, tt)) → r ≡ r'
  first_same r r' met met' = met.1 ∙ sym met'.1

pub find_same : (κs : Lfts 1) (bytes : Bor (List ℕ)) (wanted r r' : ℕ)
    → find.Post κs (bytes, (wanted, tt)) r (bytes, (wanted, tt)) → find.Post κs (bytes, (wanted, tt)) r' (bytes, (wanted, tt)) → r ≡ r'
find_same κs bytes wanted r r' met met' = met.1 ∙ sym met'.1

-- at any room
module _ (N : ℕ) (fits : _) (κs : Lfts 2) (few : Bor (Few N)) (bytes : Bor (List ℕ)) where
  pub of_same : (r r' : Few N) → of.Post N fits κs (bytes, tt) r (bytes, tt) → of.Post N fits κs (bytes, tt) r' (bytes, tt) → r ≡ r'
  of_same r r' met met' = met ∙ sym met'

  pub is_tidy_same : (r r' : Bool) → is-tidy.Post N fits κs (few, tt) r (few, tt) → is-tidy.Post N fits κs (few, tt) r' (few, tt) → r ≡ r'
  is_tidy_same r r' met met' = met ∙ sym met'

  pub as_slice_same : (r r' : Bor (List ℕ)) → as-slice.Post N fits κs (few, tt) r (few, tt) → as-slice.Post N fits κs (few, tt) r' (few, tt) → r.now ≡ r'.now
  as_slice_same r r' met met' = met ∙ sym met'

module _ (N : ℕ) (fits : _) (κs : Lfts 3) (few : Bor (Few N)) (more : Bor (List ℕ)) where
  pub put_same : (r r' : Few N) → put.Post N fits κs (few, (more, tt)) r (few, (more, tt)) → put.Post N fits κs (few, (more, tt)) r' (few, (more, tt)) → r ≡ r'
  put_same r r' met met' = met ∙ sym met'
