-- Any cutting, for any call that takes pieces: what a row of calls comes to is what the bytes taken say, read as one row.
-- Assumes nothing.
use mathlib.Core.Bool.{Bool, true, ◌&&◌}
use lib.Dec.{leb}
use borrow.Author.Tests.{leb-true}
use mathlib.Core.Path.{◌≡◌, refl, sym, ap, ◌∙◌}
use mathlib.Core.List.{List, [], ◌∷◌, ◌++◌}
use Prim.Native.Nat.{ℕ, ◌+◌, ◌≤◌, ◌-◌, min}
use native.Mathlib.Omega.{arith}
use lib.ListN.{length, take, drop, length-take, length-drop}
use lib.Seq.{take-take, take-add, take_all}
use Rattle.laws.specs.Cutting.{Step, Offer, calls, ready}
use Rattle.laws.proofs.Bools.{and_left, and_right}

-- calls that come to nothing, one after the other, come to nothing
pub all_idle : {S E C : Type 0} (call : S → C → List ℕ → Step S E) (s : S) → ((c : C) (piece : List ℕ) → call s c piece ≡ record { state = s; events = []; taken = 0 })
    → (bytes : List ℕ) (offers : List (Offer C)) → calls call s bytes offers ≡ record { state = s; events = []; taken = 0 }
all_idle call s idle bytes [] = refl
all_idle {S} {E} call s idle bytes (o ∷ more) =
    rw (idle o.with (take o.count bytes))
    (ap (λ (t : Step S E). record { state = t.state; events = t.events; taken = 0 + t.taken }) (all_idle call s idle bytes more))

-- U is where a reading is; says and left read a row of bytes from there, state is how a call holds it
module _ {S E C U : Type 0} (call : S → C → List ℕ → Step S E) (state : U → S) (says : U → List ℕ → List E) (left : U → List ℕ → U) where
  -- a step that takes some bytes and says what they say
  pub record Reads (u : U) (bytes : List ℕ) (s : Step S E) : Type 0 where
    pub within : s.taken ≤ length bytes
    pub state_is : s.state ≡ state (left u (take s.taken bytes))
    pub events_are : s.events ≡ says u (take s.taken bytes)

  -- steps that take as many of the same bytes come to the same; and one that takes all of them says what they say
  pub read_same : (u : U) (bytes : List ℕ) (s s' : Step S E) → Reads u bytes s → Reads u bytes s' → s.taken ≡ s'.taken → s ≡ s'
  read_same u bytes s s' one other same =
      let states : s.state ≡ s'.state = one.state_is ∙ rw same (sym other.state_is) in
      let events : s.events ≡ s'.events = one.events_are ∙ rw same (sym other.events_are) in
      λ i. record { state = states i; events = events i; taken = same i }

  pub read_whole : (u : U) (bytes : List ℕ) (s : Step S E) → Reads u bytes s → s.taken ≡ length bytes → s ≡ record { state = state (left u bytes); events = says u bytes; taken = length bytes }
  read_whole u bytes s one all =
      let whole : take s.taken bytes ≡ bytes = take_all s.taken bytes (omega arith) in
      let states : s.state ≡ state (left u bytes) = one.state_is ∙ rw whole in
      let events : s.events ≡ says u bytes = one.events_are ∙ rw whole in
      λ i. record { state = states i; events = events i; taken = all i }

  module _ (says_nil : (u : U) → says u [] ≡ []) (left-nil : (u : U) → left u [] ≡ u)
      (says_append : (u : U) (xs ys : List ℕ) → says u (xs ++ ys) ≡ says u xs ++ says (left u xs) ys)
      (left_append : (u : U) (xs ys : List ℕ) → left u (xs ++ ys) ≡ left (left u xs) ys) where
    -- one step, and then another on what it did not take
    both : (u : U) (bytes : List ℕ) (here later : Step S E) → Reads u bytes here → Reads (left u (take here.taken bytes)) (drop here.taken bytes) later
        → Reads u bytes (record { state = later.state; events = here.events ++ later.events; taken = here.taken + later.taken })
    both u bytes here later h l =
        let two : take (here.taken + later.taken) bytes ≡ take here.taken bytes ++ take later.taken (drop here.taken bytes) = take-add here.taken later.taken bytes in
        let rest : later.taken ≤ length bytes - here.taken = rw length-drop at l.within in
        let first : here.taken ≤ length bytes = h.within in
        record {
          within = omega arith;
          state_is = l.state_is ∙ rw (two, left_append);
          events_are = rw (two, says_append, h.events_are, l.events_are);
        }

    module _ (reads : (u : U) (c : C) (piece : List ℕ) → Reads u piece (call (state u) c piece)) where
      -- a call that is handed only the first of the bytes
      part : (u : U) (c : C) (n : ℕ) (bytes : List ℕ) → Reads u bytes (call (state u) c (take n bytes))
      part u c n bytes =
          let here = call (state u) c (take n bytes) in
          let h : Reads u (take n bytes) here = reads u c (take n bytes) in
          let few : here.taken ≤ min n (length bytes) = rw length-take at h.within in
          let less : here.taken ≤ n = omega arith in
          let same : take here.taken (take n bytes) ≡ take here.taken bytes = take-take here.taken n bytes less in
          record { within = omega arith; state_is = rw same at h.state_is; events_are = rw same at h.events_are }

      pub any_cutting : (u : U) (bytes : List ℕ) (offers : List (Offer C)) → Reads u bytes (calls call (state u) bytes offers)
      any_cutting u bytes [] = record { within = omega arith; state_is = ap state (sym (left-nil u)); events_are = sym (says_nil u) }
      any_cutting u bytes (o ∷ more) =
          let here = call (state u) o.with (take o.count bytes) in
          let h : Reads u bytes here = part u o.with o.count bytes in
          let u' : U = left u (take here.taken bytes) in
          both u bytes here (calls call here.state (drop here.taken bytes) more) h
          (rw h.state_is (any_cutting u' (drop here.taken bytes) more))

-- Calls that take a byte at least, where there is one, take all in as many calls as there are bytes. `fit` is what a call wants of a state, and
-- keeps.
module _ {S E C : Type 0} (call : S → C → List ℕ → Step S E) (fit : S → Type 0) (serves : C → Bool)
    (within : (s : S) (c : C) (piece : List ℕ) → (call s c piece).taken ≤ length piece)
    (goes_on : (s : S) (c : C) (piece : List ℕ) → fit s → serves c ≡ true → min 1 (length piece) ≤ (call s c piece).taken)
    (keeps : (s : S) (c : C) (piece : List ℕ) → fit s → fit (call s c piece).state) where
  pub all_taken : (s : S) (bytes : List ℕ) (offers : List (Offer C)) → fit s → ready serves offers ≡ true → length bytes ≤ length offers
      → (calls call s bytes offers).taken ≡ length bytes
  all_taken s bytes [] f r h = omega arith
  all_taken s bytes (o ∷ more) f r h =
      let own = and_left (leb 1 o.count && serves o.with) (ready serves more) r in
      let some : 1 ≤ o.count = leb-true 1 _ (and_left (leb 1 o.count) (serves o.with) own) in
      let piece : List ℕ = take o.count bytes in
      let here = call s o.with piece in
      let least : min 1 (min o.count (length bytes)) ≤ here.taken = rw length-take at (goes_on s o.with piece f (and_right (leb 1 o.count) _ own)) in
      let most : here.taken ≤ min o.count (length bytes) = rw length-take at (within s o.with piece) in
      let less : length (drop here.taken bytes) ≤ length more = rw length-drop (omega arith) in
      let rest : (calls call here.state (drop here.taken bytes) more).taken ≡ length bytes - here.taken =
      all_taken here.state (drop here.taken bytes) more (keeps s o.with piece f) (and_right (leb 1 o.count && serves o.with) _ r) less
      ∙ length-drop here.taken bytes in
      omega arith
