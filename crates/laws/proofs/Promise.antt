-- Laws of the form of a promise. Assumes nothing.
use mathlib.Core.Path.{◌≡◌, refl, sym, ap, ◌∙◌}
use mathlib.Core.List.{List, [], ◌++◌, append_assoc, append-nil}
use Prim.Native.Nat.{ℕ, ◌+◌, ◌-◌, ◌≤◌}
use native.Mathlib.Nat.{zero-add}
use native.Mathlib.Omega.{arith}
use borrow.Rule.Slice.PartMut.{put_mid}
use lib.ListN.{length, take, drop, length-drop, drop_of_length-le}
use lib.Seq.{sets, sets-eq, take-append_seam, drop-drop}
use Rattle.std.proofs.lemmas.List.{take_all}
use Rattle.laws.specs.Promise.{overlaid, Given, Gives}
use Rattle.laws.proofs.Lists.{part_to_end}

-- a run of stores from the front on overlays the buffer
pub overlaid_sets : (written buffer : List ℕ) → length written ≤ length buffer → sets buffer 0 written ≡ overlaid written buffer
unfolding overlaid
overlaid_sets written buffer h =
    let fits : 0 + length written ≤ length buffer = omega arith in
    sets-eq written buffer 0 fits ∙ ap (λ (k : ℕ). written ++ drop k buffer) (zero-add (length written))

-- and what is at the front is what was written
pub overlaid_front : (written buffer : List ℕ) → take (length written) (overlaid written buffer) ≡ written
unfolding overlaid
overlaid_front written buffer = take-append_seam written _

-- the same of stores
pub sets_front : (written buffer : List ℕ) → length written ≤ length buffer → take (length written) (sets buffer 0 written) ≡ written
sets_front written buffer h = rw (overlaid_sets written buffer h) (overlaid_front written buffer)

-- what fits is copied whole: to the front of a buffer it overlays it
pub copied : (from into : List ℕ) {last : List ℕ} → length from ≤ length into → last ≡ overlaid (take (length into) from) into → last ≡ overlaid from into
copied from into h e = e ∙ ap (λ (l : List ℕ). overlaid l into) (take_all (length into) from h)

-- and to a place of it is a run of stores from there on
pub copied_at : (from into : List ℕ) (at : ℕ) {last : List ℕ} → at + length from ≤ length into
    → last ≡ overlaid (take (length (take (length into - at) (drop at into))) from) (take (length into - at) (drop at into))
    → put_mid at (length into - at) into last ≡ sets into at from
unfolding overlaid
copied_at from into at h e =
    let part : take (length into - at) (drop at into) ≡ drop at into = part_to_end into (length into) at refl in
    let none : drop (length into - at) (drop at into) ≡ [] = drop_of_length-le (drop at into) {i = length into - at} (rw length-drop (omega arith)) in
    let room : length from ≤ length (drop at into) = rw length-drop (omega arith) in
    let whole : take (length (drop at into)) from ≡ from = take_all (length (drop at into)) from room in
    rw (e, part, none, whole, append-nil, drop-drop) (sym (append_assoc (take at into) from _) ∙ sym (sets-eq from into at h))

-- a promise is met by the answer that it gives, with its bytes written; where it writes none, the buffer stays as it was
pub gives_bytes : {A : Type 0} {given : Given A} {buffer : List ℕ} (r : A) (bytes l : List ℕ) → given ≡ record { answer = r; written = bytes } → l ≡ overlaid bytes buffer → Gives A given buffer r l
gives_bytes {buffer = buffer} r bytes l e f =
    record { answered = sym (ap (λ g. g.answer) e); left = f ∙ sym (ap (λ g. overlaid g.written buffer) e) }

pub gives_none : {A : Type 0} {given : Given A} {buffer : List ℕ} (r : A) → given ≡ record { answer = r; written = [] } → Gives A given buffer r buffer
unfolding overlaid
gives_none {buffer = buffer} r e = gives_bytes r [] buffer e refl

-- two answers that meet the same promise are the same, and so are the buffers that they leave
pub gives_same : {A : Type 0} {given : Given A} {buffer : List ℕ} {r r' : A} {l l' : List ℕ} → Gives A given buffer r l → Gives A given buffer r' l' → (r ≡ r') × (l ≡ l')
gives_same g g' = (g.answered ∙ sym g'.answered, g.left ∙ sym g'.left)

-- the same where a promise is an equation alone
pub equal_same : {A : Type 0} {r r' given : A} → r ≡ given → r' ≡ given → r ≡ r'
equal_same met met' = met ∙ sym met'
