-- The requests: their data, and what the calls make of them. Assumes nothing.
use mathlib.Core.Path.{◌≡◌, refl, sym, ap, ◌∙◌}
use mathlib.Core.Bool.{Bool, true, false, cond}
use mathlib.Core.List.{[], ◌∷◌}
use Prim.Native.Nat.{ℕ, zero, suc, ◌+◌, ◌/◌, ◌%◌, ◌^◌, ◌≤◌, ◌<◌}
use native.Mathlib.Omega.{arith}
use borrow.Author.Tests.{lt-ltb, le-ltb}
use lib.ListN.{length, take}
use lib.Dec.{eqb}
use Rattle.paper.specs.Numbers.{frame_room, short_buffer, get_code, set_code}
use Rattle.wire.specs.Frame.{frame}
use Rattle.endian.specs.Numbers.{little, said}
use Rattle.wire.specs.Calls.{unwritten, written_as, writing}
use Rattle.std.specs.Prelude.{Some, None}
use Rattle.std.specs.Bool.{then_some}
use Rattle.settings.specs.Columns.{count, id_at, width_at}
use Rattle.settings.specs.Calls.{placing}
use Rattle.settings.specs.declared.Setting.{Setting}
use Rattle.settings.specs.Answers.{Found}
use Rattle.settings.proofs.Rows.{place_has}
use Rattle.settings.proofs.Theorems.{rows_hold}
use Rattle.endian.proofs.Little.{length_little}
use Rattle.requests.specs.Requests.{get_request}
use Rattle.requests.specs.Calls.{get_written, set_of, set_found, set_written, named}
use Rattle.requests.specs.Laws.{get_frame, SetIsRequest}

-- with room a Get is written as its bytes
pub get_made : (id room : ℕ) → frame_room ≤ room → get_written id room ≡ written_as (get_request id)
unfolding get_written
get_made id room enough = rw (le-ltb room frame_room enough)

pub get_bytes : (id : ℕ) → id < 256 ^ 2 → get_request id ≡ get_frame id
get_bytes id small =
    let high : id / 256 % 256 ≡ id / 256 = omega arith in
    ap (λ (b : ℕ). frame 7 (id % 256 ∷ b ∷ 0 ∷ [])) high

-- a Get is its frame, by the frame writer's rule
pub get_is : (id room : ℕ) → writing get_code (said id 0 []) room ≡ get_written id room
unfolding get_written writing
get_is id room = refl

-- the data of a Set, in either width
pub data_is : (width id n : ℕ) → 1 ≤ width → width ≤ 2 → take (3 + width) (said id 0 (little 2 n)) ≡ said id 0 (little width n)
data_is zero id n some few = absurd (omega arith)
data_is (suc zero) id n some few = refl
data_is (suc (suc zero)) id n some few = refl
data_is (suc (suc (suc w))) id n some few = absurd (omega arith)

module _ (id width n : ℕ) where
  pub set_of_is : (room : ℕ) → width ≤ 2 → frame_room ≤ room
      → writing set_code (said id 0 (little width n)) room ≡ written_as (frame set_code (said id 0 (little width n)))
  unfolding writing
  set_of_is room few enough =
      let short : length (said id 0 (little width n)) ≤ 35 = omega (arith, length_little width n) in
      rw (le-ltb room frame_room enough, le-ltb 35 (length (said id 0 (little width n))) short)

module _ (found : Found) (n room : ℕ) where
  pub set_short : room < frame_room → set_found found n room ≡ unwritten short_buffer
  unfolding set_found
  set_short h = rw (lt-ltb room frame_room h)

  pub set_roomy : frame_room ≤ room → set_found found n room ≡ set_of found n
  unfolding set_found
  set_roomy enough = rw (le-ltb room frame_room enough)

pub set_request_lem : SetIsRequest
unfolding set_written placing
set_request_lem k n room h fits enough =
    set_roomy (placing k) n room enough ∙ rw (lt-ltb k count h, lt-ltb n (256 ^ width_at k) fits)

-- the setting at a place has that place, so what a look-up there finds is at its own
pub found_again : (k : ℕ) (s : Setting) → placing k ≡ Some s → placing s.index ≡ Some s
found_again k s e = ap placing (ap (λ (x : Setting). x.index) (sym (place_has k s e).1)) ∙ e

-- one that is handed in, by what is at its place
module _ (t : Setting) where
  pub named_none : placing t.index ≡ None → named t ≡ None
  unfolding named
  named_none e = by (eqb (id_at t.index) t.id)
    where
      by : (b : Bool) → cond b (placing t.index) None ≡ None
      by true = e
      by false = refl

  pub named_some : (here : Setting) → placing t.index ≡ Some here → named t ≡ then_some (eqb here.id t.id) here
  unfolding named
  named_some here e =
      let id : here.id ≡ id_at t.index = ap (λ (x : Setting). x.id) (sym (place_has t.index here e).1) in
      ap (λ (f : Found). cond (eqb (id_at t.index) t.id) f None) e ∙ by (eqb (id_at t.index) t.id) ∙ ap (λ (i : ℕ). then_some (eqb i t.id) here) (sym id)
    where
      by : (b : Bool) → cond b (Some here) None ≡ then_some b here
      by true = refl
      by false = refl

pub named_again : (t s : Setting) → named t ≡ Some s → placing s.index ≡ Some s
unfolding named
named_again t s = by (eqb (id_at t.index) t.id)
  where
    by : (b : Bool) → cond b (placing t.index) None ≡ Some s → placing s.index ≡ Some s
    by true e = found_again t.index s e
    by false e = cc

-- the width of a setting
pub record Width (width : ℕ) : Type 0 where
  pub some : 1 ≤ width
  pub few : width ≤ 2

pub width_of : (s : Setting) → placing s.index ≡ Some s → Width s.width
width_of s e =
    let here = place_has s.index s e in
    let row = rows_hold s.index here.0 in
    let is : width_at s.index ≡ s.width = ap (λ (x : Setting). x.width) here.1 in
    record { some = rw is at row.width_some; few = rw is at row.width_most }
