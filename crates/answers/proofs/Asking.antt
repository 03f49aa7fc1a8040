-- A good Get answers the number held, a good Set stores what it answers, and one that is not allowed names the nearest. Assumes nothing.
use mathlib.Core.Path.{◌≡◌, refl, sym, ap, ◌∙◌}
use mathlib.Core.Bool.{true}
use mathlib.Core.List.{[]}
use mathlib.Core.Option.{some}
use Prim.Native.Nat.{ℕ, zero, suc, ◌^◌, ◌≤◌, ◌<◌}
use native.Mathlib.Omega.{arith}
use lib.ListN.{length}
use Rattle.std.proofs.Common.{None}
use Rattle.endian.proofs.Little.{length_little}
use Rattle.endian.proofs.Theorems.{little_is_read}
use Rattle.settings.specs.Columns.{count, id_at, width_at}
use Rattle.tables.specs.Rules.{partner_number}
use Rattle.settings.specs.Calls.{setting_at, finding}
use Rattle.settings.proofs.Theorems.{rows_hold, find_is_found, allowed_has_room}
use Rattle.tables.proofs.Theorems.{refused_names_nearest}
use Rattle.tables.proofs.Tables.{set_accepted}
use Rattle.endian.specs.Numbers.{little, from_little, said}
use Rattle.paper.specs.Numbers.{set_code}
use Rattle.who.specs.Values.{read_only}
use Rattle.who.specs.Laws.{is_some}
use Rattle.who.proofs.Theorems.{held_is_read_out}
use Rattle.answers.specs.Answers.{gets_other, sets_setting, frame_answer}
use Rattle.answers.specs.Refusals.{is_read_only}
use Rattle.answers.specs.Laws.{GetAnswersHeld, GetAnswersReadOnly, SetStoresIt, SetRefusedNamesNearest}
use Rattle.answers.specs.declared.Core.{Core}
use Rattle.answers.proofs.Deciding.{gets_is, sets_is, sets_right}
use Rattle.answers.proofs.Refusing.{found_is, read_only_is, read_only_other, read_only_small}

id_back : (k : ℕ) → k < count → id_at k ≡ from_little (little 2 (id_at k))
id_back k h = sym (little_is_read 2 (id_at k) (rows_hold k h).id_holds)

pub get_held : GetAnswersHeld
unfolding frame_answer
get_held core k h = sym (gets_is core (said (id_at k) 0 []) refl refl (id_back k h) (find_is_found k h))

-- a read-only id is no setting, and has two bytes
pub get_read_only : GetAnswersReadOnly
unfolding frame_answer
get_read_only core id value held =
    let out : read_only core.identity core.readings id ≡ some value = held_is_read_out core.identity core.readings id value held in
    let known : is_read_only id ≡ true = sym (read_only_is core id) ∙ ap is_some out in
    let none_found : finding id ≡ None = found_is id ∙ rw (read_only_other id known) in
    let two : id ≡ from_little (little 2 id) = sym (little_is_read 2 id (read_only_small id known)) in
    sym (gets_is core (said id 0 []) refl refl two none_found) ∙ ap (gets_other core id) out

-- a Set of a setting in its own width
module _ (core : Core) (k n : ℕ) (h : k < count) where
  set_is : frame_answer core set_code (said (id_at k) 0 (little (width_at k) n)) ≡ sets_setting core (setting_at k) (little (width_at k) n)
  unfolding frame_answer
  set_is =
      let many : 3 ≤ length (said (id_at k) 0 (little (width_at k) n)) = omega arith in
      sym (sets_is core (said (id_at k) 0 (little (width_at k) n)) many refl (id_back k h) (find_is_found k h))

  wide : length (little (width_at k) n) ≡ width_at k
  wide = length_little (width_at k) n

pub set_stores : SetStoresIt
set_stores core k n ok h fits =
    let is : n ≡ from_little (little (width_at k) n) = sym (little_is_read (width_at k) n (allowed_has_room k n (partner_number core.table k) h fits)) in
    set_is core k n h
    ∙ sym (sets_right core (setting_at k) (little (width_at k) n) (wide core k n h) is (sym (set_accepted core.table k n ok h fits)))

pub set_names : SetRefusedNamesNearest
set_names core k n ok h small bad =
    let is : n ≡ from_little (little (width_at k) n) = sym (little_is_read (width_at k) n small) in
    let narrow : width_at k ≤ 2 = (rows_hold k h).width_most in
    let refused = refused_names_nearest core.table k n ok h (short (width_at k) n narrow small) bad in (
      refused.0,
      refused.2,
      set_is core k n h
          ∙ sym (sets_right core (setting_at k) (little (width_at k) n) (wide core k n h) is (sym refused.1)),
    )
  where
    short : (w m : ℕ) → w ≤ 2 → m < 256 ^ w → m < 2 ^ 16
    short zero m few less = omega arith
    short (suc zero) m few less = omega arith
    short (suc (suc zero)) m few less = less
    short (suc (suc (suc w))) m few less = absurd (omega arith)
