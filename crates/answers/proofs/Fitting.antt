-- Every reply fits a frame. Assumes nothing.
use mathlib.Core.Path.{◌≡◌, refl}
use mathlib.Core.Bool.{true}
use mathlib.Core.List.{List, [], ◌∷◌}
use mathlib.Core.Option.{Option, none, some}
use Prim.Native.Nat.{ℕ, ◌≤◌, ◌<◌, ◌/◌, ◌%◌}
use native.Mathlib.Omega.{arith}
use borrow.Author.Tests.{lt-ltb, leb-true}
use lib.Dec.{eqb, ltb}
use lib.ListN.{length, take, drop, get_or}
use Rattle.std.proofs.Common.{Some, None, Ok, Err}
use Rattle.laws.specs.Lists.{every, byte}
use Rattle.laws.proofs.Bools.{both, pick}
use Rattle.wire.specs.Laws.{Writable}
use Rattle.settings.specs.Calls.{finding}
use Rattle.tables.specs.Calls.{set_to}
use Rattle.settings.specs.declared.Setting.{Setting}
use Rattle.settings.specs.Answers.{Found}
use Rattle.tables.specs.Answers.{Answer}
use Rattle.who.specs.Parts.{identity_allowed}
use Rattle.endian.specs.Numbers.{little, from_little, said}
use Rattle.endian.proofs.Little.{length_little, bytes_little}
use Rattle.who.specs.Values.{read_only}
use Rattle.who.specs.Laws.{Small, small_some}
use Rattle.who.proofs.Theorems.{values_fit}
use Rattle.paper.specs.Numbers.{get_code, set_code, ping_code, version_code, product_code, restart_code, async_code}
use Rattle.answers.specs.Answers.{sent, Decision, tells, restarts, gets_other, gets_found, get_answer, sets_other, stored, sets_setting, sets_found, set_answer, frame_answer}
use Rattle.answers.specs.Settled.{Settled}
use Rattle.answers.specs.Laws.{Fits, nothing, a_frame, an_error, RepliesFit}
use Rattle.answers.specs.declared.Core.{Core}
use Rattle.answers.proofs.Found.{found_settled}

abbrev Replies : Decision → Type 0
Replies d = Fits d.reply

writable : (command : ℕ) (bytes : List ℕ) → command ≤ 15 → length bytes ≤ 35 → every byte bytes ≡ true → Writable command bytes
writable command bytes nibble few small = record { nibble = nibble; few = few; small = record { below = small } }

low_byte : (n : ℕ) → byte (n % 256) ≡ true
low_byte n = let low : n % 256 < 256 = omega arith in lt-ltb (n % 256) 256 low

-- an id, a flag and a value
pub writable_said : (command id flag : ℕ) (v : List ℕ) → command ≤ 15 → flag < 256 → length v ≤ 32 → every byte v ≡ true → Writable command (said id flag v)
writable_said command id flag v nibble low few small =
    writable command (said id flag v) nibble (omega arith) (both _ _ (low_byte id) (both _ _ (low_byte (id / 256)) (both _ _ (lt-ltb flag 256 low) small)))

fits : (command : ℕ) (bytes : List ℕ) → command ≤ 15 → length bytes ≤ 35 → every byte bytes ≡ true → Fits (sent command bytes)
fits command bytes nibble few small = a_frame (writable command bytes nibble few small)

fits_said : (command id flag : ℕ) (v : List ℕ) → command ≤ 15 → flag < 256 → length v ≤ 32 → every byte v ≡ true → Fits (sent command (said id flag v))
fits_said command id flag v nibble low few small = a_frame (writable_said command id flag v nibble low few small)

-- the same with no value, and with a number in a setting's width
fits_none : (command id flag : ℕ) → command ≤ 15 → flag < 256 → Fits (sent command (said id flag []))
fits_none command id flag nibble low = fits_said command id flag [] nibble low (leb-true 0 32 refl) refl

fits_number : (command : ℕ) (s : Setting) (flag n : ℕ) → Settled s → command ≤ 15 → flag < 256 → Fits (sent command (said s.id flag (little s.width n)))
fits_number command s flag n settled nibble low =
    let narrow : s.width ≤ 2 = settled.narrow in
    fits_said command s.id flag (little s.width n) nibble low (rw (length_little s.width n) (omega arith)) (bytes_little s.width n)

seven : get_code ≤ 15
seven = leb-true 7 15 refl

eight : set_code ≤ 15
eight = leb-true 8 15 refl

-- command by command
module _ (core : Core) where
  fits_tells : (response number : ℕ) (bytes : List ℕ) → response ≤ 15 → Replies (tells core response number bytes)
  unfolding tells
  fits_tells response number bytes nibble =
      pick Replies (eqb (length bytes) 0) (fits response (little 2 number) nibble (leb-true 2 35 refl) (bytes_little 2 number)) an_error

  fits_restarts : (bytes : List ℕ) → Replies (restarts core bytes)
  unfolding restarts
  fits_restarts bytes = pick Replies (eqb (length bytes) 0) nothing an_error

  fits_gets_other : (id : ℕ) (o : Option (List ℕ)) → Small o → Replies (gets_other core id o)
  fits_gets_other id none small = fits_none get_code id _ seven (leb-true _ 256 refl)
  fits_gets_other id (some v) (small_some few small) = fits_said get_code id _ v seven (leb-true _ 256 refl) few small

  fits_sets_other : (id : ℕ) (o : Option (List ℕ)) → Replies (sets_other core id o)
  fits_sets_other id none = fits_none set_code id _ eight (leb-true _ 256 refl)
  fits_sets_other id (some v) = fits_none set_code id _ eight (leb-true _ 256 refl)

  fits_gets_found : identity_allowed core.identity ≡ true → (id : ℕ) (f : Found) → finding id ≡ f → Replies (gets_found core id f)
  fits_gets_found ok id (Some s) e = fits_number get_code s _ _ (found_settled id s e) seven (leb-true _ 256 refl)
  fits_gets_found ok id None e = fits_gets_other id (read_only core.identity core.readings id) (values_fit core.identity core.readings id ok)

  fits_gets : identity_allowed core.identity ≡ true → (bytes : List ℕ) → Replies (get_answer core bytes)
  unfolding get_answer
  fits_gets ok bytes =
      pick Replies (eqb (length bytes) 3) (pick Replies (eqb (get_or bytes 2 0) 0) (fits_gets_found ok _ (finding (from_little (take 2 bytes))) refl) an_error) an_error

fits_stored : (core : Core) (s : Setting) (n : ℕ) (a : Answer) → Settled s → Replies (stored core s n a)
fits_stored core s n (Ok accepted) settled = fits_number set_code s _ n settled eight (leb-true _ 256 refl)
fits_stored core s n (Err denied) settled = fits_number set_code s _ denied.nearest settled eight (leb-true _ 256 refl)

module _ (core : Core) where
  fits_sets_setting : (s : Setting) (value : List ℕ) → Settled s → Replies (sets_setting core s value)
  unfolding sets_setting
  fits_sets_setting s value settled =
      pick Replies (eqb (length value) s.width) (fits_stored _ s _ (set_to core.table s.index (from_little value)).answer settled)
      (fits_number set_code s _ _ settled eight (leb-true _ 256 refl))

  fits_sets_found : (id : ℕ) (value : List ℕ) (f : Found) → finding id ≡ f → Replies (sets_found core id value f)
  fits_sets_found id value (Some s) e = fits_sets_setting s value (found_settled id s e)
  fits_sets_found id value None e = fits_sets_other core id (read_only core.identity core.readings id)

  fits_sets : (bytes : List ℕ) → Replies (set_answer core bytes)
  unfolding set_answer
  fits_sets bytes =
      pick Replies (ltb (length bytes) 3) an_error
      (pick Replies (eqb (get_or bytes 2 0) 0) (fits_sets_found _ (drop 3 bytes) (finding (from_little (take 2 bytes))) refl) an_error)

pub replies_fit : RepliesFit
unfolding frame_answer
replies_fit core command bytes ok low =
    pick Replies (eqb command ping_code) (fits_tells core 5 core.identity.version bytes (leb-true 5 15 refl))
    (pick Replies (eqb command version_code) (fits_tells core 1 core.identity.version bytes (leb-true 1 15 refl))
    (pick Replies (eqb command product_code) (fits_tells core 1 core.identity.product bytes (leb-true 1 15 refl))
    (pick Replies (eqb command restart_code) (fits_restarts core bytes)
    (pick Replies (eqb command get_code) (fits_gets core ok bytes)
    (pick Replies (eqb command set_code) (fits_sets core bytes)
    (pick Replies (eqb command async_code) nothing
    (fits 3 (command ∷ []) (leb-true 3 15 refl) (leb-true 1 35 refl) (both _ _ (lt-ltb command 256 low) refl))))))))
