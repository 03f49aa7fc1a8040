-- Decisions as they are held are those of the bytes that they stand for. Assumes nothing.
use mathlib.Core.Path.{◌≡◌, refl, sym, ap}
use mathlib.Core.Logic.{◌≢◌}
use mathlib.Core.Bool.{true, false}
use mathlib.Core.List.{List}
use mathlib.Core.Option.{Option, none, some}
use Prim.Native.Nat.{ℕ, ◌≤◌, ◌<◌}
use native.Mathlib.Omega.{arith}
use borrow.Author.Tests.{lt-ltb, le-ltb, eq-eqb, ne_eqb}
use lib.ListN.{length, take, drop, get_or}
use Rattle.std.proofs.Common.{Ok, Err}
use Rattle.laws.proofs.Bools.{and_left, and_right}
use Rattle.settings.specs.Calls.{finding}
use Rattle.tables.specs.Calls.{set_to}
use Rattle.tables.specs.Rules.{allowed}
use Rattle.settings.specs.declared.Setting.{Setting}
use Rattle.settings.specs.Answers.{Found}
use Rattle.tables.specs.declared.Change.{Change}
use Rattle.paper.specs.Numbers.{get_code, set_code, most_serial, not_allowed}
use Rattle.answers.specs.Answers.{core_allowed, with_table, silent, staying, good, malformed, unknown_id, not_supported, wrong_width, gets_other, gets_found, get_answer, sets_other, stored, sets_setting, sets_found, set_answer, frame_answer}
use Rattle.who.specs.Parts.{identity_allowed}
use Rattle.endian.specs.Numbers.{from_little}
use Rattle.who.specs.Calls.{looked_of}
use Rattle.who.specs.Answers.{Value}
use Rattle.spans.specs.Few.{few, those}
use Rattle.spans.proofs.Fews.{those_back}
use Rattle.answers.specs.Calls.{answering}
use Rattle.answers.specs.declared.Core.{Core}
use Rattle.paper.specs.declared.Refusal.{Refusal}
use Rattle.answers.specs.declared.Outcome.{Outcome}

-- a look-up among the read-only ids: its answer, by whether it found one
module _ (core : Core) (id : ℕ) where
  pub gets_none : (o : Option (List ℕ)) {r : Refusal} → looked_of o ≡ Err r → unknown_id core get_code id ≡ gets_other core id o
  unfolding looked_of
  gets_none none e = refl
  gets_none (some v) e = let z : ◌≡◌ {A = ℕ} 0 1 = cc in absurd (omega arith)

  pub gets_some : (o : Option (List ℕ)) {value : Value} → looked_of o ≡ Ok value → good core get_code id (those value) ≡ gets_other core id o
  unfolding looked_of
  gets_some none e = let z : ◌≡◌ {A = ℕ} 0 1 = cc in absurd (omega arith)
  gets_some (some v) {value} e =
      let is : value ≡ few most_serial v = cc in
      rw is (ap (good core get_code id) (those_back most_serial v))

  pub sets_none : (o : Option (List ℕ)) {r : Refusal} → looked_of o ≡ Err r → unknown_id core set_code id ≡ sets_other core id o
  unfolding looked_of
  sets_none none e = refl
  sets_none (some v) e = let z : ◌≡◌ {A = ℕ} 0 1 = cc in absurd (omega arith)

  pub sets_some : (o : Option (List ℕ)) {value : Value} → looked_of o ≡ Ok value → not_supported core id ≡ sets_other core id o
  unfolding looked_of
  sets_some none e = let z : ◌≡◌ {A = ℕ} 0 1 = cc in absurd (omega arith)
  sets_some (some v) e = refl

-- a Set of a setting, by the width of the value and by what the table makes of the number
module _ (core : Core) (s : Setting) (value : List ℕ) where
  pub sets_wrong : length value ≢ s.width → wrong_width core s ≡ sets_setting core s value
  unfolding sets_setting
  sets_wrong h = rw (ne_eqb (length value) s.width h)

  pub sets_right : length value ≡ s.width → {n : ℕ} → n ≡ from_little value → {change : Change} → change ≡ set_to core.table s.index n
      → stored (with_table core change.table) s n change.answer ≡ sets_setting core s value
  unfolding sets_setting
  sets_right h is e = rw (eq-eqb (length value) s.width h, e, is)

-- a Get and a Set, by their data and by what the id names
module _ (core : Core) (bytes : List ℕ) where
  pub gets_odd : length bytes ≢ 3 → malformed core ≡ get_answer core bytes
  unfolding get_answer
  gets_odd h = rw (ne_eqb (length bytes) 3 h)

  pub gets_flagged : length bytes ≡ 3 → get_or bytes 2 0 ≢ 0 → malformed core ≡ get_answer core bytes
  unfolding get_answer
  gets_flagged h flags = rw (eq-eqb (length bytes) 3 h, ne_eqb (get_or bytes 2 0) 0 flags)

  pub gets_is : length bytes ≡ 3 → get_or bytes 2 0 ≡ 0 → {id : ℕ} → id ≡ from_little (take 2 bytes) → {f : Found} → finding id ≡ f
      → gets_found core id f ≡ get_answer core bytes
  unfolding get_answer
  gets_is h flags is e = rw (eq-eqb (length bytes) 3 h, eq-eqb (get_or bytes 2 0) 0 flags, sym e, is)

  pub sets_short : length bytes < 3 → malformed core ≡ set_answer core bytes
  unfolding set_answer
  sets_short h = rw (lt-ltb (length bytes) 3 h)

  pub sets_flagged : 3 ≤ length bytes → get_or bytes 2 0 ≢ 0 → malformed core ≡ set_answer core bytes
  unfolding set_answer
  sets_flagged h flags = rw (le-ltb (length bytes) 3 h, ne_eqb (get_or bytes 2 0) 0 flags)

  pub sets_is : 3 ≤ length bytes → get_or bytes 2 0 ≡ 0 → {id : ℕ} → id ≡ from_little (take 2 bytes) → {f : Found} → finding id ≡ f
      → sets_found core id (drop 3 bytes) f ≡ set_answer core bytes
  unfolding set_answer
  sets_is h flags is e = rw (le-ltb (length bytes) 3 h, eq-eqb (get_or bytes 2 0) 0 flags, sym e, is)

-- the answer to a whole frame, and 12
module _ (core : Core) (command : ℕ) (bytes : List ℕ) where
  pub answer_refused : core_allowed core ≡ false → staying core (Outcome.Refused not_allowed) silent ≡ answering core command bytes
  unfolding answering
  answer_refused e = rw e

  pub answer_given : core_allowed core ≡ true → frame_answer core command bytes ≡ answering core command bytes
  unfolding answering
  answer_given e = rw e

-- the parts of what is allowed
module _ (core : Core) (ok : core_allowed core ≡ true) where
  pub identity_allowed_lem : identity_allowed core.identity ≡ true
  unfolding core_allowed
  identity_allowed_lem = and_left (identity_allowed core.identity) _ ok

  pub table_allowed : allowed core.table ≡ true
  unfolding core_allowed
  table_allowed = and_right (identity_allowed core.identity) _ ok
