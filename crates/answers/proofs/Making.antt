-- What a frame makes of a board's table, and what refusals leave. Assumes nothing.
use mathlib.Core.Path.{◌≡◌, refl, ap, ◌∙◌}
use mathlib.Core.Logic.{◌≢◌}
use mathlib.Core.Bool.{Bool, true, false, ◌&&◌}
use mathlib.Core.List.{List}
use mathlib.Core.Option.{Option, none, some}
use Prim.Native.Nat.{ℕ}
use native.Mathlib.Omega.{arith}
use borrow.Author.Tests.{ltb-true, ltb-false, eqb-true, lt-leb, le-leb}
use lib.Dec.{eqb, ltb, leb}
use lib.ListN.{length, take, drop, get_or}
use Rattle.std.proofs.Common.{Some, None, Ok, Err}
use Rattle.laws.proofs.Bools.{pick}
use Rattle.settings.specs.Columns.{count}
use Rattle.tables.specs.Rules.{allowed}
use Rattle.settings.specs.Calls.{finding}
use Rattle.tables.specs.declared.Table.{Table}
use Rattle.settings.specs.declared.Setting.{Setting}
use Rattle.settings.specs.Answers.{Found}
use Rattle.tables.specs.Answers.{Answer}
use Rattle.tables.specs.declared.Denied.{Denied}
use Rattle.paper.specs.declared.Refusal.{Refusal}
use Rattle.tables.proofs.Theorems.{set_keeps_allowed, set_keeps_count, refused_keeps_it}
use Rattle.endian.specs.Numbers.{from_little}
use Rattle.who.specs.Values.{read_only}
use Rattle.paper.specs.Numbers.{ping_code, version_code, product_code, restart_code, get_code, set_code, async_code}
use Rattle.answers.specs.Answers.{with_table, Sent, Decision, staying, tells, restarts, gets_other, gets_found, get_answer, sets_other, stored, sets_setting, sets_found, set_answer, frame_answer, makes_found, makes}
use Rattle.answers.specs.Laws.{RefusedStays, AnswerMakes, IdentityStays, ReadingsStay, MakesKeepsAllowed}
use Rattle.answers.specs.declared.Core.{Core}
use Rattle.answers.specs.declared.Outcome.{Outcome}

module _ (core : Core) where
  -- what a decision leaves: who the board is, a table, and all as it was under a refusal
  record Leaves (table : Table) (d : Decision) : Type 0 where
    identity_is : d.core.identity ≡ core.identity
    table_is : d.core.table ≡ table
    refused_is : (refusal : Refusal) → d.outcome ≡ Outcome.Refused refusal → d.core ≡ core
    readings_are : d.outcome ≢ Outcome.Restarted → d.core.readings ≡ core.readings

  abbrev Spares : Decision → Type 0
  Spares = Leaves core.table

  spared : {outcome : Outcome} {reply : Sent} → Spares (staying core outcome reply)
  spared = record { identity_is = refl; table_is = refl; refused_is = λ number e. refl; readings_are = λ other. refl }

  -- commands other than a Set
  tells_spares : (response number : ℕ) (bytes : List ℕ) → Spares (tells core response number bytes)
  unfolding tells
  tells_spares response number bytes = pick Spares (eqb (length bytes) 0) spared spared

  restarts_spares : (bytes : List ℕ) → Spares (restarts core bytes)
  unfolding restarts
  restarts_spares bytes =
      pick Spares (eqb (length bytes) 0)
      (record {
        identity_is = refl;
        table_is = refl;
        refused_is = λ number e. let z : ◌≡◌ {A = ℕ} 0 1 = cc in absurd (omega arith);
        readings_are = λ other. absurd (other refl);
      }) spared

  get_other_spares : (id : ℕ) (o : Option (List ℕ)) → Spares (gets_other core id o)
  get_other_spares id none = spared
  get_other_spares id (some v) = spared

  get_found_spares : (id : ℕ) (f : Found) → Spares (gets_found core id f)
  get_found_spares id (Some s) = spared
  get_found_spares id None = get_other_spares id (read_only core.identity core.readings id)

  gets_spare : (bytes : List ℕ) → Spares (get_answer core bytes)
  unfolding get_answer
  gets_spare bytes =
      pick Spares (eqb (length bytes) 3) (pick Spares (eqb (get_or bytes 2 0) 0) (get_found_spares _ (finding (from_little (take 2 bytes)))) spared) spared

  others_spare : (command : ℕ) (bytes : List ℕ) → eqb command set_code ≡ false → Spares (frame_answer core command bytes)
  unfolding frame_answer
  others_spare command bytes e =
      pick Spares (eqb command ping_code) (tells_spares 5 core.identity.version bytes)
      (pick Spares (eqb command version_code) (tells_spares 1 core.identity.version bytes)
      (pick Spares (eqb command product_code) (tells_spares 1 core.identity.product bytes)
      (pick Spares (eqb command restart_code) (restarts_spares bytes)
      (pick Spares (eqb command get_code) (gets_spare bytes)
      (rw e (pick Spares (eqb command async_code) spared spared))))))

  -- a Set
  stored_leaves : (s : Setting) (n : ℕ) (table : Table) (a : Answer) → ((denied : Denied) → a ≡ Err denied → table ≡ core.table)
      → Leaves table (stored (with_table core table) s n a)
  stored_leaves s n table (Ok accepted) same =
      record {
        identity_is = refl;
        table_is = refl;
        refused_is = λ number e. let z : ◌≡◌ {A = ℕ} 0 1 = cc in absurd (omega arith);
        readings_are = λ other. refl;
      }
  stored_leaves s n table (Err denied) same =
      record { identity_is = refl; table_is = refl; refused_is = λ m e. ap (with_table core) (same denied refl); readings_are = λ other. refl }

  setting_leaves : (s : Setting) (value : List ℕ) → Leaves (makes_found core.table value (Some s)) (sets_setting core s value)
  unfolding sets_setting
  setting_leaves s value = by (eqb (length value) s.width) refl
    where
      by : (b : Bool) → eqb (length value) s.width ≡ b → Leaves (makes_found core.table value (Some s)) (sets_setting core s value)
      by true e = rw e (stored_leaves s _ _ _ (refused_keeps_it core.table s.index (from_little value)))
      by false e = rw e spared

  set_other_spares : (id : ℕ) (o : Option (List ℕ)) → Spares (sets_other core id o)
  set_other_spares id none = spared
  set_other_spares id (some v) = spared

  set_found_leaves : (id : ℕ) (value : List ℕ) (f : Found) → Leaves (makes_found core.table value f) (sets_found core id value f)
  set_found_leaves id value (Some s) = setting_leaves s value
  set_found_leaves id value None = set_other_spares id (read_only core.identity core.readings id)

  sets_leave : (bytes : List ℕ) → Leaves (makes core.table set_code bytes) (set_answer core bytes)
  unfolding set_answer makes
  sets_leave bytes = by (ltb (length bytes) 3) (eqb (get_or bytes 2 0) 0) refl refl
    where
      by : (short plain : Bool) → ltb (length bytes) 3 ≡ short → eqb (get_or bytes 2 0) 0 ≡ plain → Leaves (makes core.table set_code bytes) (set_answer core bytes)
      by true plain p q = rw (p, lt-leb 3 (length bytes) (ltb-true _ _ p)) spared
      by false true p q = rw (p, q, le-leb 3 (length bytes) (ltb-false _ _ p)) (set_found_leaves (from_little (take 2 bytes)) (drop 3 bytes) (finding (from_little (take 2 bytes))))
      by false false p q = rw (p, q, le-leb 3 (length bytes) (ltb-false _ _ p)) spared

  -- any frame
  answer_leaves : (command : ℕ) (bytes : List ℕ) → Leaves (makes core.table command bytes) (frame_answer core command bytes)
  unfolding frame_answer makes
  answer_leaves command bytes = by (eqb command set_code) refl
    where
      by : (b : Bool) → eqb command set_code ≡ b → Leaves (makes core.table command bytes) (frame_answer core command bytes)
      by true e = let is : command ≡ set_code = eqb-true command set_code e in rw is (sets_leave bytes)
      by false e = rw e (rw e at (others_spare command bytes e))

pub answer_makes : AnswerMakes
answer_makes core command bytes = (answer_leaves core command bytes).table_is

pub identity_stays : IdentityStays
identity_stays core command bytes = (answer_leaves core command bytes).identity_is

pub readings_stay : ReadingsStay
readings_stay core command bytes = (answer_leaves core command bytes).readings_are

pub refused_stays : RefusedStays
refused_stays core command bytes = (answer_leaves core command bytes).refused_is

module _ (table : Table) (long : length table.numbers ≡ count) where
  found_allowed : allowed table ≡ true → (value : List ℕ) (f : Found) → allowed (makes_found table value f) ≡ true
  found_allowed ok value (Some s) =
      pick (λ (t : Table). allowed t ≡ true) (eqb (length value) s.width) (set_keeps_allowed table s.index (from_little value) long ok) ok
  found_allowed ok value None = ok

  found_count : (value : List ℕ) (f : Found) → length (makes_found table value f).numbers ≡ count
  found_count value (Some s) =
      pick (λ (t : Table). length t.numbers ≡ count) (eqb (length value) s.width) (set_keeps_count table s.index (from_little value) ∙ long) long
  found_count value None = long

-- what a frame makes of an allowed table is allowed, and as many
pub makes_allowed : MakesKeepsAllowed
unfolding makes
makes_allowed table command bytes long =
    let valid : Bool = eqb command set_code && (leb 3 (length bytes) && eqb (get_or bytes 2 0) 0) in
    let found : Found = finding (from_little (take 2 bytes)) in (
      λ ok. pick (λ (t : Table). allowed t ≡ true) valid (found_allowed table long ok (drop 3 bytes) found) ok,
      pick (λ (t : Table). length t.numbers ≡ count) valid (found_count table long (drop 3 bytes) found) long,
    )
