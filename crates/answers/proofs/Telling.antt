-- The outcome, the reply and the board afterwards belong together. Assumes nothing.
use mathlib.Core.Path.{◌≡◌, refl, ◌∙◌}
use mathlib.Core.Bool.{Bool, true, false, cond}
use mathlib.Core.List.{List, [], ◌∷◌}
use mathlib.Core.Option.{Option, none, some}
use Prim.Native.Nat.{ℕ, ◌^◌, ◌<◌, ◌≤◌}
use native.Mathlib.Omega.{arith}
use borrow.Author.Tests.{eqb-true, ltb-true}
use lib.Dec.{eqb, ltb}
use lib.ListN.{length, get_or}
use Rattle.std.proofs.Common.{Some, None}
use Rattle.laws.specs.Lists.{every, Bytes}
use Rattle.laws.proofs.Bools.{and_left, and_right, pick}
use Rattle.laws.proofs.Lists.{every_drop}
use Rattle.settings.specs.Columns.{count, id_at, width_at, place_of}
use Rattle.settings.specs.Rules.{allowed_for}
use Rattle.settings.specs.Calls.{setting_at, finding}
use Rattle.settings.proofs.Theorems.{rows_hold, found_has_id}
use Rattle.tables.specs.Rules.{partner_number}
use Rattle.tables.specs.Calls.{set_to}
use Rattle.tables.proofs.Tables.{set_accepted}
use Rattle.tables.proofs.Theorems.{refused_names_nearest}
use Rattle.endian.specs.Numbers.{little, from_little}
use Rattle.who.specs.Values.{read_only}
use Rattle.who.proofs.Theorems.{read_out_is_held}
use Rattle.answers.specs.Answers as answers
use Rattle.answers.specs.Answers.{core_allowed, sent, Decision, frame_answer}
use Rattle.answers.specs.Refusals.{id_in, value_in, is_setting, Told, a_ping, a_version, a_product, a_restart, an_async, a_get, a_get_read_only, a_set, row_5, row_6, row_7, row_8, row_9, row_10, row_12}
use Rattle.answers.specs.Calls.{answering}
use Rattle.answers.specs.Laws.{OutcomeAndReply}
use Rattle.answers.specs.declared.Core.{Core}
use Rattle.answers.specs.declared.Outcome.{Outcome}
use Rattle.answers.proofs.Deciding.{identity_allowed_lem, table_allowed}
use Rattle.answers.proofs.Refusing.{pick_when, found_is, setting_within}

-- the number of two bytes, or fewer
pub from_small : (l : List ℕ) → every (λ b. ltb b 256) l ≡ true → length l ≤ 2 → from_little l < 2 ^ 16
from_small [] e h = ltb-true 0 65536 refl
from_small (a ∷ []) e h = let low : a < 256 = ltb-true _ _ (and_left (ltb a 256) _ e) in omega arith
from_small (a ∷ b ∷ []) e h =
    let low : a < 256 = ltb-true _ _ (and_left (ltb a 256) _ e) in
    let high : b < 256 = ltb-true _ _ (and_left (ltb b 256) _ (and_right (ltb a 256) _ e)) in
    omega arith
from_small (a ∷ b ∷ c ∷ l) e h = absurd (omega arith)

setting_id : (id : ℕ) → is_setting id ≡ true → id_at (place_of id) ≡ id
setting_id id e = (found_has_id id (setting_at (place_of id)) (found_is id ∙ rw e)).2

module _ (core : Core) (ok : core_allowed core ≡ true) (bytes : List ℕ) (small : Bytes bytes) where
  abbrev Tells : ℕ → Decision → Type 0
  Tells command d = Told core command bytes d.outcome d.reply d.core

  plain : (command response number : ℕ) → Told core command bytes Outcome.Answered (sent response (little 2 number)) core
      → Tells command (answers.tells core response number bytes)
  unfolding answers.tells
  plain command response number told = pick (Tells command) (eqb (length bytes) 0) told row_6

  restart_told : Tells 6 (answers.restarts core bytes)
  unfolding answers.restarts
  restart_told = pick (Tells 6) (eqb (length bytes) 0) (a_restart refl) row_6

  get_other : (o : Option (List ℕ)) → read_only core.identity core.readings (id_in bytes) ≡ o → Tells 7 (answers.gets_other core (id_in bytes) o)
  get_other (some v) e = a_get_read_only refl v (read_out_is_held core.identity core.readings (id_in bytes) v (identity_allowed_lem core ok) e)
  get_other none e = row_7 refl

  get_found : Tells 7 (answers.gets_found core (id_in bytes) (finding (id_in bytes)))
  get_found = rw (found_is (id_in bytes)) (by (is_setting (id_in bytes)) refl)
    where
      by : (b : Bool) → is_setting (id_in bytes) ≡ b → Tells 7 (answers.gets_found core (id_in bytes) (cond b (Some (setting_at (place_of (id_in bytes)))) None))
      by true e = a_get refl (place_of (id_in bytes)) (setting_within (id_in bytes) e) (setting_id (id_in bytes) e)
      by false e = get_other _ refl

  get_told : Tells 7 (answers.get_answer core bytes)
  unfolding answers.get_answer
  get_told = pick (Tells 7) (eqb (length bytes) 3) (pick (Tells 7) (eqb (get_or bytes 2 0) 0) get_found row_6) row_6

  set_other : (o : Option (List ℕ)) → Tells 8 (answers.sets_other core (id_in bytes) o)
  set_other (some v) = row_8
  set_other none = row_7 refl

  module _ (k : ℕ) (h : k < count) (is : id_at k ≡ id_in bytes) where
    set_number : from_little (value_in bytes) < 2 ^ 16 → let change = set_to core.table k (from_little (value_in bytes)) in
        Tells 8 (answers.stored (answers.with_table core change.table) (setting_at k) (from_little (value_in bytes)) change.answer)
    set_number few = by (allowed_for k (from_little (value_in bytes)) (partner_number core.table k)) refl
      where
        by : (b : Bool) → allowed_for k (from_little (value_in bytes)) (partner_number core.table k) ≡ b
            → let change = set_to core.table k (from_little (value_in bytes)) in
            Tells 8 (answers.stored (answers.with_table core change.table) (setting_at k) (from_little (value_in bytes)) change.answer)
        by true e = rw (set_accepted core.table k (from_little (value_in bytes)) (table_allowed core ok) h e) (a_set refl k _ h is refl)
        by false e =
            let refused = refused_names_nearest core.table k (from_little (value_in bytes)) (table_allowed core ok) h few e in
            rw refused.1 (row_10 k refused.0 h is refused.2)

    set_setting : Tells 8 (answers.sets_setting core (setting_at k) (value_in bytes))
    unfolding answers.sets_setting
    set_setting =
        pick_when (Tells 8) (eqb (length (value_in bytes)) (width_at k))
        (λ e.
        let wide : length (value_in bytes) ≡ width_at k = eqb-true _ _ e in
        let narrow : width_at k ≤ 2 = (rows_hold k h).width_most in
        set_number (from_small (value_in bytes) (every_drop (λ b. ltb b 256) 3 bytes small.below) (rw wide narrow)))
        (λ e. row_9 k h is)

  set_found : Tells 8 (answers.sets_found core (id_in bytes) (value_in bytes) (finding (id_in bytes)))
  set_found = rw (found_is (id_in bytes)) (by (is_setting (id_in bytes)) refl)
    where
      by : (b : Bool) → is_setting (id_in bytes) ≡ b
          → Tells 8 (answers.sets_found core (id_in bytes) (value_in bytes) (cond b (Some (setting_at (place_of (id_in bytes)))) None))
      by true e = set_setting (place_of (id_in bytes)) (setting_within (id_in bytes) e) (setting_id (id_in bytes) e)
      by false e = set_other (read_only core.identity core.readings (id_in bytes))

  set_told : Tells 8 (answers.set_answer core bytes)
  unfolding answers.set_answer
  set_told = pick (Tells 8) (ltb (length bytes) 3) row_6 (pick (Tells 8) (eqb (get_or bytes 2 0) 0) set_found row_6)

  pub frame_told : (command : ℕ) → Tells command (frame_answer core command bytes)
  unfolding frame_answer
  frame_told command =
      pick_when (Tells command) (eqb command 1) (λ e. plain command 5 core.identity.version (a_ping (eqb-true command 1 e))) (λ a.
      pick_when (Tells command) (eqb command 3) (λ e. plain command 1 core.identity.version (a_version (eqb-true command 3 e))) (λ b.
      pick_when (Tells command) (eqb command 4) (λ e. plain command 1 core.identity.product (a_product (eqb-true command 4 e))) (λ c.
      pick_when (Tells command) (eqb command 6) (λ e. rw (eqb-true command 6 e) restart_told) (λ d.
      pick_when (Tells command) (eqb command 7) (λ e. rw (eqb-true command 7 e) get_told) (λ f.
      pick_when (Tells command) (eqb command 8) (λ e. rw (eqb-true command 8 e) set_told) (λ g.
      pick_when (Tells command) (eqb command 0xA) (λ e. an_async (eqb-true command 0xA e)) (λ h. row_5)))))))

pub outcome_reply : OutcomeAndReply
unfolding answering
outcome_reply core command bytes small =
    pick_when (λ (d : Decision). Told core command bytes d.outcome d.reply d.core) (core_allowed core) (λ e. frame_told core e bytes small command) (λ e. row_12)
