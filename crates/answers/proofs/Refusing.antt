-- Refusals 5 to 10 by their rows. Assumes nothing.
use mathlib.Core.Path.{◌≡◌, refl, sym, ap, ◌∙◌}
use mathlib.Core.Logic.{◌≢◌, ◌↔◌}
use mathlib.Core.Bool.{Bool, true, false, not, cond, ◌&&◌, ◌||◌, false≢true}
use mathlib.Core.List.{List, [], ◌∷◌}
use mathlib.Core.Option.{Option, none, some}
use Prim.Native.Nat.{ℕ, zero, suc, ◌^◌, ◌<◌}
use native.Mathlib.Omega.{arith}
use borrow.Author.Tests.{eqb-true, eq-eqb, ltb-true, lt-ltb, le-leb, not-true}
use lib.Dec.{eqb, ltb}
use lib.ListN.{length, get_or}
use Rattle.std.proofs.Common.{Some, None}
use Rattle.laws.specs.Lists.{before, every}
use Rattle.laws.proofs.Bools.{and_left, and_right, or_second, same_test, pick}
use Rattle.laws.specs.Refusals.{first_of}
use Rattle.settings.specs.Columns.{count, ids, width_at, place_of}
use Rattle.settings.specs.Rules.{allowed_for}
use Rattle.settings.specs.Calls.{setting_at, placing, finding}
use Rattle.tables.specs.Rules.{allowed, partner_number}
use Rattle.tables.specs.Calls.{set_to}
use Rattle.tables.proofs.Tables.{set_accepted, set_refused}
use Rattle.paper.specs.Numbers.{not_allowed}
use Rattle.endian.specs.Numbers.{from_little}
use Rattle.who.specs.Parts.{identity_allowed}
use Rattle.who.specs.Values.{read_only, read_only_ids, among}
use Rattle.who.specs.Laws.{is_some}
use Rattle.who.proofs.Theorems.{eight_are_read_out}
use Rattle.answers.specs.Answers as answers
use Rattle.answers.specs.Answers.{core_allowed, silent, staying, Decision, frame_answer}
use Rattle.answers.specs.Refusals.{id_in, value_in, is_setting, is_read_only, command_unknown, is_malformed, id_unknown, sets_read_only, width_wrong, number_wrong, rows, number_of}
use Rattle.answers.specs.Calls.{answering}
use Rattle.answers.specs.Laws.{RefusalGivenWhen, AllowedIsAnswered}
use Rattle.answers.specs.declared.Core.{Core}
use Rattle.answers.specs.declared.Outcome.{Outcome}
use Rattle.answers.proofs.Deciding.{table_allowed}

-- what holds of either way of a test holds of the one that is taken
pub pick_when : {A : Type 0} (p : A → Type 0) (b : Bool) {x y : A} → (b ≡ true → p x) → (b ≡ false → p y) → p (cond b x y)
pick_when p true h k = h refl
pick_when p false h k = k refl

-- the ids of the settings: what the look-up finds, and none of them is read-only
eqb_back : (a b : ℕ) → eqb a b ≡ eqb b a
eqb_back a b = same_test (eqb a b) (eqb b a) (λ e. eq-eqb b a (sym (eqb-true a b e))) (λ e. eq-eqb a b (sym (eqb-true b a e)))

ltb_under : (a b : ℕ) → ltb (suc a) (suc b) ≡ ltb a b
ltb_under a b =
    same_test (ltb (suc a) (suc b)) (ltb a b)
    (λ e. let less : suc a < suc b = ltb-true (suc a) (suc b) e in lt-ltb a b (omega arith))
    (λ e. let less : a < b = ltb-true a b e in lt-ltb (suc a) (suc b) (omega arith))

place_among : (id : ℕ) (l : List ℕ) → ltb (before (λ x. eqb x id) l) (length l) ≡ among id l
place_among id [] = refl
place_among id (x ∷ l) = rw (eqb_back id x) (by (eqb x id) (place_among id l))
  where
    by : (b : Bool) → ltb (before (λ y. eqb y id) l) (length l) ≡ among id l
        → ltb (cond b zero (suc (before (λ y. eqb y id) l))) (suc (length l)) ≡ (b || among id l)
    by true e = lt-ltb 0 (suc (length l)) (omega arith)
    by false e = ltb_under (before (λ y. eqb y id) l) (length l) ∙ e

among_every : (p : ℕ → Bool) (id : ℕ) (l : List ℕ) → every p l ≡ true → among id l ≡ true → p id ≡ true
among_every p id [] e f = absurd (false≢true f)
among_every p id (x ∷ l) e f = by (eqb id x) refl f (λ g. among_every p id l (and_right (p x) (every p l) e) g)
  where
    by : (b : Bool) → eqb id x ≡ b → (b || among id l) ≡ true → (among id l ≡ true → p id ≡ true) → p id ≡ true
    by true is g later = rw (eqb-true id x is) (and_left (p x) (every p l) e)
    by false is g later = later g

pub found_is : (id : ℕ) → finding id ≡ cond (is_setting id) (Some (setting_at (place_of id))) None
unfolding finding placing place_of is_setting
found_is id = ap (λ (b : Bool). cond b (Some (setting_at (place_of id))) None) (place_among id ids)

pub setting_written : (id : ℕ) → is_setting id ≡ true → is_read_only id ≡ false
unfolding is_setting is_read_only
setting_written id e = not-true _ (among_every (λ x. not (among x read_only_ids)) id ids refl e)

pub read_only_other : (id : ℕ) → is_read_only id ≡ true → is_setting id ≡ false
read_only_other id e = by (is_setting id) refl
  where
    by : (b : Bool) → is_setting id ≡ b → is_setting id ≡ false
    by true p = absurd (false≢true (sym (setting_written id p) ∙ e))
    by false p = p

pub read_only_small : (id : ℕ) → is_read_only id ≡ true → id < 256 ^ 2
unfolding is_read_only
read_only_small id e = ltb-true id 65536 (among_every (λ x. ltb x 65536) id read_only_ids refl e)

pub read_only_is : (core : Core) (id : ℕ) → is_some (read_only core.identity core.readings id) ≡ is_read_only id
unfolding is_read_only
read_only_is core id = eight_are_read_out core.identity core.readings id

pub setting_within : (id : ℕ) → is_setting id ≡ true → place_of id < count
unfolding place_of is_setting
setting_within id e = ltb-true _ _ (place_among id ids ∙ e)

-- no command of the paper is any other
unknown_one : (command : ℕ) → eqb command 1 ≡ false → eqb command 3 ≡ false → eqb command 4 ≡ false → eqb command 6 ≡ false → eqb command 7 ≡ false
    → eqb command 8 ≡ false → eqb command 0xA ≡ false → command_unknown command ≡ true
unknown_one zero a b c d e f g = refl
unknown_one (suc zero) a b c d e f g = absurd (false≢true (sym a))
unknown_one (suc (suc zero)) a b c d e f g = refl
unknown_one (suc (suc (suc zero))) a b c d e f g = absurd (false≢true (sym b))
unknown_one (suc (suc (suc (suc zero)))) a b c d e f g = absurd (false≢true (sym c))
unknown_one (suc (suc (suc (suc (suc zero))))) a b c d e f g = refl
unknown_one (suc (suc (suc (suc (suc (suc zero)))))) a b c d e f g = absurd (false≢true (sym d))
unknown_one (suc (suc (suc (suc (suc (suc (suc zero))))))) a b c d e f g = absurd (false≢true (sym e))
unknown_one (suc (suc (suc (suc (suc (suc (suc (suc zero)))))))) a b c d e f g = absurd (false≢true (sym f))
unknown_one (suc (suc (suc (suc (suc (suc (suc (suc (suc zero))))))))) a b c d e f g = refl
unknown_one (suc (suc (suc (suc (suc (suc (suc (suc (suc (suc zero)))))))))) a b c d e f g = absurd (false≢true (sym g))
unknown_one (suc (suc (suc (suc (suc (suc (suc (suc (suc (suc (suc n))))))))))) a b c d e f g = or_second (among (suc (suc (suc (suc (suc (suc (suc (suc (suc (suc (suc n))))))))))) (0 ∷ 2 ∷ 5 ∷ 9 ∷ [])) _ (le-leb 0xB (suc (suc (suc (suc (suc (suc (suc (suc (suc (suc (suc n))))))))))) (omega arith))

-- command by command
module _ (core : Core) (bytes : List ℕ) where
  abbrev Judged : ℕ → Decision → Type 0
  Judged command d = number_of d.outcome ≡ first_of (rows core command bytes)

  plain : (none-there : Bool) (d : Decision) → number_of d.outcome ≡ none
      → number_of (cond none-there d (answers.malformed core)).outcome ≡ cond (not none-there || false || false || false) (some 6) none
  plain true d e = e
  plain false d e = refl

  gets_other_lem : (id : ℕ) (o : Option (List ℕ)) → number_of (answers.gets_other core id o).outcome ≡ cond (not (is_some o)) (some 7) none
  gets_other_lem id (some v) = refl
  gets_other_lem id none = refl

  gets_found_lem : (id : ℕ) → number_of (answers.gets_found core id (finding id)).outcome ≡ cond (not (is_setting id || is_read_only id)) (some 7) none
  gets_found_lem id = rw (found_is id) (by (is_setting id))
    where
      by : (b : Bool) → number_of (answers.gets_found core id (cond b (Some (setting_at (place_of id))) None)).outcome
          ≡ cond (not (b || is_read_only id)) (some 7) none
      by true = refl
      by false = rw (sym (read_only_is core id)) (gets_other_lem id (read_only core.identity core.readings id))

  get_rows : Judged 7 (answers.get_answer core bytes)
  unfolding answers.get_answer
  get_rows = by (eqb (length bytes) 3) (eqb (get_or bytes 2 0) 0)
    where
      by : (three plainly : Bool)
          → number_of (cond three (cond plainly (answers.gets_found core (id_in bytes) (finding (id_in bytes))) (answers.malformed core)) (answers.malformed core)).outcome
          ≡ cond (not three || false || not plainly) (some 6) (cond (not (is_setting (id_in bytes) || is_read_only (id_in bytes))) (some 7) none)
      by true true = gets_found_lem (id_in bytes)
      by true false = refl
      by false plainly = refl

  sets_other_lem : (id : ℕ) (o : Option (List ℕ)) → number_of (answers.sets_other core id o).outcome ≡ cond (not (is_some o)) (some 7) (cond (is_some o) (some 8) none)
  sets_other_lem id (some v) = refl
  sets_other_lem id none = refl

  -- a Set of a setting at a place of the table
  module _ (ok : allowed core.table ≡ true) where
    sets_number_lem : (k n : ℕ) → k < count
        → number_of (answers.stored (answers.with_table core (set_to core.table k n).table) (setting_at k) n (set_to core.table k n).answer).outcome
        ≡ cond (not (allowed_for k n (partner_number core.table k))) (some 10) none
    sets_number_lem k n h = by (allowed_for k n (partner_number core.table k)) refl
      where
        by : (b : Bool) → allowed_for k n (partner_number core.table k) ≡ b
            → number_of (answers.stored (answers.with_table core (set_to core.table k n).table) (setting_at k) n (set_to core.table k n).answer).outcome
            ≡ cond (not b) (some 10) none
        by true e = rw (set_accepted core.table k n ok h e)
        by false e = rw (set_refused core.table k n ok h e)

    sets_setting_lem : (k : ℕ) (value : List ℕ) → k < count
        → number_of (answers.sets_setting core (setting_at k) value).outcome
        ≡ cond (not (eqb (length value) (width_at k))) (some 9) (cond (not (allowed_for k (from_little value) (partner_number core.table k))) (some 10) none)
    unfolding answers.sets_setting
    sets_setting_lem k value h = by (eqb (length value) (width_at k))
      where
        by : (b : Bool)
            → number_of (cond b
            (answers.stored (answers.with_table core (set_to core.table k (from_little value)).table) (setting_at k) (from_little value) (set_to core.table k (from_little value)).answer)
            (answers.wrong_width core (setting_at k))).outcome
            ≡ cond (not b) (some 9) (cond (not (allowed_for k (from_little value) (partner_number core.table k))) (some 10) none)
        by true = sets_number_lem k (from_little value) h
        by false = refl

    sets_found_lem : (id : ℕ) (value : List ℕ) → let k = place_of id in
        number_of (answers.sets_found core id value (finding id)).outcome
        ≡ cond (not (is_setting id || is_read_only id)) (some 7) (cond (is_read_only id) (some 8)
        (cond (is_setting id && not (eqb (length value) (width_at k))) (some 9)
        (cond (is_setting id && not (allowed_for k (from_little value) (partner_number core.table k))) (some 10) none)))
    sets_found_lem id value = rw (found_is id) (by (is_setting id) refl)
      where
        by : (b : Bool) → is_setting id ≡ b
            → number_of (answers.sets_found core id value (cond b (Some (setting_at (place_of id))) None)).outcome
            ≡ cond (not (b || is_read_only id)) (some 7) (cond (is_read_only id) (some 8)
            (cond (b && not (eqb (length value) (width_at (place_of id)))) (some 9)
            (cond (b && not (allowed_for (place_of id) (from_little value) (partner_number core.table (place_of id)))) (some 10) none)))
        by true e = rw (setting_written id e) (sets_setting_lem (place_of id) value (setting_within id e))
        by false e = rw (sym (read_only_is core id)) (sets_other_lem id (read_only core.identity core.readings id))

    set_rows : Judged 8 (answers.set_answer core bytes)
    unfolding answers.set_answer
    set_rows = by (ltb (length bytes) 3) (eqb (get_or bytes 2 0) 0)
      where
        rest : Option ℕ
        rest = cond (not (is_setting (id_in bytes) || is_read_only (id_in bytes))) (some 7) (cond (is_read_only (id_in bytes)) (some 8)
            (cond (is_setting (id_in bytes) && not (eqb (length (value_in bytes)) (width_at (place_of (id_in bytes))))) (some 9)
            (cond (is_setting (id_in bytes) && not (allowed_for (place_of (id_in bytes)) (from_little (value_in bytes)) (partner_number core.table (place_of (id_in bytes))))) (some 10) none)))

        by : (few plainly : Bool)
            → number_of (cond few (answers.malformed core) (cond plainly (answers.sets_found core (id_in bytes) (value_in bytes) (finding (id_in bytes))) (answers.malformed core))).outcome
            ≡ cond (few || not plainly) (some 6) rest
        by true plainly = refl
        by false true = sets_found_lem (id_in bytes) (value_in bytes)
        by false false = refl

    pub frame_rows : (command : ℕ) → Judged command (frame_answer core command bytes)
    unfolding frame_answer answers.tells answers.restarts
    frame_rows command =
        let none-there : Bool = eqb (length bytes) 0 in
        let J = Judged command in
        pick_when J (eqb command 1) (λ e. rw (eqb-true command 1 e) (plain none-there _ refl)) (λ a.
        pick_when J (eqb command 3) (λ e. rw (eqb-true command 3 e) (plain none-there _ refl)) (λ b.
        pick_when J (eqb command 4) (λ e. rw (eqb-true command 4 e) (plain none-there _ refl)) (λ c.
        pick_when J (eqb command 6) (λ e. rw (eqb-true command 6 e) (plain none-there _ refl)) (λ d.
        pick_when J (eqb command 7) (λ e. rw (eqb-true command 7 e) get_rows) (λ f.
        pick_when J (eqb command 8) (λ e. rw (eqb-true command 8 e) set_rows) (λ g.
        pick_when J (eqb command 0xA) (λ e. rw (eqb-true command 0xA e)) (λ h. rw (unknown_one command a b c d f g h))))))))

pub refusal_given : RefusalGivenWhen
unfolding answering core_allowed
refusal_given core command bytes = by (identity_allowed core.identity && allowed core.table) refl
  where
    by : (b : Bool) → core_allowed core ≡ b
        → number_of (cond b (frame_answer core command bytes) (staying core (Outcome.Refused not_allowed) silent)).outcome ≡ cond (not b) (some 12) (first_of (rows core command bytes))
    by true e = frame_rows core bytes (table_allowed core e) command
    by false e = refl

-- none of 5 to 10 is 12
no_row_12 : (core : Core) (command : ℕ) (bytes : List ℕ) → first_of (rows core command bytes) ≢ some 12
no_row_12 core command bytes =
    other (command_unknown command) 5 refl (other (is_malformed command bytes) 6 refl (other (id_unknown command bytes) 7 refl
    (other (sets_read_only command bytes) 8 refl (other (width_wrong command bytes) 9 refl (other (number_wrong core command bytes) 10 refl
    (λ e. let z : ◌≡◌ {A = ℕ} 0 1 = cc in omega arith))))))
  where
    other : (b : Bool) (n : ℕ) → ltb n 12 ≡ true → {o : Option ℕ} → o ≢ some 12 → cond b (some n) o ≢ some 12
    other b n small rest =
        let below : n < 12 = ltb-true n 12 small in
        pick (λ (o : Option ℕ). o ≢ some 12) b (λ e. let is : n ≡ 12 = cc in omega arith) rest

pub allowed_answered : AllowedIsAnswered
unfolding answering
allowed_answered core command bytes = by (core_allowed core) refl
  where
    by : (b : Bool) → core_allowed core ≡ b
        → (b ≡ false) ↔ (number_of (cond b (frame_answer core command bytes) (staying core (Outcome.Refused not_allowed) silent)).outcome ≡ some 12)
    by true e = (
      λ f. absurd (false≢true (sym f)),
      λ f. absurd (no_row_12 core command bytes (sym (frame_rows core bytes (table_allowed core e) command) ∙ f)),
    )
    by false e = (λ f. refl, λ f. refl)
