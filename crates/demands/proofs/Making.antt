-- What one frame makes of a table: what the board's own definition makes of it. Assumes nothing.
use mathlib.Core.Path.{◌≡◌, refl, sym, ◌∙◌}
use mathlib.Core.Bool.{Bool, true, false, cond, ◌&&◌}
use mathlib.Core.List.{List, [], ◌∷◌, ◌++◌}
use Prim.Native.Nat.{ℕ, suc, ◌≤◌, ◌<◌, min}
use native.Mathlib.Omega.{arith}
use borrow.Author.Tests.{ltb-true, ltb-false}
use lib.ListN.{length, take, get_or}
use lib.Seq.{take_all}
use lib.Dec.{eqb, leb, ltb}
use Rattle.std.proofs.Common.{Some, None}
use Rattle.endian.specs.Numbers.{from_little}
use Rattle.wire.specs.Parsing.{Ended, good, refused}
use Rattle.stream.specs.Stream.{Unfinished, frames_from, first_end, taken}
use Rattle.stream.proofs.Theorems.{first_end_is_first}
use Rattle.settings.specs.Columns.{count, width_at}
use Rattle.settings.specs.Rules.{allowed_for}
use Rattle.tables.specs.Rules.{allowed, partner_number, changed}
use Rattle.settings.specs.Calls.{setting_at, placing, finding}
use Rattle.tables.specs.Calls.{set_to}
use Rattle.tables.specs.declared.Table.{Table}
use Rattle.tables.proofs.Tables.{set_accepted, set_refused}
use Rattle.answers.specs.Answers as answers
use Rattle.answers.proofs.Theorems.{answer_makes_it}
use Rattle.answers.specs.declared.Core.{Core}
use Rattle.board.specs.Calls.{deciding}
use Rattle.demands.specs.Sets.{place_in, value_in, is_complete, any_setting, is_valid, makes, made}

module _ (table : Table) (ok : allowed table ≡ true) (command : ℕ) (bytes : List ℕ) where
  abbrev k : ℕ
  k = place_in bytes

  abbrev n : ℕ
  n = from_little (value_in bytes)

  set_valid : k < count → (set_to table k n).table ≡ cond (is_valid any_setting table k n) (changed table k n) table
  unfolding is_valid allowed_for
  set_valid h = by (allowed_for k n (partner_number table k)) refl
    where
      by : (b : Bool) → allowed_for k n (partner_number table k) ≡ b → (set_to table k n).table ≡ cond b (changed table k n) table
      by true e = rw (set_accepted table k n ok h e)
      by false e = rw (set_refused table k n ok h e)

  abbrev front : Bool
  front = eqb command 8 && (leb 3 (length bytes) && eqb (get_or bytes 2 0) 0)

  pub makes_same : answers.makes table command bytes ≡ makes any_setting table command bytes
  unfolding answers.makes makes is_complete finding placing
  makes_same = by front (ltb k count) (eqb (length (value_in bytes)) (width_at k)) refl refl refl
    where
      by : (a b c : Bool) → front ≡ a → ltb k count ≡ b → eqb (length (value_in bytes)) (width_at k) ≡ c
          → cond front (answers.makes_found table (value_in bytes) (cond (ltb k count) (Some (setting_at k)) None)) table
          ≡ cond ((front && (ltb k count && eqb (length (value_in bytes)) (width_at k))) && is_valid any_setting table k n) (changed table k n) table
      by false b c p q r = rw p
      by true false c p q r = rw (p, q)
      by true true false p q r = rw (p, q, r)
      by true true true p q r = rw (p, q, r) (set_valid (ltb-true _ _ q))

-- frames in two rows
pub made_append : (may : ℕ → Bool) (table : Table) (fs gs : List Ended) → made may table (fs ++ gs) ≡ made may (made may table fs) gs
unfolding made
made_append may table [] gs = refl
made_append may table (good command bytes ∷ fs) gs = made_append may (makes may table command bytes) fs gs
made_append may table (refused number ∷ fs) gs = made_append may table fs gs

-- a call ends one frame at most
pub data AtMostOne : List Ended → Type 0 where
  none_ended : AtMostOne []
  one_ended : (f : Ended) → AtMostOne (f ∷ [])

pub one_at_most : (u : Unfinished) (piece : List ℕ) → AtMostOne (frames_from u (take (taken u piece) piece))
unfolding taken
one_at_most u piece = by (ltb (first_end u piece) (length piece)) refl
  where
    by : (b : Bool) → ltb (first_end u piece) (length piece) ≡ b → AtMostOne (frames_from u (take (min (suc (first_end u piece)) (length piece)) piece))
    by true e =
        let inside : first_end u piece < length piece = ltb-true _ _ e in
        let count : min (suc (first_end u piece)) (length piece) ≡ suc (first_end u piece) = omega arith in
        let one = (first_end_is_first u piece).one_there inside in
        rw (count, one.1) (one_ended one.0)
    by false e =
        let past : length piece ≤ first_end u piece = ltb-false _ _ e in
        let count : min (suc (first_end u piece)) (length piece) ≡ length piece = omega arith in
        let all : take (length piece) piece ≡ take (first_end u piece) piece = take_all (length piece) piece (omega arith) ∙ sym (take_all (first_end u piece) piece past) in
        rw (count, all, (first_end_is_first u piece).none_before) none_ended

-- what is decided of a frame is what that frame makes of the table
pub decided_table : (core : Core) → allowed core.table ≡ true → (f : Ended) → (deciding core (f ∷ [])).core.table ≡ made any_setting core.table (f ∷ [])
unfolding deciding made
decided_table core ok (good command bytes) = answer_makes_it core command bytes ∙ makes_same core.table ok command bytes
decided_table core ok (refused number) = refl
