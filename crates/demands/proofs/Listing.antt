-- The list's frames at a board: each is answered as a Set accepted. Assumes nothing.
use mathlib.Core.Path.{◌≡◌, refl, ap, ◌∙◌}
use mathlib.Core.Bool.{Bool, true, false, not, ◌&&◌, false≢true}
use mathlib.Core.List.{List, [], ◌∷◌, ◌++◌, map}
use Prim.Native.Nat.{ℕ, zero, suc, ◌≤◌, ◌<◌}
use native.Mathlib.Omega.{arith}
use borrow.Author.Tests.{leb-true, ltb-true}
use lib.ListN.{length, take, drop}
use lib.Dec.{ltb, eqb}
use Rattle.std.proofs.Common.{Ok}
use Rattle.laws.specs.Lists.{every}
use Rattle.laws.proofs.Bools.{and_left, and_right, both}
use Rattle.endian.specs.Numbers.{little}
use Rattle.wire.specs.Parsing.{Ended, good}
use Rattle.stream.specs.Stream.{outside, frames_of, left_by}
use Rattle.wire.specs.Laws.{Writable}
use Rattle.stream.proofs.Theorems.{written_is_heard}
use Rattle.settings.specs.Columns.{count, id_at, width_at}
use Rattle.settings.specs.Rules.{allowed_for}
use Rattle.tables.specs.Rules.{allowed, number_at, partner_number}
use Rattle.tables.specs.Calls.{set_to}
use Rattle.tables.specs.declared.Table.{Table}
use Rattle.settings.proofs.Theorems.{rows_hold}
use Rattle.tables.proofs.Theorems.{set_keeps_allowed, set_keeps_count}
use Rattle.tables.proofs.Tables.{set_accepted, set_refused}
use Rattle.paper.specs.Numbers.{set_code}
use Rattle.answers.specs.Answers.{with_table, sent, Decision, staying}
use Rattle.requests.specs.Requests.{set_data, set_request}
use Rattle.answers.specs.declared.Core.{Core}
use Rattle.answers.specs.declared.Outcome.{Outcome}
use Rattle.answers.proofs.Theorems.{set_stores_it}
use Rattle.endian.proofs.Little.{length_little, bytes_little}
use Rattle.answers.proofs.Fitting.{writable_said}
use Rattle.board.specs.Calls.{reply_bytes, deciding}
use Rattle.restore.specs.Order.{wanted, order, due_sets}
use Rattle.restore.specs.Calls.{both_allowed, frames_for, list_room, listed_as, listing, due_after, due_in}
use Rattle.restore.specs.Laws.{Tables, is_accepted, accepted, left}
use Rattle.requests.specs.declared.Wanted.{Wanted}
use Rattle.restore.proofs.Rows.{list_made}
use Rattle.restore.proofs.Theorems as restore
use Rattle.restore.proofs.Theorems.{no_other_set, sets_are_in_order, sets_are_differing}
use Rattle.demands.specs.Talk.{Said, of_frame, after_all, said_to_all}
use Rattle.demands.specs.Demand3 as demand
use Rattle.demands.specs.Demand3.{set_of, sets_of, named, OneSetForEach, DueIsNext}
use Rattle.demands.proofs.Deciding.{Sound}

-- a Set's data are within what the writer takes
pub set_writable : (k n : ℕ) → k < count → Writable set_code (set_data k n)
set_writable k n h =
    let few : width_at k ≤ 2 = (rows_hold k h).width_most in
    writable_said set_code (id_at k) 0 (little (width_at k) n) (leb-true 8 15 refl) (leb-true 1 256 refl) (rw (length_little (width_at k) n) (omega arith)) (bytes_little (width_at k) n)

-- a row of Sets of settings
pub data InTable : List Wanted → Type 0 where
  no_set : InTable []
  a_set : {w : Wanted} {more : List Wanted} → w.setting.index < count → InTable more → InTable (w ∷ more)

abbrev pub frame_for : Wanted → Ended
frame_for w = good set_code (set_data w.setting.index w.number)

-- their frames, end to end, are read as those frames and no other
pub record Framed (ws : List Wanted) : Type 0 where
  pub frames_are : frames_of (frames_for ws) ≡ map frame_for ws
  pub none_left : left_by (frames_for ws) ≡ outside

pub listed : {ws : List Wanted} → InTable ws → Framed ws
listed no_set = record { frames_are = refl; none_left = refl }
listed (a_set {w} {more} h later) =
    let k : ℕ = w.setting.index in
    let ok : Writable set_code (set_data k w.number) = set_writable k w.number h in
    let one = written_is_heard set_code (set_data k w.number) ok.nibble ok.few ok.small (frames_for more) in
    let rest : Framed more = listed later in
    record {
      frames_are = one.0 ∙ ap (λ (l : List Ended). frame_for w ∷ l) rest.frames_are;
      none_left = one.1 ∙ rest.none_left;
    }

-- the Sets of a list are of settings
order_in : (to : Table) (ks : List ℕ) (p : ℕ → Bool) → every (λ k. ltb k count && p k) ks ≡ true → InTable (map (wanted to) ks)
order_in to [] p e = no_set
order_in to (k ∷ ks) p e =
    let here = and_left (ltb k count && p k) (every (λ j. ltb j count && p j) ks) e in
    a_set (ltb-true k count (and_left (ltb k count) (p k) here)) (order_in to ks p (and_right (ltb k count && p k) _ e))

pub due_in_lem : (from to : Table) → InTable (due_sets from to)
due_in_lem from to = order_in to (order from to) (λ k. not (eqb (number_at from k) (number_at to k))) (no_other_set from to)

-- one Set that the settings rule accepts, at a board
pub accepted_allowed : (table : Table) (k n : ℕ) → allowed table ≡ true → k < count → is_accepted (set_to table k n).answer ≡ true → allowed_for k n (partner_number table k) ≡ true
accepted_allowed table k n ok h e = by (allowed_for k n (partner_number table k)) refl
  where
    by : (b : Bool) → allowed_for k n (partner_number table k) ≡ b → b ≡ true
    by true f = refl
    by false f = absurd (false≢true (rw (set_refused table k n ok h f) at e))

pub set_decided : (core : Core) (w : Wanted) → Sound core.table → w.setting.index < count
    → is_accepted (set_to core.table w.setting.index w.number).answer ≡ true
    → deciding core (frame_for w ∷ [])
    ≡ staying (with_table core (set_to core.table w.setting.index w.number).table) Outcome.Answered (sent set_code (set_data w.setting.index w.number))
unfolding deciding
set_decided core w s h e =
    let k : ℕ = w.setting.index in
    let fits : allowed_for k w.number (partner_number core.table k) ≡ true = accepted_allowed core.table k w.number s.ok h e in
    set_stores_it core k w.number s.ok h fits ∙ rw (set_accepted core.table k w.number s.ok h fits)

pub set_sound : (table : Table) (w : Wanted) → Sound table → Sound (set_to table w.setting.index w.number).table
set_sound table w s =
    let k : ℕ = w.setting.index in
    record { long = set_keeps_count table k w.number ∙ s.long; ok = set_keeps_allowed table k w.number s.long s.ok }

-- and a row of them
pub record Accepted (core : Core) (ws : List Wanted) : Type 0 where
  pub all_said : said_to_all core (map frame_for ws) ≡ map demand.accepted (map frame_for ws)
  pub all_after : after_all core (map frame_for ws) ≡ with_table core (left core.table ws)

pub accepts_all : {ws : List Wanted} (core : Core) → Sound core.table → InTable ws → accepted core.table ws ≡ true → Accepted core ws
accepts_all core s no_set e = record { all_said = refl; all_after = refl }
accepts_all core s (a_set {w} {more} h later) e =
    let change = set_to core.table w.setting.index w.number in
    let one = set_decided core w s h (and_left (is_accepted change.answer) _ e) in
    let rest : Accepted (with_table core change.table) more =
    accepts_all (with_table core change.table) (set_sound core.table w s) later (and_right (is_accepted change.answer) _ e) in
    record {
      all_said =
          ap (λ (d : Decision). of_frame (record { outcome = d.outcome; reply = reply_bytes d.reply }) d.outcome ++ said_to_all d.core (map frame_for more)) one
          ∙ ap (λ (l : List Said). demand.accepted (frame_for w) ∷ l) rest.all_said;
      all_after = ap (λ (d : Decision). after_all d.core (map frame_for more)) one ∙ rest.all_after;
    }

-- The bytes that the list's call writes.
framed_sets : (to : Table) (ks : List ℕ) → map frame_for (map (wanted to) ks) ≡ map (set_of to) ks
framed_sets to [] = refl
framed_sets to (k ∷ ks) = ap (λ (l : List Ended). set_of to k ∷ l) (framed_sets to ks)

written_sets : (to : Table) (ks : List ℕ) → frames_for (map (wanted to) ks) ≡ sets_of to ks
written_sets to [] = refl
written_sets to (k ∷ ks) = ap (λ (l : List ℕ). set_request k (number_at to k) ++ l) (written_sets to ks)

pub both_allowed_lem : (from to : Table) → Tables from to → both_allowed from to ≡ true
both_allowed_lem from to two = both _ _ two.from_allowed two.to_allowed

pub made_list : (from to : Table) → Tables from to → (room : ℕ) → list_room ≤ room → listing from to room ≡ listed_as (due_sets from to)
made_list from to two room enough = list_made from to room enough (both_allowed_lem from to two)

pub one_for_each : OneSetForEach
one_for_each from to two room enough =
    let list = listed (due_in_lem from to) in
    rw (made_list from to two room enough)
    (record {
      settings = order from to;
      bytes_are = written_sets to (order from to);
      frames_are = list.frames_are ∙ framed_sets to (order from to);
      each_once = restore.one_for_each from to;
      no_other = no_other_set from to;
      in_order = sets_are_in_order from to;
      counts_are = ap (λ (n : ℕ). Ok (record { len = length (frames_for (due_sets from to)); sets = n })) (sets_are_differing from to);
    })

-- and the Sets named one by one
named_next : (ws : List Wanted) (done : ℕ) → named (due_after ws done) ≡ take 1 (drop done (map frame_for ws))
named_next [] zero = refl
named_next [] (suc done) = refl
named_next (w ∷ more) zero = refl
named_next (w ∷ more) (suc done) = named_next more done

pub due_next : DueIsNext
unfolding due_in
due_next from to two room enough done =
    rw (made_list from to two room enough, both_allowed_lem from to two, (listed (due_in_lem from to)).frames_are) (named_next (due_sets from to) done)
