-- Demand 3, first half. Assumes nothing.
use mathlib.Core.Path.{◌≡◌, refl, sym, ap, ap₂, subst, ◌∙◌}
use mathlib.Core.Bool.{true, ◌&&◌}
use mathlib.Core.List.{List, [], ◌∷◌, ◌++◌}
use Prim.Native.Nat.{ℕ, ◌+◌, ◌-◌, ◌≤◌, min}
use native.Mathlib.Omega.{arith}
use lib.ListN.{length, take, drop, length-take, length-drop}
use lib.Seq.{take-take, take-add}
use Rattle.laws.specs.Promise.{Given}
use Rattle.laws.proofs.Bools.{pick}
use Rattle.wire.specs.Parsing.{Ended, good, refused}
use Rattle.stream.specs.Stream.{Unfinished, outside, frames_from, left_from, frames_of}
use Rattle.stream.specs.Calls.{held_of, unfinished}
use Rattle.stream.specs.declared.Held.{Held}
use Rattle.stream.proofs.Streams.{frames_append}
use Rattle.stream.proofs.Reached.{unfinished_kept, kept_frames}
use Rattle.settings.specs.Columns.{count}
use Rattle.tables.specs.Rules.{allowed}
use Rattle.tables.specs.declared.Table.{Table}
use Rattle.tables.proofs.Tables.{range_at, agrees_at}
use Rattle.answers.proofs.Theorems.{makes_keeps_allowed}
use Rattle.answers.specs.declared.Core.{Core}
use Rattle.board.specs.Parts.{sample_fits, board_allowed}
use Rattle.board.specs.Calls.{starting, storing, answering}
use Rattle.board.specs.declared.Board.{Board}
use Rattle.board.specs.declared.Sample.{Sample}
use Rattle.board.specs.declared.Handed.{Handed}
use Rattle.board.specs.declared.Answered.{Answered}
use Rattle.board.proofs.Theorems.{start_holds_it}
use Rattle.demands.specs.Sets.{any_setting, makes, made}
use Rattle.demands.specs.Talk.{Deed, stores, calls, Talk, talk, after_one, after_all, board_at}
use Rattle.demands.specs.Demand3.{BoardDecides}
use Rattle.demands.proofs.Making.{makes_same, made_append, decided_table}
use Rattle.demands.proofs.Talking.{call_reads}

-- a table that is allowed, with all its numbers
pub record Sound (table : Table) : Type 0 where
  pub long : length table.numbers ≡ count
  pub ok : allowed table ≡ true

abbrev Made : Table → List Ended → Table
Made = made any_setting

makes_sound : (table : Table) (command : ℕ) (bytes : List ℕ) → Sound table → Sound (makes any_setting table command bytes)
makes_sound table command bytes s =
    let same = makes_same table s.ok command bytes in
    let kept = makes_keeps_allowed table command bytes s.long in
    record { long = ap (λ (t : Table). length t.numbers) (sym same) ∙ kept.1; ok = ap allowed (sym same) ∙ kept.0 s.ok }

pub made_sound : (fs : List Ended) (table : Table) → Sound table → Sound (made any_setting table fs)
unfolding made
made_sound [] table s = s
made_sound (good command bytes ∷ fs) table s = made_sound fs (makes any_setting table command bytes) (makes_sound table command bytes s)
made_sound (refused number ∷ fs) table s = made_sound fs table s

pub after_table : (fs : List Ended) (core : Core) → Sound core.table → (after_all core fs).table ≡ made any_setting core.table fs
after_table [] core s = unfold made in refl
after_table (f ∷ fs) core s =
    let one : (after_one core f).table ≡ Made core.table (f ∷ []) = decided_table core s.ok f in
    let sound : Sound (after_one core f).table = rw one (made_sound (f ∷ []) core.table s) in
    after_table fs (after_one core f) sound ∙ ap (λ (t : Table). Made t fs) one ∙ sym (made_append any_setting core.table (f ∷ []) fs)

-- a store keeps table and line
pub record Keeps (board after : Board) : Type 0 where
  pub table_same : after.core.table ≡ board.core.table
  pub held_same : after.held ≡ board.held

pub stores_keeps : (board : Board) (given : Sample) → Keeps board (storing board given).board
unfolding storing
stores_keeps board given =
    pick (λ (j : Handed). Keeps board j.board) (board_allowed board && sample_fits given)
    (record { table_same = refl; held_same = refl }) (record { table_same = refl; held_same = refl })

-- a board whose line is where it is said to be
same_line : (board : Board) (u : Unfinished) → board.held ≡ held_of u → board ≡ board_at board.core u
same_line board u h = ap {B = Board} (λ (held : Held). record { core = board.core; held = held }) h

-- the frames of what was taken, and then of what is taken of the rest
frames_two : (r : Unfinished) (bytes : List ℕ) (t u : ℕ) → frames_from r (take (t + u) bytes) ≡ frames_from r (take t bytes) ++ frames_from (left_from r (take t bytes)) (take u (drop t bytes))
frames_two r bytes t u = ap (frames_from r) (take-add t u bytes) ∙ frames_append r (take t bytes) (take u (drop t bytes))

-- one call on the first of the bytes: what it took, and the board afterwards
pub record Took (core : Core) (r : Unfinished) (bytes : List ℕ) (given : Given Answered) : Type 0 where
  pub few : given.answer.taken ≤ length bytes
  pub board_is : given.answer.board ≡ board_at (after_all core (frames_from r (take given.answer.taken bytes))) (left_from r (take given.answer.taken bytes))

pub took : (core : Core) (r : Unfinished) (bytes : List ℕ) (n room : ℕ) → Took core r bytes (answering (board_at core r) (take n bytes) room)
took core r bytes n room =
    let reads = call_reads (record { core = core; reading = r }) room (take n bytes) in
    let t : ℕ = (answering (board_at core r) (take n bytes) room).answer.taken in
    let less : t ≤ min n (length bytes) = rw length-take at reads.within in
    let front : take t (take n bytes) ≡ take t bytes = take-take t n bytes (omega arith) in
    record { few = omega arith; board_is = rw front at reads.state_is }

-- the frames of a conversation are those of the bytes taken
pub talk_frames : (deeds : List Deed) (core : Core) (r : Unfinished) (bytes : List ℕ)
    → (talk (board_at core r) bytes deeds).frames ≡ frames_from r (take (talk (board_at core r) bytes deeds).taken bytes)
talk_frames [] core r bytes = refl
talk_frames (stores given ∷ more) core r bytes =
    let after : Board = (storing (board_at core r) given).board in
    subst (λ (b : Board). (talk b bytes more).frames ≡ frames_from r (take (talk b bytes more).taken bytes))
    (sym (same_line after r (stores_keeps (board_at core r) given).held_same)) (talk_frames more after.core r bytes)
talk_frames (calls n room ∷ more) core r bytes =
    let one = took core r bytes n room in
    let t : ℕ = (answering (board_at core r) (take n bytes) room).answer.taken in
    let here : frames_from (unfinished (held_of r)) (take t bytes) ≡ frames_from r (take t bytes) =
    ap (λ (u : Unfinished). frames_from u (take t bytes)) (unfinished_kept r) ∙ kept_frames r (take t bytes) in
    let later = talk_frames more (after_all core (frames_from r (take t bytes))) (left_from r (take t bytes)) (drop t bytes) in
    subst (λ (b : Board). frames_from (unfinished (held_of r)) (take t bytes) ++ (talk b (drop t bytes) more).frames ≡ frames_from r (take (t + (talk b (drop t bytes) more).taken) bytes))
    (sym one.board_is) (ap₂ (λ (fs gs : List Ended). fs ++ gs) here later ∙ sym (frames_two r bytes t _))

record Going (r : Unfinished) (table : Table) (bytes : List ℕ) (end : Talk) : Type 0 where
  within : end.taken ≤ length bytes
  table_is : end.board.core.table ≡ Made table (frames_from r (take end.taken bytes))

-- what was taken, and then what is taken of the rest
joined : (r : Unfinished) (table mid final : Table) (bytes : List ℕ) (t u : ℕ) → t ≤ length bytes → mid ≡ Made table (frames_from r (take t bytes))
    → u ≤ length (drop t bytes) → final ≡ Made mid (frames_from (left_from r (take t bytes)) (take u (drop t bytes)))
    → (t + u ≤ length bytes) × (final ≡ Made table (frames_from r (take (t + u) bytes)))
joined r table mid final bytes t u few is more last =
    let rest : u ≤ length bytes - t = rw length-drop at more in
    let later : List Ended = frames_from (left_from r (take t bytes)) (take u (drop t bytes)) in (
      omega arith,
      last ∙ ap (λ (m : Table). Made m later) is ∙ sym (made_append any_setting table (frames_from r (take t bytes)) later)
          ∙ ap (Made table) (sym (frames_two r bytes t u)),
    )

going : (deeds : List Deed) (core : Core) (r : Unfinished) (bytes : List ℕ) → Sound core.table → Going r core.table bytes (talk (board_at core r) bytes deeds)
going [] core r bytes s = record { within = omega arith; table_is = unfold made in refl }
going (stores given ∷ more) core r bytes s =
    let kept = stores_keeps (board_at core r) given in
    let after : Board = (storing (board_at core r) given).board in
    rw (same_line after r kept.held_same) (rw kept.table_same at (going more after.core r bytes (rw kept.table_same s)))
going (calls n room ∷ more) core r bytes s =
    let one = took core r bytes n room in
    let t : ℕ = (answering (board_at core r) (take n bytes) room).answer.taken in
    let fs : List Ended = frames_from r (take t bytes) in
    let table : (after_all core fs).table ≡ Made core.table fs = after_table fs core s in
    let later = going more (after_all core fs) (left_from r (take t bytes)) (drop t bytes) (rw table (made_sound fs core.table s)) in
    let all = joined r core.table _ _ bytes t _ one.few table later.within later.table_is in
    rw one.board_is (record { within = all.0; table_is = all.1 })

pub board_decides : BoardDecides
board_decides product version serial table fits long ok bytes deeds =
    let first : Board = (starting product version serial table).board in
    let began = start_holds_it product version serial table fits ok in
    let s : Sound table = record { long = long; ok = ok } in
    let end : Talk = talk first bytes deeds in
    let went = going deeds first.core outside bytes (rw began.table_is s) in
    let goes : Going outside table bytes end = rw (began.table_is, ← same_line first outside began.held_is) at went in
    let frames : end.frames ≡ frames_of (take end.taken bytes) = rw (← same_line first outside began.held_is) at (talk_frames deeds first.core outside bytes) in
    let sound : Sound end.board.core.table = rw goes.table_is (made_sound (frames_of (take end.taken bytes)) table s) in
    record {
      within = goes.within;
      frames_are = frames;
      in_range_lem = λ k h. range_at end.board.core.table sound.ok k h;
      pairs_agree = λ k h. agrees_at end.board.core.table sound.ok k h;
      table_is = goes.table_is ∙ ap (Made table) (sym frames);
    }
