-- A board is allowed exactly when a start, readings and bytes give it. Assumes nothing.
use mathlib.Core.Path.{◌≡◌, refl, ap, subst, ◌∙◌}
use mathlib.Core.Bool.{Bool, true, false, ◌&&◌}
use mathlib.Core.List.{List, []}
use Prim.Native.Nat.{ℕ}
use borrow.Author.Tests.{leb-true}
use lib.ListN.{length}
use lib.Seq.{take-length}
use lib.IntN.{pos}
use Rattle.laws.specs.Promise.{Given}
use Rattle.laws.proofs.Bools.{both}
use Rattle.stream.specs.Stream.{outside, frames_of, left_by}
use Rattle.stream.specs.Calls as stream
use Rattle.stream.proofs.Reached.{left_quietly, unfinished_kept}
use Rattle.stream.proofs.Streams.{quiet_all}
use Rattle.settings.specs.Columns.{count}
use Rattle.tables.specs.Rules.{allowed}
use Rattle.tables.specs.declared.Table.{Table}
use Rattle.who.specs.Parts.{serial_fits, serial_of}
use Rattle.who.specs.declared.Identity.{Identity}
use Rattle.who.proofs.Serials.{identity_back, serial_fits_back}
use Rattle.answers.proofs.Deciding.{identity_allowed_lem, table_allowed}
use Rattle.board.specs.Parts.{fresh_board, sample_fits, readings_of, board_allowed}
use Rattle.board.specs.Calls.{refused_start, starting, storing, ended_in, deciding, decided_by, heard_by, answering}
use Rattle.board.specs.Laws.{Given-by, a_start, a_store, a_call, Typed, AllowedIsGiven}
use Rattle.board.specs.declared.Board.{Board}
use Rattle.board.specs.declared.Sample.{Sample}
use Rattle.board.specs.declared.Answered.{Answered}
use Rattle.board.proofs.Starts.{start_allowed, start_accepted, start_refused, store_accepted, store_refused, store_allowed}
use Rattle.board.proofs.Pieces.{core_allowed_lem, held_allowed, answering_short, answering_stray, answering_heard}
use Rattle.board.proofs.Keeping.{cases, decided_count, answer_allowed}

-- what is given is allowed, and its table has its numbers
start_count : (product version : ℕ) (serial : List ℕ) (table : Table) → length table.numbers ≡ count
    → length (starting product version serial table).board.core.table.numbers ≡ count
unfolding fresh_board refused_start
start_count product version serial table long = by (serial_fits serial && allowed table) refl
  where
    by : (b : Bool) → (serial_fits serial && allowed table) ≡ b → length (starting product version serial table).board.core.table.numbers ≡ count
    by true e = rw (start_accepted product version serial table e) long
    by false e = rw (start_refused product version serial table e)

store_count : (board : Board) (given : Sample) → (storing board given).board.core.table ≡ board.core.table
store_count board given = by (board_allowed board && sample_fits given) refl
  where
    by : (b : Bool) → (board_allowed board && sample_fits given) ≡ b → (storing board given).board.core.table ≡ board.core.table
    by true e = rw (store_accepted board given e)
    by false e = rw (store_refused board given e)

heard_count_lem : (board : Board) (piece : List ℕ) → length board.core.table.numbers ≡ count → length (heard_by board piece).answer.board.core.table.numbers ≡ count
unfolding heard_by decided_by
heard_count_lem board piece long = decided_count board.core long (ended_in board.held piece)

pub call_count : (board : Board) (piece : List ℕ) (room : ℕ) → length board.core.table.numbers ≡ count → length (answering board piece room).answer.board.core.table.numbers ≡ count
call_count board piece room long =
    cases board piece room (λ (g : Given Answered). length g.answer.board.core.table.numbers ≡ count)
    (λ h. rw (answering_short board piece room h) long)
    (λ h e. rw (answering_stray board piece room h e) long)
    (λ h e. rw (answering_heard board piece room h e) (heard_count_lem board piece long))

given_both : (board : Board) → Given-by board → (board_allowed board ≡ true) × (length board.core.table.numbers ≡ count)
given_both _ (a_start product version serial table long) = (start_allowed product version serial table, start_count product version serial table long)
given_both _ (a_store {board} given g) =
    let both-are = given_both board g in (store_allowed board given both-are.0, ap (λ (t : Table). length t.numbers) (store_count board given) ∙ both-are.1)
given_both _ (a_call {board} piece room g) =
    let both-are = given_both board g in (answer_allowed board piece room both-are.1 both-are.0, call_count board piece room both-are.1)

-- an allowed board is given: started with what it is and holds, its readings stored, and the bytes of its unfinished frame heard
abbrev sample_of : Board → Sample
sample_of board =
    record {
      voltage = board.core.readings.voltage;
      current = board.core.readings.current;
      fine = board.core.readings.fine;
      consumed = board.core.readings.consumed;
      charge = pos board.core.readings.charge;
    }

-- a board at rest, but else the same
abbrev resting : Board → Board
resting board = record { core = board.core; held = stream.held_of outside }

module _ (board : Board) (typed : Typed board) (ok : board_allowed board ≡ true) where
  started_is : (starting board.core.identity.product board.core.identity.version (serial_of board.core.identity) board.core.table).board ≡ fresh_board board.core.identity board.core.table
  started_is =
      let fits : serial_fits (serial_of board.core.identity) ≡ true = serial_fits_back board.core.identity typed.serial_long (identity_allowed_lem board.core (core_allowed_lem board ok)) in
      rw (start_accepted board.core.identity.product board.core.identity.version (serial_of board.core.identity) board.core.table (both _ _ fits (table_allowed board.core (core_allowed_lem board ok))))
      (ap (λ (i : Identity). fresh_board i board.core.table) (identity_back board.core.identity typed.serial_long (identity_allowed_lem board.core (core_allowed_lem board ok))))

  given_start : Given-by (fresh_board board.core.identity board.core.table)
  given_start = subst Given-by started_is (a_start _ _ _ board.core.table typed.numbers_long)

  sample_fits_lem : sample_fits (sample_of board) ≡ true
  unfolding sample_fits
  sample_fits_lem =
      both _ _ (both _ _ (both _ _ (both _ _ typed.voltage_fits typed.current_fits) typed.fine_fits) typed.consumed_fits) typed.charge_fits

  fresh_ok : board_allowed (fresh_board board.core.identity board.core.table) ≡ true
  fresh_ok = (given_both _ given_start).0

  stored_is : (storing (fresh_board board.core.identity board.core.table) (sample_of board)).board ≡ resting board
  unfolding fresh_board readings_of
  stored_is = rw (store_accepted (fresh_board board.core.identity board.core.table) (sample_of board) (both _ _ fresh_ok sample_fits_lem))

  given_store : Given-by (resting board)
  given_store = subst Given-by stored_is (a_store (sample_of board) given_start)

  at_rest_lem : stream.unfinished (stream.held_of outside) ≡ outside
  at_rest_lem = unfinished_kept outside

  heard_is : (bytes : List ℕ) → stream.held_of (left_by bytes) ≡ board.held → frames_of bytes ≡ [] → (heard_by (resting board) bytes).answer.board ≡ board
  unfolding heard_by decided_by deciding
  heard_is bytes e quiet = rw (at_rest_lem, quiet_all outside bytes quiet, take-length, quiet, e)

  given_board : Given-by board
  given_board =
      let left = left_quietly board.held typed.chars_long (held_allowed board ok) in
      let enough = leb-true 75 75 refl in
      let call : (answering (resting board) left.0 75).answer.board ≡ board =
      rw (answering_heard (resting board) left.0 75 enough (given_both _ given_store).0) (heard_is left.0 left.1 left.2) in
      subst Given-by call (a_call left.0 75 given_store)

pub allowed_given : AllowedIsGiven
allowed_given board typed = (given_board board typed, λ g. (given_both board g).0)
