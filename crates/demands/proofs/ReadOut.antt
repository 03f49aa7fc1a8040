-- Demand 2: a Get of a read-only id, by what a start and a store were given. Assumes nothing.
use mathlib.Core.Path.{◌≡◌, sym, ap, subst, ◌∙◌}
use mathlib.Core.Bool.{true}
use mathlib.Core.List.{List}
use Prim.Native.Nat.{ℕ, ◌≤◌}
use Rattle.laws.specs.Promise.{Given}
use Rattle.laws.proofs.Bools.{both}
use Rattle.paper.specs.Numbers.{get_code}
use Rattle.wire.specs.Frame.{frame}
use lib.IntN.{nat_abs}
use Rattle.who.specs.Parts.{serial_fits}
use Rattle.who.specs.Laws.{Holds}
use Rattle.who.specs.declared.Readings.{Readings}
use Rattle.endian.specs.Numbers.{said}
use Rattle.requests.specs.Requests.{get_request}
use Rattle.answers.specs.declared.Core.{Core}
use Rattle.board.specs.Parts.{fresh_board, sample_fits, readings_of, board_allowed}
use Rattle.board.specs.Calls.{starting, storing, answering}
use Rattle.board.specs.Laws.{at_rest}
use Rattle.board.specs.declared.Board.{Board}
use Rattle.board.specs.declared.Sample.{Sample}
use Rattle.board.specs.declared.Handed.{Handed}
use Rattle.board.specs.declared.Answered.{Answered}
use Rattle.board.proofs.Starts.{start_accepted}
use Rattle.board.proofs.Theorems.{start_is_allowed, start_holds_it, store_stores_it, store_keeps_allowed, get_answers_read_only}
use Rattle.demands.specs.Demand2.{StartIsReadOut, Measured, StoreIsReadOut}

-- a board with this core
read_out : (board : Board) (core : Core) → board.core ≡ core → board_allowed board ≡ true → at_rest board → (id : ℕ) (value : List ℕ) (room : ℕ) → 75 ≤ room
    → Holds core.identity core.readings id value → (answering board (get_request id) room).written ≡ frame get_code (said id 0 value)
read_out board core is ok rest id value room enough holds =
    ap (λ (g : Given Answered). g.written)
    (get_answers_read_only board id value room ok rest enough (subst (λ (c : Core). Holds c.identity c.readings id value) (sym is) holds))

pub start_read_out : StartIsReadOut answering
unfolding fresh_board serial_fits
start_read_out product version serial table id value room fits ok enough holds =
    read_out (starting product version serial table).board _ (ap (λ (j : Handed). j.board.core) (start_accepted product version serial table (both _ _ fits ok)))
    (start_is_allowed product version serial table) (start_holds_it product version serial table fits ok).held_is id value room enough holds

-- the readings that a store was given are one value
measured_is : (given : Sample) (readings : Readings) → Measured given readings → readings ≡ readings_of given
unfolding readings_of
measured_is given readings m =
    λ i.
    record {
      voltage = m.voltage_is i;
      current = m.current_is i;
      fine = m.fine_is i;
      consumed = m.consumed_is i;
      charge = ap nat_abs m.charge_is i;
    }

pub store_read_out : StoreIsReadOut answering
unfolding sample_fits
store_read_out board given readings id value room ok rest fits measured enough holds =
    let stored = store_stores_it board given ok fits in
    read_out (storing board given).board _ stored.core_is (store_keeps_allowed board given ok) (stored.held_same ∙ rest) id value room enough
    (subst (λ (r : Readings). Holds board.core.identity r id value) (measured_is given readings measured) holds)
