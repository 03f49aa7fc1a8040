-- What a start and a store give, case by case. Assumes nothing.
use mathlib.Core.Path.{◌≡◌, refl, ◌∙◌}
use mathlib.Core.Bool.{Bool, true, false, cond, not, ◌&&◌}
use mathlib.Core.List.{List, [], ◌∷◌}
use Prim.Native.Nat.{ℕ}
use Rattle.std.proofs.Common.{Ok, Err}
use Rattle.std.specs.Prelude.{is_ok}
use Rattle.laws.specs.Refusals.{row, first_of}
use Rattle.laws.proofs.Bools.{and_left, and_right, both}
use Rattle.stream.proofs.Reached.{left_allowed}
use Rattle.tables.proofs.Theorems.{factory_is_allowed}
use Rattle.tables.specs.Rules.{factory, allowed}
use Rattle.tables.specs.declared.Table.{Table}
use Rattle.who.specs.Parts.{serial_fits, identity_of, no_identity, identity_allowed}
use Rattle.paper.specs.Numbers.{not_allowed}
use Rattle.who.specs.Calls.{naming}
use Rattle.who.specs.Laws.{is_serial, refusal_of}
use Rattle.who.specs.declared.Identity.{Identity}
use Rattle.answers.specs.Answers.{core_allowed, with_readings}
use Rattle.who.proofs.Identities.{serial_back, identity_fits, named_accepted, named_refused}
use Rattle.board.specs.Parts.{fresh_board, fits_charge, sample_fits, readings_of, board_allowed}
use Rattle.board.specs.Calls.{refused_start, starting, storing}
use Rattle.board.specs.Laws.{StartIsAllowed, StartHoldsIt, StartGivenWhen, StartIsRefused, StoreStores, is_sample, StoreGivenWhen, StoreKeepsAllowed}
use Rattle.board.specs.declared.Board.{Board}
use Rattle.board.specs.declared.Sample.{Sample}
use Rattle.board.specs.declared.Handed.{Handed}
use Rattle.board.proofs.Signs.{charge_back}

module _ (product version : ℕ) (serial : List ℕ) (table : Table) where
  pub start_refused : (serial_fits serial && allowed table) ≡ false
      → starting product version serial table ≡ refused_start
  unfolding starting
  start_refused e = rw e

  pub start_accepted : (serial_fits serial && allowed table) ≡ true
      → starting product version serial table ≡ record { board = fresh_board (identity_of product version serial) table; verdict = Ok tt }
  unfolding starting
  start_accepted e = rw e

module _ (board : Board) (given : Sample) where
  pub store_refused : (board_allowed board && sample_fits given) ≡ false → storing board given ≡ record { board = board; verdict = Err not_allowed }
  unfolding storing
  store_refused e = rw e

  pub store_accepted : (board_allowed board && sample_fits given) ≡ true
      → storing board given ≡ record { board = record { core = with_readings board.core (readings_of given); held = board.held }; verdict = Ok tt }
  unfolding storing
  store_accepted e = rw e

pub start_holds : StartHoldsIt
unfolding fresh_board identity_of
start_holds product version serial table fits ok =
    let is = start_accepted product version serial table (both _ _ fits ok) in
    record {
      accepted = rw is;
      product_is = rw is;
      version_is = rw is;
      serial_is = rw is (serial_back product version serial);
      table_is = rw is;
      readings_are = rw is;
      held_is = rw is;
    }

-- a refused start is that of nobody with the factory table
pub start_back : StartIsRefused
unfolding serial_fits no_identity refused_start
start_back product version serial table e =
    start_refused product version serial table e ∙ rw (start_accepted 0 0 [] factory (both _ _ refl factory_is_allowed))

fresh_allowed : (identity : Identity) (table : Table) → identity_allowed identity ≡ true → allowed table ≡ true → board_allowed (fresh_board identity table) ≡ true
unfolding board_allowed core_allowed fresh_board
fresh_allowed identity table i t = both _ _ (both _ _ i t) (left_allowed [])

refused_allowed : board_allowed refused_start.board ≡ true
unfolding refused_start no_identity serial_fits
refused_allowed = fresh_allowed _ factory (identity_fits _ _ [] refl) factory_is_allowed

pub start_allowed : StartIsAllowed
start_allowed product version serial table = by (serial_fits serial && allowed table) refl
  where
    by : (b : Bool) → (serial_fits serial && allowed table) ≡ b → board_allowed (starting product version serial table).board ≡ true
    by true e =
        rw (start_accepted product version serial table e)
        (fresh_allowed _ table (identity_fits product version serial (and_left _ (allowed table) e)) (and_right (serial_fits serial) _ e))
    by false e = rw (start_refused product version serial table e) refused_allowed

pub store_stores : StoreStores
unfolding sample_fits readings_of
store_stores board given ok fits =
    let is = store_accepted board given (both _ _ ok fits) in
    record {
      accepted = rw is;
      voltage_is = rw is;
      current_is = rw is;
      fine_is = rw is;
      consumed_is = rw is;
      charge_is = rw is (charge_back given.charge (and_right _ (fits_charge given.charge) fits));
      identity_same = rw is;
      table_same = rw is;
      held_same = rw is;
      core_is = rw is;
    }

pub store_allowed : StoreKeepsAllowed
unfolding board_allowed core_allowed
store_allowed board given ok = by (board_allowed board && sample_fits given) refl
  where
    by : (b : Bool) → (board_allowed board && sample_fits given) ≡ b → board_allowed (storing board given).board ≡ true
    by true e = rw (store_accepted board given e) ok
    by false e = rw (store_refused board given e) ok

-- 12, by document 01's numbers
pub start_given : StartGivenWhen
unfolding starting serial_fits refused_start
start_given product version serial table = by (is_serial serial && allowed table)
  where
    by : (b : Bool)
        → refusal_of (cond b (record { board = fresh_board (identity_of product version serial) table; verdict = Ok tt }) refused_start).verdict
        ≡ first_of (row 12 (not b) ∷ [])
    by true = refl
    by false = refl

pub store_given : StoreGivenWhen
unfolding storing sample_fits
store_given board given = by (board_allowed board && is_sample given)
  where
    stored : Handed
    stored = record { board = record { core = with_readings board.core (readings_of given); held = board.held }; verdict = Ok tt }

    by : (b : Bool) → refusal_of (cond b stored (record { board = board; verdict = Err not_allowed })).verdict ≡ first_of (row 12 (not b) ∷ [])
    by true = refl
    by false = refl

-- a start by what became of its identity
pub named_told : (product version : ℕ) (serial : List ℕ) → is_ok (naming product version serial).verdict ≡ serial_fits serial
named_told product version serial = by (serial_fits serial) refl
  where
    by : (b : Bool) → serial_fits serial ≡ b → is_ok (naming product version serial).verdict ≡ b
    by true e = rw (named_accepted product version serial e)
    by false e = rw (named_refused product version serial e)
