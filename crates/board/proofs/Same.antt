-- Two answers that meet a call's own contract are the same. `Post` is what the call ensures, as its source states it. Assumes nothing.
use mathlib.Core.Path.{◌≡◌}
use mathlib.Core.Bool.{Bool}
use mathlib.Core.List.{List}
use Prim.Native.Nat.{ℕ}
use denote.Bor.{Bor}
use denote.MutBor.{MutBor}
use contract.Lifetimes.{Lfts}
use Rattle.laws.proofs.Promise.{equal_same, gives_same}
use Rattle.tables.specs.declared.Table.{Table}
use Rattle.board.specs.declared.Board.{Board}
use Rattle.board.specs.declared.Sample.{Sample}
use Rattle.board.specs.declared.Handed.{Handed}
use Rattle.board.specs.declared.Answered.{Answered}
use Rattle.board.proofs.Board.start.Reads as start
use Rattle.board.proofs.Board.start_factory.Reads as start-factory
use Rattle.board.proofs.Board.store.Reads as store
use Rattle.board.proofs.Board.answer.Reads as answer
use Rattle.board.proofs.Board.is_allowed.Reads as is_allowed

module _ (κs : Lfts 1) (product version : ℕ) (serial : Bor (List ℕ)) (r r' : Handed) where
  pub start_same : (table : Table) → start.Post κs (product, (version, (serial, (table, tt)))) r (product, (version, (serial, (table, tt))))
      → start.Post κs (product, (version, (serial, (table, tt)))) r' (product, (version, (serial, (table, tt)))) → r ≡ r'
  start_same table met met' = equal_same met met'

  pub start_factory_same : start-factory.Post κs (product, (version, (serial, tt))) r (product, (version, (serial, tt)))
      → start-factory.Post κs (product, (version, (serial, tt))) r' (product, (version, (serial, tt))) → r ≡ r'
  start_factory_same met met' = equal_same met met'

pub store_same : (board : Board) (given : Sample) (r r' : Handed) → store.Post tt (board, (given, tt)) r (board, (given, tt))
    → store.Post tt (board, (given, tt)) r' (board, (given, tt)) → r ≡ r'
store_same board given r r' met met' = equal_same met met'

module _ (κs : Lfts 2) (board : Board) (piece : Bor (List ℕ)) (reply reply₁ reply₂ : MutBor (List ℕ)) (r r' : Answered) where
  pub answer_same : answer.Post κs (board, (piece, (reply, tt))) r (board, (piece, (reply₁, tt)))
      → answer.Post κs (board, (piece, (reply, tt))) r' (board, (piece, (reply₂, tt))) → (r ≡ r') × (reply₁.now ≡ reply₂.now)
  answer_same met met' = gives_same met met'

pub is_allowed_same : (board : Board) (r r' : Bool) → is_allowed.Post tt (board, tt) r (board, tt) → is_allowed.Post tt (board, tt) r' (board, tt) → r ≡ r'
is_allowed_same board r r' met met' = equal_same met met'
