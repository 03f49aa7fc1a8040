-- A row of bytes handed to a call piece by piece, in any cutting. Assumes nothing.
use Rattle.std.specs.Prelude.{ℕ, zero, ◌+◌, List, [], ◌∷◌, ◌++◌, Bool, true, ◌&&◌, take, drop, leb}

-- what a call on a piece, or a row of such calls, comes to: the state afterwards, what happened in order, and how many bytes were taken
pub record Step (S E : Type 0) : Type 0 where
  pub state : S
  pub events : List E
  pub taken : ℕ

-- a call is handed some of the bytes that are not taken yet, from the first of them on, and whatever else it is given
pub record Offer (C : Type 0) : Type 0 where
  pub count : ℕ
  pub with : C

-- a row of calls: what one did not take is handed on before anything else
abbrev pub calls : {S E C : Type 0} → (S → C → List ℕ → Step S E) → S → List ℕ → List (Offer C) → Step S E
calls call s bytes [] = record { state = s; events = []; taken = zero }
calls call s bytes (o ∷ more) =
    let here = call s o.with (take o.count bytes) in
    let later = calls call here.state (drop here.taken bytes) more in
    record { state = later.state; events = here.events ++ later.events; taken = here.taken + later.taken }

-- every call of a row is handed a byte at least, and something that a test holds of
abbrev pub ready : {C : Type 0} → (C → Bool) → List (Offer C) → Bool
ready serves [] = true
ready serves (o ∷ more) = (leb 1 o.count && serves o.with) && ready serves more
