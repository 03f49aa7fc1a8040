-- What a look-up among the settings finds, and a number in a setting's width. Assumes nothing.
use mathlib.Core.Path.{◌≡◌, refl, ap}
use mathlib.Core.List.{List, ◌∷◌}
use Prim.Native.Nat.{ℕ, zero, suc, ◌/◌, ◌%◌, ◌≤◌}
use native.Mathlib.Nat.{le_of_suc-le-suc}
use native.Mathlib.Omega.{arith}
use lib.ListN.{take}
use Rattle.endian.specs.Numbers.{little}
use Rattle.std.proofs.Common.{Some}
use Rattle.settings.specs.Calls.{finding}
use Rattle.settings.specs.declared.Setting.{Setting}
use Rattle.settings.proofs.Theorems.{rows_hold, found_has_id}
use Rattle.answers.specs.Settled.{Settled}

pub found_settled : (id : ℕ) (s : Setting) → finding id ≡ Some s → Settled s
found_settled id s e =
    let found = found_has_id id s e in
    let row = rows_hold s.index found.0 in
    let width = ap (λ (t : Setting). t.width) found.1 in
    record { within = found.0; wide = rw width row.width_some; narrow = rw width row.width_most }

-- a number in fewer bytes is the front of it in more
pub little_taken : (width more n : ℕ) → width ≤ more → take width (little more n) ≡ little width n
little_taken zero more n h = refl
little_taken (suc width) zero n h = absurd (omega arith)
little_taken (suc width) (suc more) n h = ap (λ (l : List ℕ). (n % 256) ∷ l) (little_taken width more (n / 256) (le_of_suc-le-suc h))
