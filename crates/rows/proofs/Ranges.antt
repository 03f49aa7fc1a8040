-- A number of more than 16 bits is in no setting's range. Assumes nothing.
use mathlib.Core.Path.{◌≡◌}
use mathlib.Core.Bool.{true}
use Prim.Native.Nat.{ℕ, ◌^◌, ◌≤◌, ◌<◌}
use native.Mathlib.Nat.{pow-le-pow_right}
use native.Mathlib.Omega.{arith}
use Rattle.settings.specs.Columns.{count, width_at}
use Rattle.settings.specs.Rules.{in_range}
use Rattle.settings.proofs.Theorems.{range_has_room, rows_hold}

pub range_wide : (k n : ℕ) → k < count → in_range k n ≡ true → n ≤ 65535
range_wide k n h e =
    let most : 256 ^ width_at k ≤ 256 ^ 2 = pow-le-pow_right (omega arith) (rows_hold k h).width_most in
    omega (arith, range_has_room k n h e)
