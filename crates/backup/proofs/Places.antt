-- The places of all settings, and the first line of their text. Assumes nothing.
use mathlib.Core.Path.{◌≡◌, refl, ap, ◌∙◌}
use mathlib.Core.Bool.{true}
use mathlib.Core.List.{◌∷◌}
use Prim.Native.Nat.{ℕ, zero, suc, ◌+◌, ◌<◌}
use native.Mathlib.Omega.{arith}
use lib.ListN.{length, get_or, drop}
use Rattle.laws.proofs.Lists.{drop_turn}
use Rattle.lines.specs.Numbers.{decimal_from}
use Rattle.settings.specs.Columns.{count}
use Rattle.backup.specs.Text.{places_from, places, header}
use Rattle.backup.specs.Laws.{are_places}

pub from_length : (left k : ℕ) → length (places_from left k) ≡ left
unfolding places_from
from_length zero k = refl
from_length (suc left) k = ap suc (from_length left (suc k))

from_at : (left k i : ℕ) → i < left → get_or (places_from left k) i 0 ≡ k + i
unfolding places_from
from_at zero k i h = absurd (omega arith)
from_at (suc left) k zero h = omega arith
from_at (suc left) k (suc i) h = from_at left (suc k) i (omega arith) ∙ omega arith

pub places_long : length places ≡ count
unfolding places
places_long = from_length count 0

-- what is left of them at a place: that place, and what is left after it
pub places_turn : (i : ℕ) → i < count → drop i places ≡ i ∷ drop (i + 1) places
unfolding places
places_turn i h =
    let less : i < length places = rw places_long h in
    drop_turn places i less ∙ ap (λ (k : ℕ). k ∷ drop (i + 1) places) (from_at count 0 i h ∙ omega arith)

pub are_places_lem : are_places places ≡ true
unfolding places_from places
are_places_lem = refl

pub header_long : length header ≡ 12
unfolding header decimal_from
header_long = refl
