-- What holds on both sides of a test holds of the choice. Assumes nothing.
use mathlib.Core.Path.{◌≡◌, refl}
use mathlib.Core.Bool.{Bool, true, false, cond}

pub choose : {A : Type 0} (p : A → Type 0) (b : Bool) {x y : A} → (b ≡ true → p x) → (b ≡ false → p y) → p (cond b x y)
choose p true h k = h refl
choose p false h k = k refl
