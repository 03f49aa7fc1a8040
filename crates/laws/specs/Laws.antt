-- What is proved of the form of a promise. Each statement is proved under its name in proofs/Theorems.antt. Assumes nothing.
use Rattle.std.specs.Prelude.{ℕ, ◌≤◌, ◌≡◌, List, length, take, drop}
use Rattle.laws.specs.Promise.{overlaid}

-- "A reply fills the front of the lent buffer; the rest keeps its bytes": the first bytes afterwards are the written ones, every byte past
-- them is the buffer's own, and there are as many as before where there was room for what was written.
pub record Overlays (written buffer afterwards : List ℕ) : Type 0 where
  pub front_is : take (length written) afterwards ≡ written
  pub rest_is : drop (length written) afterwards ≡ drop (length written) buffer
  pub length_is : length written ≤ length buffer → length afterwards ≡ length buffer

abbrev pub OverlaidIs : Type 0
OverlaidIs = (written buffer : List ℕ) → Overlays written buffer (overlaid written buffer)
