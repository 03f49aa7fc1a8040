-- What is proved of a few bytes, as statements. Each is proved under its name in proofs/Theorems.antt. Assumes nothing.
use Rattle.std.specs.Prelude.{ℕ, ◌≤◌, ◌≡◌, true, List, length}
use Rattle.spans.specs.Few.{few, those, tidy}
use Rattle.spans.specs.declared.Few.{Few}

-- The bytes that are put in are the bytes that are there; where there is room for them they are tidy.
abbrev pub FewAreThose : Type 0
FewAreThose = (n : ℕ) (bytes : List ℕ) → (those (few n bytes) ≡ bytes) × (length bytes ≤ n → tidy (few n bytes) ≡ true)

-- What is tidy is the one value of its bytes. (An array has its n bytes in every value of the type, which `length` says.)
abbrev pub TidyIsOne : Type 0
TidyIsOne = (n : ℕ) (f : Few n) → length f.bytes ≡ n → tidy f ≡ true → f ≡ few n (those f)
