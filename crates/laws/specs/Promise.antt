-- The form of a promise: what a call that is lent a buffer answers, and what is in the buffer afterwards. Assumes nothing.
use Rattle.std.specs.Prelude.{ℕ, ◌≡◌, List, ◌++◌, length, drop, replicate}

-- a lent buffer afterwards: what was written fills its front, the rest keeps its bytes
unfoldable pub overlaid : List ℕ → List ℕ → List ℕ
overlaid written buffer = written ++ drop (length written) buffer

-- an array of n bytes with these at its front, and zeros after them
unfoldable pub front_of : ℕ → List ℕ → List ℕ
front_of n bytes = overlaid bytes (replicate n 0)

-- what a call gives: its answer, and the bytes that it writes at the front of the lent buffer
pub record Given (A : Type 0) : Type 0 where
  pub answer : A
  pub written : List ℕ

-- the answer r, and the buffer as it is afterwards, are the ones given
pub record Gives (A : Type 0) (given : Given A) (buffer : List ℕ) (r : A) (afterwards : List ℕ) : Type 0 where
  pub answered : r ≡ given.answer
  pub left : afterwards ≡ overlaid given.written buffer
