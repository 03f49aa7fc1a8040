-- Numbers as bytes. Document 01, Frames: "Numbers are little endian", and "Read-only values": "Negative ones go out in two's complement."
-- Assumes nothing.
use Rattle.std.specs.Prelude.{ℕ, zero, suc, ◌+◌, ◌*◌, ◌-◌, ◌/◌, ◌%◌, ◌^◌, cond, List, [], ◌∷◌, ◌++◌, ℤ, pos, negsuc, ltb}

-- a number in this many bytes, and the number of some bytes
abbrev pub little : ℕ → ℕ → List ℕ
little zero n = []
little (suc width) n = (n % 256) ∷ little width (n / 256)

abbrev pub from_little : List ℕ → ℕ
from_little [] = 0
from_little (b ∷ bs) = b + 256 * from_little bs

-- what a Get, a Set and the replies to them carry: an id, a flag and a value
abbrev pub said : ℕ → ℕ → List ℕ → List ℕ
said id flag value = little 2 id ++ flag ∷ value

-- a whole number in two's complement of this many bytes, and the whole number that it means
abbrev pub complement : ℕ → ℤ → ℕ
complement width (pos n) = n
complement width (negsuc n) = 256 ^ width - suc n

unfoldable pub signed : ℕ → ℕ → ℤ
signed width n = cond (ltb (2 * n) (256 ^ width)) (pos n) (negsuc (256 ^ width - suc n))
