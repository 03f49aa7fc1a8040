-- A few bytes: they fill the front of an array, and the rest of it is 0. Assumes nothing.
use Rattle.std.specs.Prelude.{ℕ, Bool, ◌&&◌, List, length, take, drop, leb, eqb}
use Rattle.laws.specs.Lists.{every}
use Rattle.laws.specs.Promise.{front_of}
use Rattle.spans.specs.declared.Few.{Few}

-- these bytes in an array with room for n
unfoldable pub few : (n : ℕ) → List ℕ → Few n
few n bytes = record { len = length bytes; bytes = front_of n bytes }

-- the bytes of any that a caller can make up
abbrev pub those : {n : ℕ} → Few n → List ℕ
those f = take f.len f.bytes

-- no more bytes than there is room for, and 0 past them: so each row of bytes is one value
unfoldable pub tidy : {n : ℕ} → Few n → Bool
tidy {n} f = leb f.len n && every (eqb 0) (drop f.len f.bytes)
