-- What is proved of the definitions, as statements to compare with the papers. Each is proved under its name in proofs/Theorems.antt.
-- Assumes nothing.
use Rattle.std.specs.Prelude.{ℕ, suc, ◌+◌, ◌*◌, ◌/◌, ◌%◌, ◌^◌, ◌≤◌, ◌<◌, ◌≡◌, List, length, get_or, ℤ, pos, negsuc}
use Rattle.std.specs.Int.Signed.{mag}
use Rattle.laws.specs.Lists.{Bytes}
use Rattle.endian.specs.Numbers.{little, from_little, complement, signed}

-- 1. A number written in this many bytes is read back from them, and bytes are those of their number.
abbrev pub LittleIsRead : Type 0
LittleIsRead = (width n : ℕ) → n < 256 ^ width → from_little (little width n) ≡ n

abbrev pub ReadIsLittle : Type 0
ReadIsLittle = (bytes : List ℕ) → Bytes bytes → little (length bytes) (from_little bytes) ≡ bytes

-- 2. So is a whole number in two's complement: the magnitude of a negative one is how far it is below -1.
abbrev pub ComplementIsRead : Type 0
ComplementIsRead = (width : ℕ) (x : ℤ) → 1 ≤ width → 2 * mag x < 256 ^ width → signed width (complement width x) ≡ x

-- 3. "Numbers are little endian": a number has this many bytes, and the byte at a place is how often 256 to that place goes into it, modulo 256.
pub record Bytewise (width n : ℕ) : Type 0 where
  pub count_is : length (little width n) ≡ width
  pub byte_is : (i : ℕ) → i < width → get_or (little width n) i 0 ≡ n / 256 ^ i % 256

abbrev pub LittleIsBytewise : Type 0
LittleIsBytewise = (width n : ℕ) → Bytewise width n

-- 4. "Negative ones go out in two's complement": with its distance to 0 added, a negative number gives the power of 256; any other is itself.
-- (`negsuc n` is the number n + 1 below 0.)
pub record Complements (width n : ℕ) : Type 0 where
  pub negative_is : suc n ≤ 256 ^ width → complement width (negsuc n) + suc n ≡ 256 ^ width
  pub other_is : complement width (pos n) ≡ n

abbrev pub ComplementIsRest : Type 0
ComplementIsRest = (width n : ℕ) → Complements width n
