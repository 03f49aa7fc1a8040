-- Numbers as bytes: how many there are, and that they are bytes. Assumes nothing.
use mathlib.Core.Path.{◌≡◌, refl, sym, ap, ◌∙◌}
use mathlib.Core.Bool.{true}
use mathlib.Core.List.{List, [], ◌∷◌, ◌++◌}
use Prim.Native.Nat.{ℕ, zero, suc, ◌+◌, ◌-◌, ◌*◌, ◌/◌, ◌%◌, ◌^◌, ◌≤◌, ◌<◌}
use native.Mathlib.Nat.{not-suc-le-zero, le_of_suc-le-suc, div-one, div-div-eq-div-mul, pow-succ'}
use native.Mathlib.Omega.{arith}
use borrow.Author.Tests.{lt-ltb}
use lib.ListN.{length, get_or, take, replicate}
use lib.Seq.{take_all}
use Rattle.std.specs.Int.{w16, w32, from_le_bytes}
use Rattle.laws.specs.Lists.{every, byte}
use Rattle.laws.specs.Promise.{front_of}
use Rattle.laws.proofs.Fronts.{front_is}
use Rattle.laws.proofs.Bools.{both}
use Rattle.endian.specs.Numbers.{little, from_little}

pub length_little : (width n : ℕ) → length (little width n) ≡ width
length_little zero n = refl
length_little (suc width) n = ap suc (length_little width _)

pub bytes_little : (width n : ℕ) → every byte (little width n) ≡ true
bytes_little zero n = refl
bytes_little (suc width) n = let low : n % 256 < 256 = omega arith in both _ _ (lt-ltb (n % 256) 256 low) (bytes_little width _)

-- the byte at a place, by how often 256 to that place goes into the number
pub byte_little : (width n i : ℕ) → i < width → get_or (little width n) i 0 ≡ n / 256 ^ i % 256
byte_little zero n i h = absurd (not-suc-le-zero h)
byte_little (suc width) n zero h = ap (λ (m : ℕ). m % 256) (sym (div-one n))
byte_little (suc width) n (suc i) h =
    byte_little width (n / 256) i (le_of_suc-le-suc h)
    ∙ ap (λ (m : ℕ). m % 256) (div-div-eq-div-mul n 256 (256 ^ i) ∙ ap (λ (p : ℕ). n / p) (sym (pow-succ' 256 i)))

-- the first bytes are all of them, where there are no more
pub all_first : (width : ℕ) (l : List ℕ) → length l ≤ width → from_little (take width l) ≡ from_little l
all_first width l h = ap from_little (take_all width l h)

-- a byte that is missing counts as 0
from_zeros : (k : ℕ) → from_little (replicate k 0) ≡ 0
from_zeros zero = refl
from_zeros (suc k) = rw (from_zeros k)

from_padded : (l : List ℕ) (k : ℕ) → from_little (l ++ replicate k 0) ≡ from_little l
from_padded [] k = from_zeros k
from_padded (b ∷ l) k = ap (λ (n : ℕ). b + 256 * n) (from_padded l k)

pub first_is : (width : ℕ) (l : List ℕ) → from_little (front_of width l) ≡ from_little l
first_is width l = ap from_little (front_is width l) ∙ from_padded l (width - length l)

-- two bytes and four as std reads them
pub two_is : (l : List ℕ) → length l ≡ 2 → from_le_bytes w16 l ≡ from_little l
two_is [] e = absurd (omega arith)
two_is (a ∷ []) e = absurd (omega arith)
two_is (a ∷ b ∷ []) e = omega arith
two_is (a ∷ b ∷ c ∷ l) e = absurd (omega arith)

pub four_is : (l : List ℕ) → length l ≡ 4 → from_le_bytes w32 l ≡ from_little l
four_is [] e = absurd (omega arith)
four_is (a ∷ []) e = absurd (omega arith)
four_is (a ∷ b ∷ []) e = absurd (omega arith)
four_is (a ∷ b ∷ c ∷ []) e = absurd (omega arith)
four_is (a ∷ b ∷ c ∷ d ∷ []) e = omega arith
four_is (a ∷ b ∷ c ∷ d ∷ f ∷ l) e = absurd (omega arith)
