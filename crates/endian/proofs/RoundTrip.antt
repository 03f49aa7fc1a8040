-- Numbers are read back from their bytes. Assumes nothing.
use mathlib.Core.Path.{◌≡◌, refl}
use mathlib.Core.Bool.{true}
use mathlib.Core.List.{List, [], ◌∷◌}
use Prim.Native.Nat.{ℕ, zero, suc, ◌+◌, ◌*◌, ◌-◌, ◌/◌, ◌%◌, ◌^◌, ◌≤◌, ◌<◌}
use native.Mathlib.Numerals.{unary_clauses}
use native.Mathlib.Omega.{arith}
use borrow.Author.Tests.{lt-ltb, le-ltb, ltb-true}
use lib.ListN.{length}
use lib.Dec.{ltb}
use lib.IntN.{pos, negsuc}
use Rattle.laws.specs.Lists.{every}
use Rattle.laws.proofs.Bools.{and_left, and_right}
use Rattle.endian.specs.Numbers.{little, from_little, signed}
use Rattle.endian.specs.Laws.{LittleIsRead, ReadIsLittle, ComplementIsRead}

pub little_read : LittleIsRead
little_read zero n h = omega arith
little_read (suc width) n h =
    let power : n < 256 ^ width * 256 = simp unary_clauses at h in
    let rest : from_little (little width (n / 256)) ≡ n / 256 = little_read width (n / 256) (div_less n (256 ^ width) power) in
    rw rest (omega arith)
  where
    div_less : (m p : ℕ) → m < p * 256 → m / 256 < p
    div_less m p e = omega arith

-- and bytes are those of their number
low_back : (x m : ℕ) → x < 256 → (x + 256 * m) % 256 ≡ x
low_back x m h = omega arith

high_back : (x m : ℕ) → x < 256 → (x + 256 * m) / 256 ≡ m
high_back x m h = omega arith

read_back : (l : List ℕ) → every (λ b. ltb b 256) l ≡ true → little (length l) (from_little l) ≡ l
read_back [] e = refl
read_back (x ∷ l) e =
    let small : x < 256 = ltb-true _ _ (and_left (ltb x 256) _ e) in
    let later : little (length l) (from_little l) ≡ l = read_back l (and_right (ltb x 256) _ e) in
    rw (low_back x (from_little l) small, high_back x (from_little l) small, later)

pub read_little : ReadIsLittle
read_little bytes small = read_back bytes small.below

-- a power of 256 is even, so what is under half of it leaves room for one more
even_half : (width n : ℕ) → 1 ≤ width → 2 * n < 256 ^ width → 2 * suc n ≤ 256 ^ width
even_half zero n some h = absurd (omega arith)
even_half (suc width) n some h =
    let power : 2 * n < 256 ^ width * 256 = simp unary_clauses at h in
    simp unary_clauses (omega arith)

pub complement_read : ComplementIsRead
unfolding signed
complement_read width (pos n) some h = rw (lt-ltb (2 * n) (256 ^ width) h)
complement_read width (negsuc n) some h =
    let room : 2 * suc n ≤ 256 ^ width = even_half width n some h in
    let upper : 256 ^ width ≤ 2 * (256 ^ width - suc n) = omega arith in
    let back : 256 ^ width - suc (256 ^ width - suc n) ≡ n = omega arith in
    rw (le-ltb (2 * (256 ^ width - suc n)) (256 ^ width) upper, back)
