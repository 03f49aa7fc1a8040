-- Numbers of 64 bits at the published widths: a conversion gives a number exactly where document 01 says that it fits. Assumes nothing.
use mathlib.Core.Path.{◌≡◌, refl, sym, ap}
use mathlib.Core.Bool.{Bool, true, false, cond, false≢true}
use Prim.Native.Nat.{ℕ, suc, ◌<◌, ◌^◌}
use native.Mathlib.Omega.{arith}
use borrow.Author.Tests.{leb-true, le-leb}
use lib.Dec.{leb}
use lib.IntN.{ℤ, pos, negsuc, nat_abs}
use mir.Val.{SFits, to_z, of_z, hbits}
use mir.ValLaws.{to_z-of_z}
use mir.Syntax.{Width, w16, w32, w64}
use Rattle.std.proofs.Common.{Result, Ok, Err, Some, None}
use Rattle.std.specs.Result.{OkIff, result_ok}
use Rattle.std.specs.Int.{FitsUnsignedBits}
use Rattle.laws.proofs.Bools.{and_left, and_right, both}
use Rattle.board.specs.Parts.{within, fits16, fits32, fits_charge}

-- a result that is there exactly where a test passes
when_told : {T E : Type 0} (b : Bool) {P : Type 0} (v : T) → (b ≡ true → P) → (P → b ≡ true) → (r : Result T E) → OkIff r P v → result_ok r ≡ cond b (Some v) None
when_told true v f g (Ok x) told = ap Some told.1
when_told true v f g (Err e) told = absurd (told (f refl))
when_told false v f g (Ok x) told = absurd (false≢true (g told.0))
when_told false v f g (Err e) told = refl

pub some_told : {T : Type 0} (b : Bool) (v x : T) → Some v ≡ cond b (Some x) None → (b ≡ true) × (v ≡ x)
some_told true v x e = (refl, cc)
some_told false v x e = let z : ◌≡◌ {A = ℕ} 0 1 = cc in absurd (omega arith)

pub none_told : {T : Type 0} (b : Bool) (x : T) → None ≡ cond b (Some x) None → b ≡ false
none_told true x e = let z : ◌≡◌ {A = ℕ} 0 1 = cc in absurd (omega arith)
none_told false x e = refl

-- a number is within the ends of a width exactly where it fits it
fits_is : (w : Width) (m : ℕ) → suc m ≡ 2 ^ hbits w → (x : ℤ) → within (negsuc m) (pos m) x ≡ true → SFits w x
fits_is w m half (pos n) e = let most = leb-true n m e in record { sfits = rw (sym half) (omega arith) }
fits_is w m half (negsuc n) e = let most = leb-true n m (and_left (leb n m) true e) in record { sfits = rw (sym half) (omega arith) }

is_fit : (w : Width) (m : ℕ) → suc m ≡ 2 ^ hbits w → (x : ℤ) → SFits w x → within (negsuc m) (pos m) x ≡ true
is_fit w m half (pos n) f = let less : n < suc m = rw half f.sfits in le-leb n m (omega arith)
is_fit w m half (negsuc n) f = let less : n < suc m = rw half f.sfits in rw (le-leb n m (omega arith))

-- an argument of a call, as the call sees it
kept : (x : ℤ) → SFits w64 x → to_z w64 (of_z w64 x) ≡ x
kept = to_z-of_z w64

signed_told : {E : Type 0} (w : Width) (m : ℕ) → suc m ≡ 2 ^ hbits w → (x : ℤ) → SFits w64 x → (r : Result ℤ E)
    → OkIff r (SFits w (to_z w64 (of_z w64 x))) (to_z w64 (of_z w64 x)) → result_ok r ≡ cond (within (negsuc m) (pos m) x) (Some x) None
signed_told w m half x wide r told = when_told (within (negsuc m) (pos m) x) x (fits_is w m half x) (is_fit w m half x) r (rw (kept x wide) at told)

pub told_16 : {E : Type 0} (x : ℤ) → SFits w64 x → (r : Result ℤ E) → OkIff r (SFits w16 (to_z w64 (of_z w64 x))) (to_z w64 (of_z w64 x))
    → result_ok r ≡ cond (fits16 x) (Some x) None
told_16 = signed_told w16 0x7FFF refl

pub told_32 : {E : Type 0} (x : ℤ) → SFits w64 x → (r : Result ℤ E) → OkIff r (SFits w32 (to_z w64 (of_z w64 x))) (to_z w64 (of_z w64 x))
    → result_ok r ≡ cond (fits32 x) (Some x) None
told_32 = signed_told w32 0x7FFFFFFF refl

charge_is : (x : ℤ) → fits_charge x ≡ true → FitsUnsignedBits 16 x
charge_is (pos n) e = let most = leb-true n 0xFFFF (and_right (leb 0 n) _ e) in omega arith
charge_is (negsuc n) e = absurd (false≢true e)

is_charge : (x : ℤ) → FitsUnsignedBits 16 x → fits_charge x ≡ true
is_charge (pos n) f = both _ _ (le-leb 0 n (omega arith)) (le-leb n 0xFFFF (omega arith))
is_charge (negsuc n) f = absurd f

pub told_charge : {E : Type 0} (x : ℤ) → SFits w64 x → (r : Result ℕ E) → OkIff r (FitsUnsignedBits 16 (to_z w64 (of_z w64 x))) (nat_abs (to_z w64 (of_z w64 x)))
    → result_ok r ≡ cond (fits_charge x) (Some (nat_abs x)) None
told_charge x wide r told = when_told (fits_charge x) (nat_abs x) (charge_is x) (is_charge x) r (rw (kept x wide) at told)

-- and it stays what it is at the narrower width
pub narrow_16 : (x : ℤ) → fits16 x ≡ true → to_z w16 (of_z w16 x) ≡ x
narrow_16 x e = to_z-of_z w16 x (fits_is w16 0x7FFF refl x e)

pub narrow_32 : (x : ℤ) → fits32 x ≡ true → to_z w32 (of_z w32 x) ≡ x
narrow_32 x e = to_z-of_z w32 x (fits_is w32 0x7FFFFFFF refl x e)

-- a charge is its own distance to 0
pub charge_back : (x : ℤ) → fits_charge x ≡ true → pos (nat_abs x) ≡ x
charge_back (pos n) e = refl
charge_back (negsuc n) e = absurd (false≢true e)
