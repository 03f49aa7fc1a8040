-- Two answers that meet a call's own contract are the same. `Post` is what the call ensures, as its source states it. Assumes nothing.
use mathlib.Core.Path.{◌≡◌}
use mathlib.Core.List.{List}
use Prim.Native.Nat.{ℕ}
use lib.IntN.{ℤ}
use denote.Ref.{Bor}
use contract.Lifetimes.{Lfts}
use Rattle.laws.proofs.Promise.{equal_same}
use Rattle.endian.proofs.read_16.Reads as read-16
use Rattle.endian.proofs.read_32.Reads as read-32
use Rattle.endian.proofs.bytes_16.Reads as bytes-16
use Rattle.endian.proofs.bytes_32.Reads as bytes-32
use Rattle.endian.proofs.signed_16.Reads as signed-16
use Rattle.endian.proofs.signed_32.Reads as signed-32
use Rattle.endian.proofs.complement_16.Reads as complement-16
use Rattle.endian.proofs.complement_32.Reads as complement-32

module _ (κs : Lfts 1) (bytes : Bor (List ℕ)) (r r' : ℕ) where
  pub read_16_same : read-16.Post κs (bytes, tt) r (bytes, tt) → read-16.Post κs (bytes, tt) r' (bytes, tt) → r ≡ r'
  read_16_same met met' = equal_same met met'

  pub read_32_same : read-32.Post κs (bytes, tt) r (bytes, tt) → read-32.Post κs (bytes, tt) r' (bytes, tt) → r ≡ r'
  read_32_same met met' = equal_same met met'

module _ (n : ℕ) where
  pub bytes_16_same : (r r' : List ℕ) → bytes-16.Post tt (n, tt) r (n, tt) → bytes-16.Post tt (n, tt) r' (n, tt) → r ≡ r'
  bytes_16_same r r' met met' = equal_same met met'

  pub bytes_32_same : (r r' : List ℕ) → bytes-32.Post tt (n, tt) r (n, tt) → bytes-32.Post tt (n, tt) r' (n, tt) → r ≡ r'
  bytes_32_same r r' met met' = equal_same met met'

  pub signed_16_same : (r r' : ℤ) → signed-16.Post tt (n, tt) r (n, tt) → signed-16.Post tt (n, tt) r' (n, tt) → r ≡ r'
  signed_16_same r r' met met' = equal_same met met'

  pub signed_32_same : (r r' : ℤ) → signed-32.Post tt (n, tt) r (n, tt) → signed-32.Post tt (n, tt) r' (n, tt) → r ≡ r'
  signed_32_same r r' met met' = equal_same met met'

module _ (x : ℤ) (r r' : ℕ) where
  pub complement_16_same : complement-16.Post tt (x, tt) r (x, tt) → complement-16.Post tt (x, tt) r' (x, tt) → r ≡ r'
  complement_16_same met met' = equal_same met met'

  pub complement_32_same : complement-32.Post tt (x, tt) r (x, tt) → complement-32.Post tt (x, tt) r' (x, tt) → r ≡ r'
  complement_32_same met met' = equal_same met met'
