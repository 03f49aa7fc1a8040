-- A serial as a value: it, and the zero after it where there is room for one, are in the identity's own array. Assumes nothing.
use mathlib.Core.Path.{◌≡◌}
use mathlib.Core.Bool.{true}
use mathlib.Core.List.{append-nil}
use Prim.Native.Nat.{suc, ◌≤◌, ◌<◌}
use borrow.Author.Tests.{lt-ltb, le-ltb}
use lib.ListN.{length}
use Rattle.spans.specs.Few.{few}
use Rattle.spans.proofs.Fews.{tidy_few, zero_tidy}
use Rattle.who.specs.Parts.{serial_of, identity_allowed}
use Rattle.who.specs.Values.{serial_value}
use Rattle.who.specs.declared.Identity.{Identity}
use Rattle.who.proofs.Serials.{serial_tidy}

module _ (identity : Identity) (long : length identity.serial.bytes ≡ 32) (ok : identity_allowed identity ≡ true) where
  pub serial_short_value : identity.serial.len < 32 → record { len = suc identity.serial.len; bytes = identity.serial.bytes } ≡ few 32 (serial_value identity)
  unfolding serial_value serial_of
  serial_short_value h = rw (lt-ltb identity.serial.len 32 h) (zero_tidy 32 identity.serial long (serial_tidy identity ok) h)

  pub serial_full_value : 32 ≤ identity.serial.len → identity.serial ≡ few 32 (serial_value identity)
  unfolding serial_value serial_of
  serial_full_value h = rw (le-ltb identity.serial.len 32 h, append-nil) (tidy_few 32 identity.serial long (serial_tidy identity ok))
