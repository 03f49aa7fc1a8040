-- A serial in the identity's own array, with zeros after it. Assumes nothing.
use mathlib.Core.Path.{◌≡◌, subst, sym, ap, ◌∙◌}
use mathlib.Core.Bool.{true}
use Prim.Native.Nat.{◌≤◌}
use native.Mathlib.Omega.{arith}
use borrow.Author.Tests.{le-leb}
use lib.ListN.{length, length-take}
use Rattle.laws.specs.Lists.{every}
use Rattle.laws.proofs.Bools.{and_left, and_right, both}
use Rattle.spans.specs.Few.{those, tidy}
use Rattle.spans.specs.declared.Few.{Few}
use Rattle.spans.proofs.Fews.{tidy_most, tidy_few}
use Rattle.who.specs.Parts.{printed, serial_fits, identity_of, serial_of, identity_allowed}
use Rattle.who.specs.declared.Identity.{Identity}
use Rattle.who.specs.declared.Named.{Named}
use Rattle.who.specs.Laws.{AllowedIsNamed}
use Rattle.who.proofs.Identities.{fits_is, named_accepted, named_allowed}

module _ (identity : Identity) (ok : identity_allowed identity ≡ true) where
  pub serial_tidy : tidy identity.serial ≡ true
  unfolding identity_allowed serial_of
  serial_tidy = and_left (tidy identity.serial) (every printed (those identity.serial)) ok

  pub serial_printed : every printed (serial_of identity) ≡ true
  unfolding identity_allowed
  serial_printed = and_right (tidy identity.serial) (every printed (serial_of identity)) ok

  pub serial_within : identity.serial.len ≤ 32
  serial_within = tidy_most 32 identity.serial serial_tidy

module _ (identity : Identity) (long : length identity.serial.bytes ≡ 32) (ok : identity_allowed identity ≡ true) where
  pub size : length (serial_of identity) ≡ identity.serial.len
  unfolding serial_of
  size = let less : identity.serial.len ≤ 32 = serial_within identity ok in length-take identity.serial.len identity.serial.bytes ∙ omega (arith, long)

  -- so the identity is that of its serial, which fits
  pub identity_back : identity_of identity.product identity.version (serial_of identity) ≡ identity
  unfolding identity_of serial_of
  identity_back = ap (λ (f : Few 32). record { product = identity.product; version = identity.version; serial = f }) (sym (tidy_few 32 identity.serial long (serial_tidy identity ok)))

  pub serial_fits_back : serial_fits (serial_of identity) ≡ true
  unfolding serial_fits
  serial_fits_back =
      let few : identity.serial.len ≤ 32 = serial_within identity ok in
      let short : length (serial_of identity) ≤ 32 = rw size few in
      both _ _ (le-leb (length (serial_of identity)) 32 short) (serial_printed identity ok)

pub allowed_named : AllowedIsNamed
allowed_named identity long = (
  λ ok.
      let fits = serial_fits_back identity long ok in
      (serial_of identity, fits_is (serial_of identity) true fits, ap (λ (n : Named). n.identity) (named_accepted _ _ (serial_of identity) fits) ∙ identity_back identity long ok),
  λ named. subst (λ (i : Identity). identity_allowed i ≡ true) named.2 (named_allowed identity.product identity.version named.0),
)
