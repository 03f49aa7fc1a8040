-- Identities: that of a serial that fits is allowed, and has that serial. Assumes nothing.
use mathlib.Core.Path.{◌≡◌, refl, ap, ◌∙◌}
use mathlib.Core.Bool.{Bool, true, false, not}
use mathlib.Core.List.{List, [], ◌∷◌}
use Prim.Native.Nat.{ℕ, ◌≤◌}
use borrow.Author.Tests.{leb-true}
use lib.ListN.{length}
use Rattle.std.proofs.Common.{Ok, Err}
use lib.Dec.{leb}
use Rattle.laws.specs.Lists.{every}
use Rattle.laws.proofs.Bools.{and_left, and_right, both}
use Rattle.spans.proofs.Fews.{those_back, few_tidy}
use Rattle.who.specs.Parts.{printed, serial_fits, identity_of, serial_of, no_identity, identity_allowed}
use Rattle.paper.specs.Numbers.{most_serial, not_allowed}
use Rattle.who.specs.Calls.{naming}
use Rattle.who.specs.Laws.{NamedIsAllowed, is_serial, refusal_of, NamedGivenWhen, NamedHoldsIt}
use Rattle.laws.specs.Refusals.{row, first_of}

pub serial_short : (serial : List ℕ) → serial_fits serial ≡ true → length serial ≤ 32
unfolding serial_fits
serial_short serial e = leb-true (length serial) 32 (and_left _ (every printed serial) e)

serial_printed : (serial : List ℕ) → serial_fits serial ≡ true → every printed serial ≡ true
unfolding serial_fits
serial_printed serial e = and_right (leb (length serial) 32) (every printed serial) e

module _ (product version : ℕ) (serial : List ℕ) where
  pub named_refused : serial_fits serial ≡ false → naming product version serial ≡ record { identity = no_identity; verdict = Err not_allowed }
  unfolding naming
  named_refused e = rw e

  pub named_accepted : serial_fits serial ≡ true → naming product version serial ≡ record { identity = identity_of product version serial; verdict = Ok tt }
  unfolding naming
  named_accepted e = rw e

pub serial_back : (product version : ℕ) (serial : List ℕ) → serial_of (identity_of product version serial) ≡ serial
unfolding serial_of identity_of
serial_back product version serial = those_back most_serial serial

pub identity_fits : (product version : ℕ) (serial : List ℕ) → serial_fits serial ≡ true → identity_allowed (identity_of product version serial) ≡ true
unfolding identity_allowed identity_of
identity_fits product version serial e =
    both _ _ (few_tidy 32 serial (serial_short serial e))
    (ap (every printed) (serial_back product version serial) ∙ serial_printed serial e)

pub nobody_allowed : identity_allowed no_identity ≡ true
unfolding no_identity serial_fits
nobody_allowed = identity_fits 0 0 [] refl

pub named_allowed : NamedIsAllowed
named_allowed product version serial = by (serial_fits serial) refl
  where
    by : (b : Bool) → serial_fits serial ≡ b → identity_allowed (naming product version serial).identity ≡ true
    by true e = rw (named_accepted product version serial e) (identity_fits product version serial e)
    by false e = rw (named_refused product version serial e) nobody_allowed

-- a serial by document 01's numbers
pub fits_is : (serial : List ℕ) (b : Bool) → serial_fits serial ≡ b → is_serial serial ≡ b
unfolding serial_fits
fits_is serial b e = e

is_fit_lem : (serial : List ℕ) (b : Bool) → is_serial serial ≡ b → serial_fits serial ≡ b
unfolding serial_fits
is_fit_lem serial b e = e

pub named_given : NamedGivenWhen
named_given product version serial = by (serial_fits serial) refl
  where
    by : (b : Bool) → serial_fits serial ≡ b → refusal_of (naming product version serial).verdict ≡ first_of (row 12 (not (is_serial serial)) ∷ [])
    by true e = rw (named_accepted product version serial e, fits_is serial true e)
    by false e = rw (named_refused product version serial e, fits_is serial false e)

pub named_holds : NamedHoldsIt
unfolding identity_of no_identity
named_holds =
    record {
      accepted = λ product version serial e.
          rw (named_accepted product version serial (is_fit_lem serial true e))
          (record { product_is = refl; version_is = refl; serial_is = serial_back product version serial });
      refused = λ product version serial e.
          rw (named_refused product version serial (is_fit_lem serial false e))
          (record { product_is = refl; version_is = refl; serial_is = serial_back 0 0 [] });
    }
