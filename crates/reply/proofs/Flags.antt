-- The flags of the statuses, and the frames that answer a request. Assumes nothing.
use mathlib.Core.Path.{◌≡◌, refl, sym, ap, ◌∙◌}
use mathlib.Core.Logic.{◌≢◌}
use mathlib.Core.Bool.{Bool, true, false, false≢true}
use mathlib.Core.List.{List}
use Prim.Native.Nat.{ℕ, ◌/◌, ◌%◌}
use native.Mathlib.Omega.{arith}
use borrow.Author.Tests.{eq-eqb, eqb-true}
use lib.ListN.{get_or}
use lib.Dec.{eqb, ltb}
use Rattle.laws.specs.Lists.{same, Bytes}
use Rattle.laws.proofs.Bools.{and_left, and_right, both}
use Rattle.laws.proofs.Lists.{same_back, same_self}
use Rattle.endian.specs.Numbers.{little, said}
use Rattle.endian.proofs.Little.{bytes_little}
use Rattle.reply.specs.Replies.{flag_of, rest}
use Rattle.reply.specs.Events.{is_flag, answers}
use Rattle.reply.specs.declared.Status.{Status}

status_of : (flag : ℕ) → is_flag flag ≡ true → (status : Status) × (flag ≡ flag_of status)
status_of flag e = by (has Status.Good) (has Status.UnknownId) (has Status.NotSupported) (has Status.ParameterError) refl refl refl refl
  where
    has : Status → Bool
    has status = eqb flag (flag_of status)

    by : (a b c d : Bool) → has Status.Good ≡ a → has Status.UnknownId ≡ b → has Status.NotSupported ≡ c → has Status.ParameterError ≡ d
        → (status : Status) × (flag ≡ flag_of status)
    by true b c d p q r s = (Status.Good, eqb-true _ _ p)
    by false true c d p q r s = (Status.UnknownId, eqb-true _ _ q)
    by false false true d p q r s = (Status.NotSupported, eqb-true _ _ r)
    by false false false true p q r s = (Status.ParameterError, eqb-true _ _ s)
    by false false false false p q r s = absurd (false≢true (rw (p, q, r, s) at e))

flag_status : (status : Status) → is_flag (flag_of status) ≡ true
flag_status Status.Good = refl
flag_status Status.UnknownId = refl
flag_status Status.NotSupported = refl
flag_status Status.ParameterError = refl

-- flag 00 is that of one status
pub flag_good : (status : Status) → flag_of status ≡ 0 → status ≡ Status.Good
flag_good Status.Good e = refl
flag_good Status.UnknownId e = absurd (omega arith)
flag_good Status.NotSupported e = absurd (omega arith)
flag_good Status.ParameterError e = absurd (omega arith)

-- what is said of a number is bytes
pub said_small : (id width n : ℕ) → Bytes (said id 0 (little width n))
said_small id width n =
    let front = bytes_little 2 id in
    let low = and_left (ltb (id % 256) 256) _ front in
    let high = and_left (ltb (id / 256 % 256) 256) true (and_right (ltb (id % 256) 256) _ front) in
    record { below = both _ _ low (both _ _ high (bytes_little width n)) }

module _ (code id command : ℕ) (bytes : List ℕ) where
  pub said_answers : (status : Status) → command ≡ code → bytes ≡ said id (flag_of status) (rest bytes) → answers code id command bytes ≡ true
  unfolding answers
  said_answers status is are =
      let flag : get_or bytes 2 0 ≡ flag_of status = ap (λ (l : List ℕ). get_or l 2 0) are in
      both _ _ (eq-eqb command code is) (rw flag (both _ _ (ap (same bytes) (sym are) ∙ same_self bytes) (flag_status status)))

  pub none_answers : ((status : Status) → command ≡ code → bytes ≢ said id (flag_of status) (rest bytes)) → answers code id command bytes ≡ false
  unfolding answers
  none_answers none = by (answers code id command bytes) refl
    where
      by : (b : Bool) → answers code id command bytes ≡ b → b ≡ false
      by true e =
          let inside = and_right (eqb command code) _ e in
          let whole : Bool = same bytes (said id (get_or bytes 2 0) (rest bytes)) in
          let some = status_of (get_or bytes 2 0) (and_right whole _ inside) in
          absurd
          (none some.0 (eqb-true _ _ (and_left (eqb command code) _ e))
          (same_back bytes (said id (get_or bytes 2 0) (rest bytes)) (and_left whole _ inside) ∙ ap (λ (f : ℕ). said id f (rest bytes)) some.1))
      by false e = refl
