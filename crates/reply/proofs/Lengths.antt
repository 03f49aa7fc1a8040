-- What does not wait has its first three bytes. Assumes nothing.
use mathlib.Core.Path.{◌≡◌, refl}
use mathlib.Core.Bool.{Bool, true, false}
use mathlib.Core.List.{List}
use Prim.Native.Nat.{ℕ, ◌≤◌}
use borrow.Author.Tests.{ltb-false}
use lib.ListN.{length}
use lib.Dec.{eqb, ltb}
use Rattle.laws.proofs.Bools.{pick}
use Rattle.std.specs.Prelude.{Some, None, Result}
use Rattle.paper.specs.declared.Refusal.{Refusal}
use Rattle.reply.specs.Answers.{Parsed, Heeded}
use Rattle.reply.specs.Replies.{front, kinded, telling, named, numbered, about_parsed}
use Rattle.reply.specs.Calls.{parsing, heeding}
use Rattle.reply.specs.Laws.{HeededIsLong}
use Rattle.reply.specs.declared.Status.{Status}
use Rattle.reply.specs.declared.Reply.{Reply}

module _ (code id command : ℕ) (bytes : List ℕ) (short : ltb (length bytes) 3 ≡ true) where
  abbrev Waits : Parsed → Type 0
  Waits r = about_parsed id r ≡ None

  none_told : (kind : Status → ℕ → Reply) → Waits (telling kind bytes)
  unfolding front
  none_told kind = rw short

  short_waits : heeding code id command bytes ≡ None
  unfolding heeding parsing named numbered
  short_waits =
      pick (λ (h : Heeded). h ≡ None) (eqb command code)
      (pick Waits (eqb command 1) refl
      (pick Waits (eqb command 3) (pick (λ (r : Result ℕ Refusal). Waits (kinded Reply.Unknown r)) (eqb (length bytes) 1) refl refl)
      (pick Waits (eqb command 4) (pick (λ (r : Result ℕ Refusal). Waits (kinded Reply.Error r)) (eqb (length bytes) 2) refl refl)
      (pick Waits (eqb command 5) (pick (λ (r : Result ℕ Refusal). Waits (kinded Reply.Ping r)) (eqb (length bytes) 2) refl refl)
      (pick Waits (eqb command 7) (none_told Reply.Get)
      (pick Waits (eqb command 8) (none_told Reply.Set)
      (pick Waits (eqb command 0xA) (none_told Reply.Async) refl)))))))
      refl

pub heeded_long : HeededIsLong
heeded_long code id command bytes h = by (ltb (length bytes) 3) refl
  where
    by : (b : Bool) → ltb (length bytes) 3 ≡ b → 3 ≤ length bytes
    by true e = absurd (h (short_waits code id command bytes e))
    by false e = ltb-false _ _ e

pub status_long : (code id command : ℕ) (bytes : List ℕ) (status : Status) → heeding code id command bytes ≡ Some status → 3 ≤ length bytes
status_long code id command bytes status e = heeded_long code id command bytes (λ w. cc)
