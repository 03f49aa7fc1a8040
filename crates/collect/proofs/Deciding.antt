-- The setting at a place, and what a frame decides. Assumes nothing.
use mathlib.Core.Path.{◌≡◌}
use mathlib.Core.Logic.{◌≢◌}
use mathlib.Core.Bool.{cond}
use mathlib.Core.List.{List}
use Prim.Native.Nat.{ℕ, ◌≤◌, ◌<◌}
use native.Mathlib.Omega.{arith}
use borrow.Author.Tests.{eq-eqb, ne_eqb}
use lib.ListN.{length, take}
use Rattle.paper.specs.Numbers.{get_code}
use Rattle.endian.specs.Numbers.{from_little}
use Rattle.endian.proofs.Little.{all_first}
use Rattle.settings.specs.Columns.{count, id_at, width_at}
use Rattle.settings.specs.Calls.{setting_at}
use Rattle.settings.proofs.Theorems.{rows_hold}
use Rattle.reply.specs.Replies.{rest}
use Rattle.reply.specs.Calls.{heeding}
use Rattle.reply.specs.Answers.{Heeded}
use Rattle.reply.specs.Events.{heard}
use Rattle.collect.specs.Collecting.{fits, valued, on_heeded, intake_of}
use Rattle.collect.specs.declared.place.Intake.{Intake}

-- the partner of a setting in the table
pub partner_small : (k : ℕ) → k < count → (setting_at k).partner < count
partner_small k h = (rows_hold k h).partner_is

-- a value, by its width

module _ (numbers : List ℕ) (k : ℕ) (value : List ℕ) where
  pub value_is : k < count → length value ≡ width_at k → valued numbers k value
      ≡ cond (fits numbers k (from_little (take 2 value))) (Intake.Takes (from_little (take 2 value))) Intake.Stops
  unfolding valued
  value_is h long =
      let few : width_at k ≤ 2 = (rows_hold k h).width_most in
      rw (eq-eqb (length value) (width_at k) long, all_first 2 value (omega arith))

  pub value_other : length value ≢ width_at k → valued numbers k value ≡ Intake.Stops
  unfolding valued
  value_other differs = rw (ne_eqb (length value) (width_at k) differs)

-- a frame, by what it says to the Get
pub heeded_is : (numbers : List ℕ) (k command : ℕ) (bytes : List ℕ) (h : Heeded) → heeding get_code (id_at k) command bytes ≡ h
    → on_heeded numbers k (rest bytes) h ≡ intake_of numbers k (heard command bytes)
unfolding intake_of
heeded_is numbers k command bytes h e = rw e
