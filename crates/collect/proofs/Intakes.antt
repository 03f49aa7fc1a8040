-- What is taken of an event, by the numbers answered so far. Assumes nothing.
use mathlib.Core.Path.{◌≡◌, refl, sym}
use mathlib.Core.Bool.{true}
use mathlib.Core.List.{List}
use Prim.Native.Nat.{ℕ}
use lib.ListN.{length}
use lib.Dec.{eqb}
use Rattle.paper.specs.Numbers.{get_code}
use Rattle.endian.specs.Numbers.{from_little}
use Rattle.settings.specs.Columns.{id_at, width_at}
use Rattle.reply.specs.Replies.{rest}
use Rattle.reply.specs.Calls.{heeding}
use Rattle.std.specs.Prelude.{Some, None}
use Rattle.reply.specs.Answers.{Heeded}
use Rattle.reply.specs.declared.Status.{Status}
use Rattle.reply.proofs.Choices.{choose}
use Rattle.reply.specs.Events.{Event, heard, refused_frame, no_answer}
use Rattle.collect.specs.Collecting.{fits, valued, on_heeded, intake_of}
use Rattle.collect.specs.declared.place.Intake.{Intake}

-- It depends on the numbers only by what fits, and what is taken fits.
module _ (l m : List ℕ) (k : ℕ) (same : (n : ℕ) → fits l k n ≡ fits m k n) where
  valued_same : (v : List ℕ) → valued l k v ≡ valued m k v
  unfolding valued
  valued_same v = rw (same (from_little v))

  heeded_same : (v : List ℕ) (h : Heeded) → on_heeded l k v h ≡ on_heeded m k v h
  heeded_same v None = refl
  heeded_same v (Some Status.Good) = valued_same v
  heeded_same v (Some Status.UnknownId) = refl
  heeded_same v (Some Status.NotSupported) = refl
  heeded_same v (Some Status.ParameterError) = refl

  pub intake_same : (e : Event) → intake_of l k e ≡ intake_of m k e
  unfolding intake_of
  intake_same (heard command bytes) = heeded_same (rest bytes) (heeding get_code (id_at k) command bytes)
  intake_same refused_frame = refl
  intake_same no_answer = refl

pub record Taken (l : List ℕ) (k : ℕ) (v : Intake) : Type 0 where
  pub fit : (n : ℕ) → v ≡ Intake.Takes n → fits l k n ≡ true

taken_stops : (l : List ℕ) (k : ℕ) → Taken l k Intake.Stops
taken_stops l k = record { fit = λ n e. cc }

taken_waits : (l : List ℕ) (k : ℕ) → Taken l k Intake.Waits
taken_waits l k = record { fit = λ n e. cc }

taken_silence : (l : List ℕ) (k : ℕ) → Taken l k Intake.Silence
taken_silence l k = record { fit = λ n e. cc }

module _ (l : List ℕ) (k : ℕ) where
  valued_taken : (v : List ℕ) → Taken l k (valued l k v)
  unfolding valued
  valued_taken v =
      choose (Taken l k) (eqb (length v) (width_at k))
      (λ w. choose (Taken l k) (fits l k (from_little v)) (λ f. record { fit = λ n e. let is : from_little v ≡ n = cc in rw (sym is) f }) (λ f. taken_stops l k))
      (λ w. taken_stops l k)

  heeded_taken : (v : List ℕ) (h : Heeded) → Taken l k (on_heeded l k v h)
  heeded_taken v None = taken_waits l k
  heeded_taken v (Some Status.Good) = valued_taken v
  heeded_taken v (Some Status.UnknownId) = taken_stops l k
  heeded_taken v (Some Status.NotSupported) = taken_stops l k
  heeded_taken v (Some Status.ParameterError) = taken_stops l k

  pub intake_taken : (e : Event) → Taken l k (intake_of l k e)
  unfolding intake_of
  intake_taken (heard command bytes) = heeded_taken (rest bytes) (heeding get_code (id_at k) command bytes)
  intake_taken refused_frame = taken_waits l k
  intake_taken no_answer = taken_silence l k
