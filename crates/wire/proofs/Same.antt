-- Two answers that meet a call's own contract are the same, and so are the buffers that they leave. `Post` is what the call ensures, as
-- its source states it. Assumes nothing.
use mathlib.Core.Path.{◌≡◌}
use mathlib.Core.Bool.{Bool}
use mathlib.Core.List.{List}
use Prim.Native.Nat.{ℕ}
use denote.Ref.{Bor}
use denote.MutBor.{MutBor}
use contract.Lifetimes.{Lfts}
use Rattle.laws.proofs.Promise.{gives_same, equal_same}
use Rattle.wire.specs.declared.Pair.{Pair}
use Rattle.std.specs.Prelude.{Option}
use Rattle.wire.specs.Answers.{Written, Read}
use Rattle.wire.proofs.pair_of.Reads as pair_of
use Rattle.wire.proofs.nibble_of.Reads as nibble-of
use Rattle.wire.proofs.all_digits.Reads as all_digits
use Rattle.wire.proofs.write_frame.Reads as write-frame
use Rattle.wire.proofs.read_frame.Reads as read_frame
use Rattle.wire.proofs.read_chars.Reads as read-chars

module _ (κs : Lfts 2) (bytes : Bor (List ℕ)) (buffer left left' : MutBor (List ℕ)) where
  pub write_frame_same : (command : ℕ) (r r' : Written)
      → write-frame.Post κs (command, (bytes, (buffer, tt))) r (command, (bytes, (left, tt)))
      → write-frame.Post κs (command, (bytes, (buffer, tt))) r' (command, (bytes, (left', tt))) → (r ≡ r') × (left.now ≡ left'.now)
  write_frame_same command r r' met met' = gives_same met met'

  pub read_frame_same : (r r' : Read)
      → read_frame.Post κs (bytes, (buffer, tt)) r (bytes, (left, tt)) → read_frame.Post κs (bytes, (buffer, tt)) r' (bytes, (left', tt))
      → (r ≡ r') × (left.now ≡ left'.now)
  read_frame_same r r' met met' = gives_same met met'

  pub read_chars_same : (r r' : Read)
      → read-chars.Post κs (bytes, (buffer, tt)) r (bytes, (left, tt)) → read-chars.Post κs (bytes, (buffer, tt)) r' (bytes, (left', tt))
      → (r ≡ r') × (left.now ≡ left'.now)
  read_chars_same r r' met met' = gives_same met met'

pub pair_of_same : (byte : ℕ) (r r' : Pair) → pair_of.Post tt (byte, tt) r (byte, tt) → pair_of.Post tt (byte, tt) r' (byte, tt) → r ≡ r'
pair_of_same byte r r' met met' = equal_same met met'

pub nibble_of_same : (c : ℕ) (r r' : Option ℕ) → nibble-of.Post tt (c, tt) r (c, tt) → nibble-of.Post tt (c, tt) r' (c, tt) → r ≡ r'
nibble_of_same c r r' met met' = equal_same met met'

pub all_digits_same : (κs : Lfts 1) (chars : Bor (List ℕ)) (r r' : Bool) → all_digits.Post κs (chars, tt) r (chars, tt) → all_digits.Post κs (chars, tt) r' (chars, tt) → r ≡ r'
all_digits_same κs chars r r' met met' = equal_same met met'
