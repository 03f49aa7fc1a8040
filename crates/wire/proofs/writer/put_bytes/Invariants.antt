-- `wire::writer::put_bytes` meets its contract. Assumes nothing.
use Prim.Native.Nat.{◌+◌, ◌*◌}
use mathlib.Core.Path.{◌≡◌}
use lib.ListN.{length, drop}
use lib.Seq.{sets}
use Rattle.wire.specs.Frame.{digits_of}
use Rattle.wire.proofs.writer.put_bytes.Given as goal

abbrev pub invariant-loop-i : goal.invariant-loop-i
invariant-loop-i l = (length l.out ≡ length l.initial.out) × (sets l.out (l.at + 2 * l.i) (digits_of (drop l.i l.bytes)) ≡ sets l.initial.out l.at (digits_of l.bytes))
