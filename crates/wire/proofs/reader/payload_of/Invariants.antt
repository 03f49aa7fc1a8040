-- `wire::reader::payload_of` meets its contract. Assumes nothing.
use Prim.Native.Nat.{◌+◌, ◌*◌}
use mathlib.Core.Path.{◌≡◌}
use lib.ListN.{length, drop, replicate}
use lib.Seq.{sets}
use Rattle.wire.specs.Parsing.{bytes_of, payload_of}
use Rattle.wire.proofs.reader.payload_of.Given as goal

abbrev pub invariant-loop-i : goal.invariant-loop-i
invariant-loop-i l = (length l.payload ≡ 36) × (sets l.payload l.i (bytes_of (drop (2 * l.i + 1) l.chars)) ≡ sets (replicate 36 0) 0 (payload_of l.chars))
