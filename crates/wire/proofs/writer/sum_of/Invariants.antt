-- `wire::writer::sum_of` meets its contract. Assumes nothing.
use Prim.Native.Nat.{◌+◌, ◌<◌, ◌%◌}
use mathlib.Core.Path.{◌≡◌}
use lib.ListN.{drop}
use Rattle.laws.specs.Lists.{sum_of}
use Rattle.wire.proofs.writer.sum_of.Given as goal

abbrev pub invariant-loop-b : goal.invariant-loop-b
invariant-loop-b l = (l.sum < 256) × ((l.sum + sum_of (drop l.b-index l.bytes)) % 256 ≡ sum_of l.bytes % 256)
