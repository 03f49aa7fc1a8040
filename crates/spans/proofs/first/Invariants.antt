use Rattle.std.proofs.Common.{◌≡◌, ◌+◌, drop}
use Rattle.laws.specs.Lists.{before}
use Rattle.spans.proofs.first.Given as goal

abbrev pub invariant-loop-i : goal.invariant-loop-i
invariant-loop-i g l = l.i + before (g.K.Kind.holds l.kind) (drop l.i l.bytes) ≡ before (g.K.Kind.holds l.kind) l.bytes
