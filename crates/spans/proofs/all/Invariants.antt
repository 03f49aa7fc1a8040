use Rattle.std.proofs.Common.{◌≡◌, ◌&&◌, drop}
use Rattle.laws.specs.Lists.{every}
use Rattle.spans.proofs.all.Given as goal

abbrev pub invariant-loop-b : goal.invariant-loop-b
invariant-loop-b g l = (l.all && every (g.K.Kind.holds l.kind) (drop l.b-index l.bytes)) ≡ every (g.K.Kind.holds l.kind) l.bytes
