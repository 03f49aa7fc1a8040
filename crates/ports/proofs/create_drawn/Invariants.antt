use Rattle.std.proofs.Common.{length, take, ◌≡◌, ◌≤◌}
use Rattle.ports.proofs.create_drawn.Given as goal

abbrev pub invariant-loop : goal.invariant-loop
invariant-loop l =
    (l.from ≤ length l.name) × (length l.name ≡ length l.initial.name) × (take l.from l.name ≡ take l.from l.initial.name)
