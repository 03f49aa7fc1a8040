-- `spans::copy` meets its contract. Assumes nothing.
use Rattle.std.proofs.Common.{◌≡◌, ◌++◌, arith, length, drop, take, min, List, ℕ}
use Rattle.std.proofs.lemmas.List.{length-take, take_min}
use Rattle.laws.specs.Promise.{overlaid}
use Rattle.spans.proofs.copy.Goals as goal

swap : (a b : ℕ) → min a b ≡ min b a
swap a b = omega arith

-- as many as there is room for
put : (from to : List ℕ) {n : ℕ} {last : List ℕ} → n ≡ min (length from) (length to) → last ≡ take n from
    → last ++ drop n to ≡ overlaid (take (length to) from) to
unfolding overlaid
put from to e f = rw (f, e, swap (length from) (length to), take_min, length-take)

pub returns-clause-copied : goal.returns-clause-copied
returns-clause-copied c = put c.args.from.now c.args.to.now c.min-n.ensures c.copy_from_slice.ensures.after
