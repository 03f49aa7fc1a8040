-- `stream::Held::with_more` meets its contract. Assumes nothing.
use Prim.Native.Nat.{◌≤◌}
use mathlib.Core.Path.{◌≡◌}
use native.Mathlib.Omega.{arith}
use borrow.Author.Rules.{rules}
use lib.ListN.{length}
use Rattle.spans.proofs.Fews.{tidy_most, put_tidy}
use Rattle.stream.proofs.Helds.{allowed_tidy, held_more}
use Rattle.stream.proofs.Held.with_more.Goals as goal
use Rattle.stream.proofs.Held.with_more.Goals.{Start}

few : (c : Start) → c.args.self.chars.len ≤ length c.args.self.chars.bytes
few c =
    let long : length c.args.self.chars.bytes ≡ 74 = search rules in
    omega (arith, long, tidy_most 74 c.args.self.chars (allowed_tidy c.args.self c.requires.0))

pub slice_bounds-copy-start : goal.slice_bounds-copy-start
slice_bounds-copy-start c = few (goal.at.slice_bounds-copy-start c).Start

pub slice_bounds-copy-count : goal.slice_bounds-copy-count
slice_bounds-copy-count c = few (goal.at.slice_bounds-copy-count c).Start

pub returns : goal.returns
returns c =
    let long : length c.args.self.chars.bytes ≡ 74 = search rules in
    held_more c.args.self c.args.more.now _
    (rw long
    (put_tidy 74 c.args.self.chars long (allowed_tidy c.args.self c.requires.0) c.args.more.now _ _
    (rw long at c.copy-count.ensures.count) (rw long at c.copy-count.ensures.copied)))
