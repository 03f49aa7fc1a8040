-- `endian::read_16` meets its contract. Assumes nothing.
use mathlib.Core.Path.{◌≡◌, ap, ◌∙◌}
use borrow.Author.Rules.{rules}
use lib.ListN.{length}
use Rattle.endian.specs.Numbers.{from_little}
use Rattle.endian.proofs.Little.{first_is, two_is}
use Rattle.endian.proofs.read_16.Goals as goal
use Rattle.endian.proofs.read_16.Goals.{After-from_le_bytes}

long : (c : After-from_le_bytes) → length c.first.result ≡ 2
long c = search rules

pub returns : goal.returns
returns c = c.from_le_bytes.ensures ∙ two_is c.first.result (long (goal.at.returns c).After-from_le_bytes) ∙ ap from_little c.first.ensures ∙ first_is 2 _
