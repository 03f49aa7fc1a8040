-- `spans::Few::is_tidy` meets its contract. Assumes nothing.
use Rattle.std.proofs.Common.{◌∙◌}
use Rattle.spans.proofs.Fews.{tidy_past, tidy_within}
use Rattle.spans.proofs.Few.is_tidy.Goals as goal

pub returns-then-self : goal.returns-then-self
returns-then-self g c = tidy_past g.row.N c.args.self.now c.if-self.true

pub returns : goal.returns
returns g c = c.all.ensures ∙ tidy_within g.row.N c.args.self.now c.if-self.false
