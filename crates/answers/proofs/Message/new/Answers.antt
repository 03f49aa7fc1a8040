-- `answers::Message::new` meets its contract. Assumes nothing.
use Rattle.std.proofs.Common.{ap, ◌∙◌}
use lib.Seq.{take_all}
use Rattle.spans.specs.Few.{few}
use Rattle.spans.specs.declared.Few.{Few}
use Rattle.answers.specs.AsHeld.{message_of}
use Rattle.answers.proofs.Message.new.Goals as goal

pub returns : goal.returns
unfolding message_of
returns c = ap (λ (f : Few 35). record { command = c.args.command; bytes = f }) (c.of.ensures ∙ ap (few 35) (take_all 35 c.args.from.now c.requires))
