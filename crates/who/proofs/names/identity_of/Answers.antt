-- `who::names::identity_of` meets its contract. Assumes nothing.
use Rattle.std.proofs.Common.{ap, ◌∙◌}
use lib.Seq.{take_all}
use Rattle.spans.specs.Few.{few}
use Rattle.spans.specs.declared.Few.{Few}
use Rattle.who.specs.Parts.{identity_of}
use Rattle.who.proofs.names.identity_of.Goals as goal

pub returns : goal.returns
unfolding identity_of
returns c =
    ap (λ (f : Few 32). record { product = c.args.product; version = c.args.version; serial = f })
    (c.of.ensures ∙ ap (few 32) (take_all 32 c.args.serial.now c.requires))
