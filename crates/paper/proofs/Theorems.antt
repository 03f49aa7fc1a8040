-- What is proved, by the name of the statement. Assumes nothing.
use Rattle.std.proofs.Common.{refl}
use Rattle.paper.specs.Laws.{RefusalsArePrinted}

pub refusals_are_printed : RefusalsArePrinted
refusals_are_printed = refl
