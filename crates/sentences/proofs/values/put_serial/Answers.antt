-- `sentences::values::put_serial` meets its contract: the serial ends at the first zero byte. Assumes nothing.
use mathlib.Core.Path.{◌≡◌}
use lib.Dec.{eqb}
use Rattle.laws.specs.Lists.{before}
use Rattle.lines.proofs.Adding.{further}
use Rattle.sentences.specs.Values.{serial_text}
use Rattle.sentences.proofs.values.put_serial.Goals as goal

pub returns : goal.returns
unfolding serial_text
returns c =
    let end : c.first-end.result ≡ before (eqb 0) c.args.value.now = c.first-end.ensures.first in
    further _ _ _ c.put.ensures (rw end at c.put-2.ensures)
