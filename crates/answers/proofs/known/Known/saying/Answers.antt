-- `answers::known::Known::saying` meets its contract. Assumes nothing.
use Rattle.answers.proofs.Found.{little_taken}
use Rattle.answers.proofs.known.Known.saying.Goals as goal

pub returns : goal.returns
returns c = rw (c.saying.ensures, c.bytes_16-value.ensures, little_taken c.args.self.setting.width 2 c.args.number c.args.self.settled.narrow)
