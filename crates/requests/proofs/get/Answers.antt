-- `requests::get` meets its contract. Assumes nothing.
use Rattle.std.proofs.Common.{sym, length}
use Rattle.requests.proofs.Asking.{get_is}
use Rattle.requests.proofs.get.Goals as goal

pub returns : goal.returns
returns c = rw (sym (get_is c.args.id (length c.args.out.now))) (rw c.bytes_16.ensures at c.write_frame.ensures)
