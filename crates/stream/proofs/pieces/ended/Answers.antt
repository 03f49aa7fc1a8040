-- `stream::pieces::ended` meets its contract. Assumes nothing.
use mathlib.Core.Path.{◌≡◌, refl}
use Rattle.std.proofs.lemmas.Grind.{common_steps}
use native.Mathlib.Omega.{arith}
use Rattle.laws.proofs.Promise.{gives_none, gives_bytes}
use Rattle.stream.specs.Calls.{event_from}
use Rattle.stream.proofs.Hearing.{chars_said, colon_ends, newline_there}
use Rattle.stream.proofs.pieces.ended.Goals as goal

pub returns-then-by-eq-COLON : goal.returns-then-by-eq-COLON
returns-then-by-eq-COLON c =
    rw (c.begun.ensures, c.if-by-eq-COLON.true) (gives_none _ (colon_ends c.args.chars.now c.args.taken c.broken.ensures))

pub returns : goal.returns
returns c =
    let read = chars_said _ _ c.requires.1 c.read_chars.ensures in
    let event : c.map.result ≡ event_from c.read_chars.result = grind (arith, common_steps) in
    rw (c.outside.ensures, event, read.answered, newline_there c.args.by c.requires.0 c.if-by-eq-COLON.false) (gives_bytes _ _ _ refl read.left)
