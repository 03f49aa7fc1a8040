-- `stream::pieces::broken` meets its contract. Assumes nothing.
use Rattle.wire.proofs.Answers.{broken_long, broken_short}
use Rattle.stream.proofs.pieces.broken.Goals as goal

pub returns-then-len-gt-MOST_CHARS : goal.returns-then-len-gt-MOST_CHARS
returns-then-len-gt-MOST_CHARS c = rw (broken_long _ c.if-len-gt-MOST_CHARS.true)

pub returns-else-len-gt-MOST_CHARS : goal.returns-else-len-gt-MOST_CHARS
returns-else-len-gt-MOST_CHARS c = rw (broken_short _ c.if-len-gt-MOST_CHARS.false)
