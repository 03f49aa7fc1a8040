-- `lines::Line::put_number` ends: what is left of the number is smaller.
use Rattle.lines.proofs.Line.+put_number.Given as goal

abbrev pub decreases-put_number : goal.decreases-put_number
decreases-put_number l = l.n
