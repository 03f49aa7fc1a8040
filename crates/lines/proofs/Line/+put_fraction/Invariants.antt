-- `lines::Line::put_fraction` ends: each call has a decimal less.
use Rattle.lines.proofs.Line.+put_fraction.Given as goal

abbrev pub decreases-put_fraction : goal.decreases-put_fraction
decreases-put_fraction l = l.decimals
