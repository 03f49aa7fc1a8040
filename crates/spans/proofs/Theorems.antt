-- What is proved, by the names of the statements. Assumes nothing.
use Rattle.spans.specs.Laws.{FewAreThose, TidyIsOne}
use Rattle.spans.proofs.Fews.{those_back, few_tidy, tidy_few}

pub few_are_those : FewAreThose
few_are_those n bytes = (those_back n bytes, λ fits. few_tidy n bytes fits)

pub tidy_is_one : TidyIsOne
tidy_is_one n f long e = tidy_few n f long e
