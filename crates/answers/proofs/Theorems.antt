-- The statements of specs/Laws.antt, proved. Assumes nothing.
use Rattle.answers.specs.Laws.{RepliesFit, RefusedStays, AnswerMakes, IdentityStays, ReadingsStay, MakesKeepsAllowed, GetAnswersHeld, GetAnswersReadOnly, SetStoresIt, SetRefusedNamesNearest, RefusalGivenWhen, AllowedIsAnswered, AnswerHolds, OutcomeAndReply}
use Rattle.answers.proofs.Fitting
use Rattle.answers.proofs.Making.{refused_stays, answer_makes, identity_stays, readings_stay, makes_allowed}
use Rattle.answers.proofs.Asking.{get_held, get_read_only, set_stores, set_names}
use Rattle.answers.proofs.Refusing.{refusal_given, allowed_answered}
use Rattle.answers.proofs.Holding
use Rattle.answers.proofs.Telling.{outcome_reply}

pub replies_fit : RepliesFit
replies_fit = Fitting.replies_fit

pub refused_stays_it : RefusedStays
refused_stays_it = refused_stays

pub answer_makes_it : AnswerMakes
answer_makes_it = answer_makes

pub identity_stays_it : IdentityStays
identity_stays_it = identity_stays

pub readings_stay_it : ReadingsStay
readings_stay_it = readings_stay

pub makes_keeps_allowed : MakesKeepsAllowed
makes_keeps_allowed = makes_allowed

pub get_answers_held : GetAnswersHeld
get_answers_held = get_held

pub get_answers_read_only : GetAnswersReadOnly
get_answers_read_only = get_read_only

pub set_stores_it : SetStoresIt
set_stores_it = set_stores

pub set_refused_names_nearest : SetRefusedNamesNearest
set_refused_names_nearest = set_names

pub refusal_given_when : RefusalGivenWhen
refusal_given_when = refusal_given

pub allowed_is_answered : AllowedIsAnswered
allowed_is_answered = allowed_answered

pub answer_holds : AnswerHolds
answer_holds = Holding.answer_holds

pub outcome_and_reply : OutcomeAndReply
outcome_and_reply = outcome_reply
