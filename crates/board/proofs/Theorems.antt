-- The statements of specs/Laws.antt, proved. Assumes nothing.
use Rattle.board.specs.Laws.{StartIsAllowed, StartHoldsIt, StartGivenWhen, StartIsRefused, StoreStores, StoreGivenWhen, StoreIsRefused, StoreKeepsAllowed, AnswerKeepsAllowed, RefusalKeeps, CallIsRefused, WholeIsAnswered, GetAnswersHeld, GetAnswersReadOnly, SetStoresIt, SetOfEqualIsAccepted, SetRefusedNamesNearest, AllowedIsGiven, RefusalGivenWhen, OutcomeAndReply}
use Rattle.board.proofs.Starts.{start_allowed, start_holds, start_given, start_back, store_stores, store_given, store_refused, store_allowed}
use Rattle.board.proofs.Keeping.{answer_allowed, refusal_keeps}
use Rattle.board.proofs.Pieces.{answering_short, answering_stray}
use Rattle.board.proofs.Replying.{whole_answered, get_held, get_read_only, set_stores, set_equal, set_names}
use Rattle.board.proofs.Giving.{allowed_given}
use Rattle.board.proofs.Judging.{refusal_given, outcome_reply}

pub start_is_allowed : StartIsAllowed
start_is_allowed = start_allowed

pub start_holds_it : StartHoldsIt
start_holds_it = start_holds

pub start_given_when : StartGivenWhen
start_given_when = start_given

pub start_is_refused : StartIsRefused
start_is_refused = start_back

pub store_stores_it : StoreStores
store_stores_it = store_stores

pub store_given_when : StoreGivenWhen
store_given_when = store_given

pub store_is_refused : StoreIsRefused
store_is_refused = store_refused

pub store_keeps_allowed : StoreKeepsAllowed
store_keeps_allowed = store_allowed

pub answer_keeps_allowed : AnswerKeepsAllowed
answer_keeps_allowed = answer_allowed

pub refusal_keeps_it : RefusalKeeps
refusal_keeps_it = refusal_keeps

pub whole_is_answered : WholeIsAnswered
whole_is_answered = whole_answered

pub get_answers_held : GetAnswersHeld
get_answers_held = get_held

pub get_answers_read_only : GetAnswersReadOnly
get_answers_read_only = get_read_only

pub set_stores_it : SetStoresIt
set_stores_it = set_stores

pub set_of_equal_is_accepted : SetOfEqualIsAccepted
set_of_equal_is_accepted = set_equal

pub set_refused_names_nearest : SetRefusedNamesNearest
set_refused_names_nearest = set_names

pub allowed_is_given : AllowedIsGiven
allowed_is_given = allowed_given

pub refusal_given_when : RefusalGivenWhen
refusal_given_when = refusal_given

pub call_is_refused : CallIsRefused
call_is_refused = record { short = answering_short; stray = answering_stray }

pub outcome_and_reply : OutcomeAndReply
outcome_and_reply = outcome_reply
