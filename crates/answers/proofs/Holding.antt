-- The public call's answer holds what is decided. Assumes nothing.
use mathlib.Core.Path.{refl}
use Rattle.laws.specs.Promise.{overlaid, front_of}
use Rattle.spans.specs.Few.{few}
use Rattle.answers.specs.Answers.{Sent, silent, sent, error}
use Rattle.answers.specs.AsHeld.{message_of, sends_of, decided_of}
use Rattle.answers.specs.Calls.{answering}
use Rattle.answers.specs.Laws as laws

held : (reply : Sent) → laws.HeldAs reply (sends_of reply)
unfolding message_of few front_of overlaid
held silent = laws.HeldAs.nothing
held error = laws.HeldAs.an_error
held (sent command bytes) = laws.HeldAs.a_frame

pub answer_holds : laws.AnswerHolds
unfolding decided_of
answer_holds core command bytes = record { outcome_is = refl; core_is = refl; reply_is = held (answering core command bytes).reply }
