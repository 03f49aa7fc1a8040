-- The statements of specs/, proved. Assumes nothing.
use Rattle.demands.specs.Demand1.{NumbersAreGiven, RepliesAreStated, LentBytesAreStated}
use Rattle.demands.specs.Demand2.{WrittenIsRead, WrittenIsHeard, ReadIsWritten, RepliesAreUnderstood, GetIsUnderstood, SetIsUnderstood, OthersAreRefused, CountIsMatched, StandingExactly, GoodAreAnswered, RefusalGivenWhen, OutcomeAndReply, WrittenIsAnswered, WrittenSums, ReadSums}
use Rattle.demands.specs.Demand3.{BoardDecides, AnyCutting, CuttingChangesNothing, EmptyChangesNothing, AllIsTaken, OneSetForEach, DueIsNext, NamedIsListed, OneCallForEach, ListIsAccepted, ListIsConfirmed}
use Rattle.demands.specs.Shams.{ShamsFall, RefusingDecides, RealPass}
use Rattle.demands.specs.Lines.{ThirteenHold}
use Rattle.wire.proofs.Theorems as wire
use Rattle.board.proofs.Theorems as board
use Rattle.requests.proofs.Theorems as requests
use Rattle.follow.proofs.Theorems as follow
use Rattle.demands.proofs.Gathering as gathering
use Rattle.demands.proofs.Understanding.{heard_written, get_understood, set_understood, answered_written}
use Rattle.demands.proofs.Replies.{replies_understood}
use Rattle.demands.proofs.ReadOut.{start_read_out, store_read_out}
use Rattle.demands.proofs.Deciding as deciding
use Rattle.demands.proofs.Cuts.{cutting_read, changes_nothing, empty_nothing, taking_all}
use Rattle.demands.proofs.Listing.{one_for_each, due_next}
use Rattle.demands.proofs.Feeding.{one_call_each, list_accepted, list_confirmed}
use Rattle.demands.proofs.Shams as shams
use Rattle.demands.proofs.Lines.{thirteen_lines_hold}

-- demand 1
pub numbers_are_given : NumbersAreGiven
numbers_are_given = gathering.numbers_given

pub replies_are_stated : RepliesAreStated
replies_are_stated = gathering.replies_stated

pub lent_bytes_are_stated : LentBytesAreStated
lent_bytes_are_stated = gathering.lent_stated

-- demand 2
pub written_is_read : WrittenIsRead
written_is_read = wire.written_is_read

pub written_is_heard : WrittenIsHeard
written_is_heard = heard_written

pub written_is_answered : WrittenIsAnswered
written_is_answered = answered_written

pub read_is_written : ReadIsWritten
read_is_written = wire.read_is_written

pub written_sums : WrittenSums
written_sums = wire.written_sums

pub read_sums : ReadSums
read_sums = wire.read_sums

pub good_are_answered : GoodAreAnswered
good_are_answered =
    record {
      gets = board.get_answers_held;
      read_only_gets = board.get_answers_read_only;
      start_gets = start_read_out;
      store_gets = store_read_out;
      sets = board.set_stores_it;
      equal_sets = board.set_of_equal_is_accepted;
    }

pub refusal_given_when : RefusalGivenWhen
refusal_given_when = board.refusal_given_when

pub outcome_and_reply : OutcomeAndReply
outcome_and_reply = board.outcome_and_reply

pub replies_are_understood : RepliesAreUnderstood
replies_are_understood = replies_understood

pub get_is_understood : GetIsUnderstood
get_is_understood = get_understood

pub set_is_understood : SetIsUnderstood
set_is_understood = set_understood

pub others_are_refused : OthersAreRefused
others_are_refused = requests.write_given_when

pub count_is_matched : CountIsMatched
count_is_matched = follow.count_is_told

pub standing_exactly : StandingExactly
standing_exactly = follow.standing_exactly

-- demand 3
pub board_decides : BoardDecides
board_decides = deciding.board_decides

pub any_cutting_is_read : AnyCutting
any_cutting_is_read = cutting_read

pub cutting_changes_nothing : CuttingChangesNothing
cutting_changes_nothing = changes_nothing

pub empty_changes_nothing : EmptyChangesNothing
empty_changes_nothing = empty_nothing

pub all_is_taken : AllIsTaken
all_is_taken = taking_all

pub one_set_for_each : OneSetForEach
one_set_for_each = one_for_each

pub due_is_next : DueIsNext
due_is_next = due_next

pub named_is_listed : NamedIsListed
named_is_listed = follow.named_is_listed

pub one_call_for_each : OneCallForEach
one_call_for_each = one_call_each

pub list_is_accepted : ListIsAccepted
list_is_accepted = list_accepted

pub list_is_confirmed : ListIsConfirmed
list_is_confirmed = list_confirmed

-- the shams, and the worked lines
pub shams_fall : ShamsFall
shams_fall = shams.shams_fall

pub refusing_decides : RefusingDecides
refusing_decides = shams.refusing_decides

pub real_pass : RealPass
real_pass = shams.real_pass

pub thirteen_hold : ThirteenHold
thirteen_hold = thirteen_lines_hold
