-- The statements of specs/Laws.antt, proved. Assumes nothing.
use mathlib.Core.Path.{refl}
use Rattle.listen.specs.Laws.{StartIsOutside, AnyCutting, WholeIsTold, AllIsTaken, ReadTakesToTheEnd, PatienceEnds, RequestEnds, LateTakesNothing, ReadGivenWhen, OnlyAFrameIsWritten, CallIsRefused, TakenIsWithin, FrameIsWhole, EventsAreOnStream}
use Rattle.listen.proofs.Merging as merging
use Rattle.listen.proofs.Patience as patience
use Rattle.listen.proofs.Leaning as leaning

pub start_is_outside : StartIsOutside
start_is_outside time = refl

pub any_cutting : AnyCutting
any_cutting = merging.cutting

pub whole_is_told : WholeIsTold
whole_is_told = merging.telling

pub all_is_taken : AllIsTaken
all_is_taken = merging.taking

pub read_takes_to_the_end : ReadTakesToTheEnd
read_takes_to_the_end = leaning.takes_to_the_end

pub patience_ends : PatienceEnds
patience_ends = patience.ends

pub request_ends : RequestEnds
request_ends = patience.request_ends

pub late_takes_nothing : LateTakesNothing
late_takes_nothing = patience.takes_nothing

pub taken_is_within : TakenIsWithin
taken_is_within = leaning.taken_fits

pub read_given_when : ReadGivenWhen
read_given_when = leaning.given_when

pub only_a_frame_is_written : OnlyAFrameIsWritten
only_a_frame_is_written = leaning.only_frame

pub call_is_refused : CallIsRefused
call_is_refused = leaning.call_refused

pub frame_is_whole : FrameIsWhole
frame_is_whole = leaning.frame_whole

pub events_are_on_stream : EventsAreOnStream
events_are_on_stream = leaning.on_stream
