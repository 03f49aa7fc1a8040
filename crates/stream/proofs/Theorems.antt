-- The statements of specs/Laws.antt, proved. Assumes nothing.
use Rattle.stream.specs.Laws.{WrittenIsHeard, HeardFromAnywhere, HeardIsWritable, InsideIsSince, ByteEndsFrame, HeardIsWritten, NoColonIsSkipped, AnyCutting, WholeIsHeard, AllIsTaken, CuttingChangesNothing, EmptyChangesNothing, RefusedIsSmall, CallIsRefused, OnlyAFrameIsWritten, FirstEndIsFirst, HearsToTheEnd, AllowedIsLeft}
use Rattle.stream.proofs.RoundTrip.{frame_heard, heard_anywhere, heard_writable}
use Rattle.stream.proofs.Answers.{call_refused, only_frame}
use Rattle.stream.proofs.Cuts
use Rattle.stream.proofs.Reached
use Rattle.stream.proofs.Since

pub written_is_heard : WrittenIsHeard
written_is_heard = frame_heard

pub heard_from_anywhere : HeardFromAnywhere
heard_from_anywhere = heard_anywhere

pub heard_is_writable : HeardIsWritable
heard_is_writable = heard_writable

pub inside_is_since : InsideIsSince
inside_is_since = Since.inside_since

pub byte_ends_frame : ByteEndsFrame
byte_ends_frame = Since.byte_ends

pub heard_is_written : HeardIsWritten
heard_is_written = Since.heard_written

pub no_colon_is_skipped : NoColonIsSkipped
no_colon_is_skipped = Since.no_colon

pub any_cutting : AnyCutting
any_cutting = Cuts.any_cutting

pub whole_is_heard : WholeIsHeard
whole_is_heard = Cuts.whole_heard

pub all_is_taken : AllIsTaken
all_is_taken = Cuts.all_taken

pub cutting_changes_nothing : CuttingChangesNothing
cutting_changes_nothing = Cuts.changes_nothing

pub empty_changes_nothing : EmptyChangesNothing
empty_changes_nothing = Cuts.empty_nothing

pub refused_is_small : RefusedIsSmall
refused_is_small = Cuts.refused_small

pub call_is_refused : CallIsRefused
call_is_refused = call_refused

pub only_a_frame_is_written : OnlyAFrameIsWritten
only_a_frame_is_written = only_frame

pub first_end_is_first : FirstEndIsFirst
first_end_is_first = Cuts.first_end_lem

pub hears_to_the_end : HearsToTheEnd
hears_to_the_end = Cuts.hears_to_the_end

pub allowed_is_left : AllowedIsLeft
allowed_is_left = Reached.allowed_left
