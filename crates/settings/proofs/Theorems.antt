-- The statements of specs/Laws.antt, proved. Assumes nothing.
use mathlib.Core.Path.{refl}
use Rattle.settings.specs.Laws.{NearestIsFound, NearestIsOne, NearestIsAnswered, NearestGivenWhen, TableIsPrinted, AllowedIsPrinted, PrintedIsTold, WidthIsPrinted, PartnerIsPrinted, PastIsNothing, AllAllowedWhen, RangeHasRoom, AllowedHasRoom, RowsHold, IdsAreCount, PlaceIsFound, FindIsFound, FoundHasId}
use Rattle.settings.proofs.Nearness.{nearest_one}
use Rattle.settings.proofs.Windows.{nearest_found, nearest_answered, range_room, allowed_room}
use Rattle.settings.proofs.Printings.{nearest_given, allowed_printed, printed_told, width_printed, partner_printed, past_nothing, all_printed}
use Rattle.settings.proofs.Rows.{row_holds, place_found, find_found, found_id}

pub nearest_is_found : NearestIsFound
nearest_is_found = nearest_found

pub nearest_is_one : NearestIsOne
nearest_is_one k wished partner = nearest_one _ wished

pub nearest_is_answered : NearestIsAnswered
nearest_is_answered = nearest_answered

pub nearest_given_when : NearestGivenWhen
nearest_given_when = nearest_given

pub table_is_printed : TableIsPrinted
table_is_printed = (refl, refl)

pub allowed_is_printed : AllowedIsPrinted
allowed_is_printed = allowed_printed

pub printed_is_told : PrintedIsTold
printed_is_told = printed_told

pub width_is_printed : WidthIsPrinted
width_is_printed = width_printed

pub partner_is_printed : PartnerIsPrinted
partner_is_printed = partner_printed

pub past_is_nothing : PastIsNothing
past_is_nothing = past_nothing

pub all_allowed_when : AllAllowedWhen
all_allowed_when = all_printed

pub range_has_room : RangeHasRoom
range_has_room = range_room

pub allowed_has_room : AllowedHasRoom
allowed_has_room = allowed_room

pub rows_hold : RowsHold
rows_hold = row_holds

pub ids_are_count : IdsAreCount
ids_are_count = refl

pub place_is_found : PlaceIsFound
place_is_found = place_found

pub find_is_found : FindIsFound
find_is_found = find_found

pub found_has_id : FoundHasId
found_has_id = found_id
