-- The statements of specs/Laws.antt, proved. Assumes nothing.
use mathlib.Core.Path.{refl}
use Rattle.restore.specs.Laws.{OneForEach, NoOther, SetsAreDiffering, InOrder, ListRestores, ListGivenWhen, SetsGivenWhen, DueGivenWhen, ListIsGiven, SetsAreTold, NoneWhereEqual, SetsAreFew, ListIsShort, SetsAreWanted, DueTells}
use Rattle.restore.proofs.Placing.{one_each, no_other, in_order}
use Rattle.restore.proofs.Differing.{sets_differing}
use Rattle.restore.proofs.Restoring.{list_restores}
use Rattle.restore.proofs.Refusing as refusing
use Rattle.restore.proofs.Rows.{sets_few, frames_fit, tells_due}

pub one_for_each : OneForEach
one_for_each = one_each

pub no_other_set : NoOther
no_other_set = no_other

pub sets_are_differing : SetsAreDiffering
sets_are_differing = sets_differing

pub sets_are_in_order : InOrder
sets_are_in_order = in_order

pub list_restores_it : ListRestores
list_restores_it = list_restores

pub list_given_when : ListGivenWhen
list_given_when = refusing.list_given_when

pub sets_given_when : SetsGivenWhen
sets_given_when = refusing.sets_given_when

pub due_given_when : DueGivenWhen
due_given_when = refusing.due_given_when

pub list_is_given : ListIsGiven
list_is_given = refusing.list_given

pub sets_are_told : SetsAreTold
sets_are_told = refusing.sets_told

pub none_where_equal : NoneWhereEqual
none_where_equal = refusing.none_equal

pub sets_are_few : SetsAreFew
sets_are_few = sets_few

pub list_is_short : ListIsShort
list_is_short = frames_fit

pub sets_are_wanted : SetsAreWanted
sets_are_wanted from to = refl

pub due_tells : DueTells
due_tells = tells_due
