-- The statements of specs/Laws.antt, proved. Assumes nothing.
use mathlib.Core.Path.{refl}
use Rattle.laws.proofs.Lists.{up_to_all}
use Rattle.settings.specs.Columns.{count}
use Rattle.settings.specs.Rules.{all_allowed}
use Rattle.settings.proofs.Windows.{allowed_both}
use Rattle.settings.proofs.Theorems.{rows_hold}
use Rattle.tables.specs.Rules.{allowed}
use Rattle.tables.specs.Laws.{SetGivenWhen, SetStores, EqualIsAccepted, RefusedNamesNearest, SetKeepsAllowed, RefusedKeeps, SetKeepsCount, SetChangesOne, FactoryIsPrinted, FactoryIsAllowed, PairsHaveAnOrder}
use Rattle.tables.proofs.Tables.{set_given, set_stores, equal_accepted, refused_names, set_allowed, refused_keeps, set_count, set_one, pairs_order}

pub set_given_when : SetGivenWhen
set_given_when = set_given

pub set_stores_it : SetStores
set_stores_it = set_stores

pub equal_is_accepted : EqualIsAccepted
equal_is_accepted = equal_accepted

pub refused_names_nearest : RefusedNamesNearest
refused_names_nearest = refused_names

pub set_keeps_allowed : SetKeepsAllowed
set_keeps_allowed = set_allowed

pub refused_keeps_it : RefusedKeeps
refused_keeps_it = refused_keeps

pub set_keeps_count : SetKeepsCount
set_keeps_count = set_count

pub set_changes_one : SetChangesOne
set_changes_one = set_one

pub factory_is_printed : FactoryIsPrinted
factory_is_printed = refl

pub factory_is_allowed : FactoryIsAllowed
unfolding allowed all_allowed
factory_is_allowed = up_to_all count _ (λ k h. allowed_both k _ _ (rows_hold k h).factory_in (rows_hold k h).factory_agrees)

pub pairs_have_an_order : PairsHaveAnOrder
pairs_have_an_order = pairs_order
