-- Two answers that meet a call's own contract are the same. `Post` is what the call ensures, as its source states it. Assumes nothing.
use mathlib.Core.Path.{◌≡◌}
use mathlib.Core.Bool.{Bool}
use mathlib.Core.List.{List}
use Prim.Native.Nat.{ℕ}
use Rattle.laws.proofs.Promise.{equal_same}
use Rattle.settings.specs.declared.Setting.{Setting}
use Rattle.settings.specs.Answers.{Found, Number}
use Rattle.settings.proofs.find.Reads as find
use Rattle.settings.proofs.at.Reads as at
use Rattle.settings.proofs.setting_at.Reads as setting-at
use Rattle.settings.proofs.in_range.Reads as in_range_lem
use Rattle.settings.proofs.allows.Reads as allows
use Rattle.settings.proofs.nearest.Reads as nearest
use Rattle.settings.proofs.all_allowed.Reads as all_allowed_lem
use Rattle.settings.proofs.factory_numbers.Reads as factory-numbers

pub find_same : (id : ℕ) (r r' : Found) → find.Post tt (id, tt) r (id, tt) → find.Post tt (id, tt) r' (id, tt) → r ≡ r'
find_same id r r' met met' = equal_same met met'

pub at_same : (index : ℕ) (r r' : Found) → at.Post tt (index, tt) r (index, tt) → at.Post tt (index, tt) r' (index, tt) → r ≡ r'
at_same index r r' met met' = equal_same met met'

pub setting_at_same : (index : ℕ) (r r' : Setting) → setting-at.Post tt (index, tt) r (index, tt) → setting-at.Post tt (index, tt) r' (index, tt) → r ≡ r'
setting_at_same index r r' met met' = equal_same met met'

pub nearest_same : (id wished partner : ℕ) (r r' : Number) → nearest.Post tt (id, (wished, (partner, tt))) r (id, (wished, (partner, tt)))
    → nearest.Post tt (id, (wished, (partner, tt))) r' (id, (wished, (partner, tt))) → r ≡ r'
nearest_same id wished partner r r' met met' = equal_same met met'

pub in_range_same : (index number : ℕ) (r r' : Bool) → in_range_lem.Post tt (index, (number, tt)) r (index, (number, tt))
    → in_range_lem.Post tt (index, (number, tt)) r' (index, (number, tt)) → r ≡ r'
in_range_same index number r r' met met' = equal_same met met'

pub allows_same : (index number partner : ℕ) (r r' : Bool) → allows.Post tt (index, (number, (partner, tt))) r (index, (number, (partner, tt)))
    → allows.Post tt (index, (number, (partner, tt))) r' (index, (number, (partner, tt))) → r ≡ r'
allows_same index number partner r r' met met' = equal_same met met'

pub all_allowed_same : (numbers : List ℕ) (r r' : Bool) → all_allowed_lem.Post tt (numbers, tt) r (numbers, tt) → all_allowed_lem.Post tt (numbers, tt) r' (numbers, tt) → r ≡ r'
all_allowed_same numbers r r' met met' = equal_same met met'

pub factory_numbers_same : (r r' : List ℕ) → factory-numbers.Post tt tt r tt → factory-numbers.Post tt tt r' tt → r ≡ r'
factory_numbers_same r r' met met' = equal_same met met'
