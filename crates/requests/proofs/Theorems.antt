-- The statements of specs/Laws.antt, proved. Assumes nothing.
use mathlib.Core.Path.{refl, sym, ap, ◌∙◌}
use mathlib.Core.Bool.{Bool, true, false, cond, not, ◌&&◌}
use mathlib.Core.List.{List, [], ◌∷◌}
use Prim.Native.Nat.{ℕ, ◌^◌}
use borrow.Author.Tests.{eq-eqb}
use lib.Dec.{ltb, eqb}
use Rattle.laws.specs.Refusals.{row}
use Rattle.wire.specs.Calls.{unwritten, written_as}
use Rattle.std.specs.Prelude.{Some, None}
use Rattle.paper.specs.Numbers.{short_buffer, not_allowed}
use Rattle.settings.specs.Calls.{setting_at, placing}
use Rattle.settings.specs.Columns.{count, id_at, width_at}
use Rattle.requests.specs.Requests.{get_request, set_request}
use Rattle.requests.specs.Calls.{get_written, set_of, set_found, set_written, named, writing}
use Rattle.requests.specs.Laws.{Refuses, is_short, is_fit, GetGivenWhen, SetGivenWhen, WriteGivenWhen, GetIsRequest, RequestIsGet, SetIsRequest, RequestIsSet}
use Rattle.requests.specs.declared.Request.{Request}
use Rattle.requests.proofs.Asking.{get_made, get_bytes, set_request_lem}

-- 11, then 12, then the bytes
by_rows : (short there held : Bool) (bytes : List ℕ)
    → Refuses (cond short (unwritten short_buffer) (cond there (cond held (written_as bytes) (unwritten not_allowed)) (unwritten not_allowed))) (row 11 short ∷ row 12 (not (there && held)) ∷ [])
by_rows true there held bytes = record { number_is = refl; none_written = λ r e. refl }
by_rows false true true bytes = record { number_is = refl; none_written = λ r e. cc }
by_rows false true false bytes = record { number_is = refl; none_written = λ r e. refl }
by_rows false false held bytes = record { number_is = refl; none_written = λ r e. refl }

get_rows : (id room : ℕ) → Refuses (get_written id room) (is_short room ∷ row 12 false ∷ [])
unfolding get_written
get_rows id room = by_rows (ltb room 75) true true (get_request id)

pub get_given_when : GetGivenWhen
get_given_when id room = record { number_is = (get_rows id room).number_is; none_written = (get_rows id room).none_written }

pub set_given_when : SetGivenWhen
unfolding set_written set_found placing
set_given_when k n room = by (ltb k count)
  where
    by : (there : Bool) → Refuses (cond (ltb room 75) (unwritten short_buffer) (set_of (cond there (Some (setting_at k)) None) n))
        (is_short room ∷ row 12 (not (there && ltb n (256 ^ width_at k))) ∷ [])
    by true = by_rows (ltb room 75) true (ltb n (256 ^ width_at k)) (set_request k n)
    by false = by_rows (ltb room 75) false true []

pub write_given_when : WriteGivenWhen
unfolding writing named set_found set_written placing
write_given_when (Request.Get id) room = get_rows id room
write_given_when (Request.Set due) room = by (eqb (id_at due.setting.index) due.setting.id)
  where
    by : (b : Bool) → Refuses (set_found (cond b (placing due.setting.index) None) due.number room) (is_short room ∷ row 12 (not (b && is_fit due.setting.index due.number)) ∷ [])
    by true = set_given_when due.setting.index due.number room
    by false = by_rows (ltb room 75) false true []

pub get_is_request : GetIsRequest
get_is_request id room small enough = get_made id room enough ∙ ap written_as (get_bytes id small)

pub request_is_get : RequestIsGet
unfolding writing
request_is_get = get_is_request

pub set_is_request : SetIsRequest
set_is_request = set_request_lem

pub request_is_set : RequestIsSet
unfolding writing named set_written
request_is_set setting n room h is w enough = rw (eq-eqb (id_at setting.index) setting.id (sym is)) (set_is_request setting.index n room h w enough)
