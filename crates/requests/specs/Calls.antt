-- What each public call answers, for every input. Assumes nothing.
use Rattle.std.specs.Prelude.{ℕ, ◌^◌, Some, None, cond, ltb, eqb}
use Rattle.laws.specs.Promise.{Given}
use Rattle.paper.specs.Numbers.{frame_room, short_buffer, not_allowed, set_code}
use Rattle.wire.specs.Frame.{frame}
use Rattle.endian.specs.Numbers.{little, said}
use Rattle.wire.specs.Calls.{unwritten, written_as}
use Rattle.wire.specs.Answers.{Written}
use Rattle.settings.specs.Columns.{id_at}
use Rattle.settings.specs.Answers.{Found}
use Rattle.settings.specs.Calls.{placing}
use Rattle.settings.specs.declared.Setting.{Setting}
use Rattle.requests.specs.Requests.{get_request}
use Rattle.requests.specs.declared.Request.{Request}

-- a Get of an id, whatever it is: 11 under the room of the longest frame, as for every frame
unfoldable pub get_written : ℕ → ℕ → Given Written
get_written id room = cond (ltb room frame_room) (unwritten short_buffer) (written_as (get_request id))

-- a Set of what a look-up finds, where there is room: 12 where that is nothing or its width does not hold the number
abbrev pub set_of : Found → ℕ → Given Written
set_of None n = unwritten not_allowed
set_of (Some s) n = cond (ltb n (256 ^ s.width)) (written_as (frame set_code (said s.id 0 (little s.width n)))) (unwritten not_allowed)

unfoldable pub set_found : Found → ℕ → ℕ → Given Written
set_found found n room = cond (ltb room frame_room) (unwritten short_buffer) (set_of found n)

-- a Set of the setting at a place: 11, then 12 where there is none or its width does not hold the number; it is the request of
-- specs/Requests (the law SetIsRequest)
unfoldable pub set_written : ℕ → ℕ → ℕ → Given Written
set_written k n room = set_found (placing k) n room

-- the setting at the place of one that is handed in, and none where that place and the id do not belong together
unfoldable pub named : Setting → Found
named s = cond (eqb (id_at s.index) s.id) (placing s.index) None

-- either of them: what is asked of a board is of the id that the request names
unfoldable pub writing : Request → ℕ → Given Written
writing (Request.Get id) room = get_written id room
writing (Request.Set due) room = set_found (named due.setting) due.number room
