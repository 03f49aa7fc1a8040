-- What is proved of the definitions. Each is proved under its name in proofs/Theorems.antt. Assumes nothing.
use Rattle.std.specs.Prelude.{ℕ, ◌/◌, ◌%◌, ◌^◌, ◌≤◌, ◌<◌, ◌≡◌, Ok, Err, Bool, true, not, ◌&&◌, List, [], ◌∷◌, length, ltb, eqb}
use Rattle.std.proofs.Math.Option.{Option, none, some}
use Rattle.paper.specs.Numbers.{number_of}
use Rattle.paper.specs.declared.Refusal.{Refusal}
use Rattle.laws.specs.Promise.{Given}
use Rattle.laws.specs.Refusals.{Row, row, first_of}
use Rattle.wire.specs.Frame.{frame}
use Rattle.wire.specs.Answers.{Written}
use Rattle.settings.specs.Columns.{count, id_at, width_at}
use Rattle.requests.specs.Requests.{set_request}
use Rattle.settings.specs.declared.Setting.{Setting}
use Rattle.requests.specs.Calls.{get_written, set_written, writing}
use Rattle.requests.specs.declared.Request.{Request}

-- 1. Which refusal is given: its number is that of the first row whose condition holds, and none where no condition holds; under a
-- refusal no byte is written.
abbrev pub refusal_of : Written → Option ℕ
refusal_of (Ok len) = none
refusal_of (Err r) = some (number_of r)

pub record Refuses (given : Given Written) (rows : List Row) : Type 0 where
  pub number_is : refusal_of given.answer ≡ first_of rows
  pub none_written : (r : Refusal) → given.answer ≡ Err r → given.written ≡ []

-- 11: "lent buffer too short", which is under 75 bytes
abbrev pub is_short : ℕ → Row
is_short room = row 11 (ltb room 75)

-- 12: "a handed-in number, state or table is not allowed". It is allowed where there is a setting at the place and its width holds the number;
-- in a request the setting's place and id belong together besides, and a Get may be of any id.
abbrev pub is_fit : ℕ → ℕ → Bool
is_fit k n = ltb k count && ltb n (256 ^ width_at k)

abbrev pub is_fit_request : Request → Bool
is_fit_request (Request.Get id) = true
is_fit_request (Request.Set due) = eqb (id_at due.setting.index) due.setting.id && is_fit due.setting.index due.number

abbrev pub GetGivenWhen : Type 0
GetGivenWhen = (id room : ℕ) → Refuses (get_written id room) (is_short room ∷ [])

abbrev pub SetGivenWhen : Type 0
SetGivenWhen = (k n room : ℕ) → Refuses (set_written k n room) (is_short room ∷ row 12 (not (is_fit k n)) ∷ [])

abbrev pub WriteGivenWhen : Type 0
WriteGivenWhen = (request : Request) (room : ℕ) → Refuses (writing request room) (is_short room ∷ row 12 (not (is_fit_request request)) ∷ [])

-- 2. What is written with room: these bytes, and their number is the answer.
abbrev pub Writes : Given Written → List ℕ → Type 0
Writes given bytes = given ≡ record { answer = Ok (length bytes); written = bytes }

-- a Get of an id: code 7, the two bytes of the id, the low one first, and flags 00
abbrev pub get_frame : ℕ → List ℕ
get_frame id = frame 7 (id % 256 ∷ id / 256 ∷ 0 ∷ [])

abbrev pub GetIsRequest : Type 0
GetIsRequest = (id room : ℕ) → id < 256 ^ 2 → 75 ≤ room → Writes (get_written id room) (get_frame id)

abbrev pub RequestIsGet : Type 0
RequestIsGet = (id room : ℕ) → id < 256 ^ 2 → 75 ≤ room → Writes (writing (Request.Get id) room) (get_frame id)

-- a Set of a setting to a number that its width holds: the request that a board answers
abbrev pub SetIsRequest : Type 0
SetIsRequest = (k n room : ℕ) → k < count → n < 256 ^ width_at k → 75 ≤ room → Writes (set_written k n room) (set_request k n)

-- the same of a request for any setting whose place and id belong together, whatever else is in it; for any other it is 12 (WriteGivenWhen)
abbrev pub RequestIsSet : Type 0
RequestIsSet =
    (setting : Setting) (n room : ℕ) → setting.index < count → setting.id ≡ id_at setting.index → n < 256 ^ width_at setting.index → 75 ≤ room
    → Writes (writing (Request.Set (record { setting = setting; number = n })) room) (set_request setting.index n)
