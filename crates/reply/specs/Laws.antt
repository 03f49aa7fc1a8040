-- What is proved of the definitions, as statements to compare with the papers. Each is proved under its name in proofs/Theorems.antt.
-- Assumes nothing.
use Rattle.std.specs.Prelude.{ℕ, suc, ◌*◌, ◌^◌, ◌≤◌, ◌<◌, ◌≡◌, ◌≢◌, ◌↔◌, Bool, true, false, cond, ◌||◌, List, [], ◌∷◌, length, eqb, ℤ, pos, negsuc, Float, Some, None, Ok, Err}
use Rattle.std.proofs.Math.Option.{some}
use Rattle.std.specs.Int.Signed.{mag}
use Rattle.std.specs.Float.{binary64}
use Rattle.std.specs.Float.Ieee.{round}
use Rattle.paper.specs.Numbers as paper
use Rattle.endian.specs.Numbers.{little, from_little, signed, said}
use Rattle.laws.specs.Lists.{Bytes}
use Rattle.answers.specs.Answers.{sent}
use Rattle.answers.specs.Refusals.{id_in}
use Rattle.answers.specs.Calls.{answering}
use Rattle.answers.specs.declared.Core.{Core}
use Rattle.answers.specs.declared.Outcome.{Outcome}
use Rattle.who.specs.Values.{read_only}
use Rattle.who.specs.declared.Identity.{Identity}
use Rattle.who.specs.declared.Readings.{Readings}
use Rattle.reply.specs.Answers.{Parsed, Heeded, Showed}
use Rattle.reply.specs.Replies.{flag_of, rest}
use Rattle.reply.specs.Events.{answers}
use Rattle.reply.specs.Calls.{parsing, heeding, showing}
use Rattle.reply.specs.declared.Status.{Status}
use Rattle.reply.specs.declared.Reply.{Reply}
use Rattle.reply.specs.declared.Shown.{Shown}

-- 1. What a board says is read back. `said` is the board's own: an id, a flag and a value; the kind, the status, the id and the
-- value are those that were said.
pub record Heard (status : Status) (id : ℕ) (value : List ℕ) : Type 0 where
  pub get_heard : parsing paper.get_code (said id (flag_of status) value) ≡ Ok (Reply.Get status id)
  pub set_heard : parsing paper.set_code (said id (flag_of status) value) ≡ Ok (Reply.Set status id)
  pub async_heard : parsing paper.async_code (said id (flag_of status) value) ≡ Ok (Reply.Async status id)
  pub value_heard : rest (said id (flag_of status) value) ≡ value

abbrev pub SaidIsRead : Type 0
SaidIsRead = (status : Status) (id : ℕ) (value : List ℕ) → id < 256 ^ 2 → Heard status id value

abbrev pub DoneIsRead : Type 0
DoneIsRead = (bytes : List ℕ) → parsing paper.done_code bytes ≡ Ok Reply.Done

abbrev pub UnknownIsRead : Type 0
UnknownIsRead = (command : ℕ) → parsing paper.unknown_code (command ∷ []) ≡ Ok (Reply.Unknown command)

abbrev pub ErrorIsRead : Type 0
ErrorIsRead = (code : ℕ) → code < 256 ^ 2 → parsing paper.error_code (little 2 code) ≡ Ok (Reply.Error code)

abbrev pub PingIsRead : Type 0
PingIsRead = (version : ℕ) → version < 256 ^ 2 → parsing paper.pong_code (little 2 version) ≡ Ok (Reply.Ping version)

-- 2. Conversely, a reply fixes the frame that it was read from: its code, and its data, which for a Get, Set or Async reply are an id, a
-- flag and then the value, so the value is the rest of the data. Refusal 5 is of the code alone, and 6 of the data.
abbrev pub is_code : ℕ → Bool
is_code command = eqb command paper.done_code || eqb command paper.unknown_code || eqb command paper.error_code || eqb command paper.pong_code || eqb command paper.get_code || eqb command paper.set_code || eqb command paper.async_code

pub data From (command : ℕ) (bytes : List ℕ) : Parsed → Type 0 where
  a_done : command ≡ paper.done_code → From command bytes (Ok Reply.Done)
  an_unknown : {named : ℕ} → command ≡ paper.unknown_code → bytes ≡ named ∷ [] → From command bytes (Ok (Reply.Unknown named))
  an_error : {code : ℕ} → command ≡ paper.error_code → bytes ≡ little 2 code → From command bytes (Ok (Reply.Error code))
  a_ping : {version : ℕ} → command ≡ paper.pong_code → bytes ≡ little 2 version → From command bytes (Ok (Reply.Ping version))
  a_get : {status : Status} {id : ℕ} → command ≡ paper.get_code → bytes ≡ said id (flag_of status) (rest bytes) → From command bytes (Ok (Reply.Get status id))
  a_set : {status : Status} {id : ℕ} → command ≡ paper.set_code → bytes ≡ said id (flag_of status) (rest bytes) → From command bytes (Ok (Reply.Set status id))
  an_async : {status : Status} {id : ℕ} → command ≡ paper.async_code → bytes ≡ said id (flag_of status) (rest bytes) → From command bytes (Ok (Reply.Async status id))
  no_code : is_code command ≡ false → From command bytes (Err paper.unknown_command)
  no_data : is_code command ≡ true → From command bytes (Err paper.malformed)

abbrev pub ReadIsFrom : Type 0
ReadIsFrom = (command : ℕ) (bytes : List ℕ) → Bytes bytes → From command bytes (parsing command bytes)

-- the same of one kind at a time
pub record Told (status : Status) (id : ℕ) (bytes : List ℕ) : Type 0 where
  pub get_told : parsing paper.get_code bytes ≡ Ok (Reply.Get status id) → bytes ≡ said id (flag_of status) (rest bytes)
  pub set_told : parsing paper.set_code bytes ≡ Ok (Reply.Set status id) → bytes ≡ said id (flag_of status) (rest bytes)
  pub async_told : parsing paper.async_code bytes ≡ Ok (Reply.Async status id) → bytes ≡ said id (flag_of status) (rest bytes)

abbrev pub ReadIsSaid : Type 0
ReadIsSaid = (status : Status) (id : ℕ) (bytes : List ℕ) → Bytes bytes → Told status id bytes

-- 3. What a frame says to the request of a code and an id that is due, in bytes. Replies of three codes have a status: to a request of one of
-- these it is good exactly where the command is the code asked and the data are the id, flag 00 and a value; another status where the flag is
-- that status's; and none everywhere else, as to a request of another code: the box waits on.
abbrev pub has_status : ℕ → Bool
has_status code = eqb code paper.get_code || (eqb code paper.set_code || eqb code paper.async_code)

pub data Says (code id command : ℕ) (bytes : List ℕ) : Heeded → Type 0 where
  says_good : has_status code ≡ true → command ≡ code → bytes ≡ said id 0 (rest bytes) → Says code id command bytes (Some Status.Good)
  says_bad : {status : Status} → status ≢ Status.Good → has_status code ≡ true → command ≡ code → bytes ≡ said id (flag_of status) (rest bytes)
      → Says code id command bytes (Some status)
  says_nothing : ((status : Status) → has_status code ≡ true → command ≡ code → bytes ≢ said id (flag_of status) (rest bytes)) → Says code id command bytes None

abbrev pub HeedIsSaid : Type 0
HeedIsSaid = (code id command : ℕ) (bytes : List ℕ) → id < 256 ^ 2 → Bytes bytes → Says code id command bytes (heeding code id command bytes)

-- To a request of such a code a frame has a status exactly where it answers it, by the one test of its bytes that Events.antt has,
abbrev pub HeededIsAnswer : Type 0
HeededIsAnswer =
    (code id command : ℕ) (bytes : List ℕ) → has_status code ≡ true → id < 256 ^ 2 → Bytes bytes
    → (answers code id command bytes ≡ true) ↔ (heeding code id command bytes ≢ None)

-- and has the first three bytes, whatever the data are
abbrev pub HeededIsLong : Type 0
HeededIsLong = (code id command : ℕ) (bytes : List ℕ) → heeding code id command bytes ≢ None → 3 ≤ length bytes

-- 4. The status by which the box knows what became of a Get or a Set, from document 01's numbers of refusal and their flags: "A good Get or Set
-- answers its own code, id, flag 00, value"; 7 "flag 01", 8 "flag 02", 9 and 10 "flag 04".
pub data Flagged : Outcome → ℕ → Status → Type 0 where
  as_good : Flagged Outcome.Answered 0 Status.Good
  as_7 : Flagged (Outcome.Refused paper.unknown_id) 1 Status.UnknownId
  as_8 : Flagged (Outcome.Refused paper.read_only_id) 2 Status.NotSupported
  as_9 : Flagged (Outcome.Refused paper.wrong_width) 4 Status.ParameterError
  as_10 : Flagged (Outcome.Refused paper.number_not_allowed) 4 Status.ParameterError

-- the reply of a code
abbrev pub reply_of : ℕ → Status → ℕ → Reply
reply_of code status id = cond (eqb code paper.get_code) (Reply.Get status id) (cond (eqb code paper.set_code) (Reply.Set status id) (Reply.Async status id))

abbrev pub FlagIsRead : Type 0
FlagIsRead =
    (outcome : Outcome) (flag : ℕ) (status : Status) → Flagged outcome flag status → (code id : ℕ) (value : List ℕ) → has_status code ≡ true → id < 256 ^ 2
    → parsing code (said id flag value) ≡ Ok (reply_of code status id)

-- So in every reply of one of these codes that a board's answer to a frame has, the box reads the status of the outcome, and the id asked for.
pub record Known (request : List ℕ) (outcome : Outcome) (code : ℕ) (bytes : List ℕ) : Type 0 where
  pub flag : ℕ
  pub status : Status
  pub flagged : Flagged outcome flag status
  pub bytes_are : bytes ≡ said (id_in request) flag (rest bytes)
  pub read_as_lem : parsing code bytes ≡ Ok (reply_of code status (id_in request))

abbrev pub OutcomeIsRead : Type 0
OutcomeIsRead =
    (core : Core) (command : ℕ) (request : List ℕ) (code : ℕ) (bytes : List ℕ) → Bytes request → has_status code ≡ true
    → (answering core command request).reply ≡ sent code bytes → Known request (answering core command request).outcome code bytes

-- 5. A reading that a board sends is shown as the exact quotient of its whole number and the steps of the unit, "rounded by that one
-- division": to the nearest double, a tie to the even one, by `round` of the logic's Ieee, which takes a sign, a numerator and a denominator.
abbrev pub quotient : ℤ → ℕ → Float
quotient (pos n) steps = round binary64 false n steps
quotient (negsuc n) steps = round binary64 true (suc n) steps

-- Every id and every value: "Another id is refused 7, then a wrong width 9", each exactly then; else it is shown.
abbrev pub width_for : ℕ → ℕ
width_for id =
    cond (eqb id paper.voltage_id || (eqb id paper.current_id || eqb id paper.charge_id)) 2 (cond (eqb id paper.fine_id || eqb id paper.consumed_id) 4 0)

pub data Shows (id : ℕ) (value : List ℕ) : Showed → Type 0 where
  another_id : width_for id ≡ 0 → Shows id value (Err paper.unknown_id)
  wrong_width_lem : 0 < width_for id → length value ≢ width_for id → Shows id value (Err paper.wrong_width)
  in_volts_lem : id ≡ paper.voltage_id → length value ≡ 2 → Shows id value (Ok (Shown.Volts (quotient (signed 2 (from_little value)) 100)))
  in_amperes_lem : id ≡ paper.current_id → length value ≡ 2 → Shows id value (Ok (Shown.Amperes (quotient (signed 2 (from_little value)) 10)))
  in_fine_amperes_lem : id ≡ paper.fine_id → length value ≡ 4 → Shows id value (Ok (Shown.Amperes (quotient (signed 4 (from_little value)) 1000)))
  in_amp_hours_lem : id ≡ paper.consumed_id → length value ≡ 4 → Shows id value (Ok (Shown.AmpHours (quotient (signed 4 (from_little value)) 10)))
  in_percent_lem : id ≡ paper.charge_id → length value ≡ 2 → Shows id value (Ok (Shown.Percent (quotient (pos (from_little value)) 100)))

abbrev pub ShownExactly : Type 0
ShownExactly = (id : ℕ) (value : List ℕ) (answer : Showed) → Bytes value → (showing id value ≡ answer) ↔ Shows id value answer

-- So the box shows what the board measured: the value with which a board answers a Get of a reading, shown, is the number that it holds, in
-- steps of the unit. (`mag` is the distance to 0, or of a negative number to -1: twice it below 256 ^ 2 is any number of 16 bits with a sign.)
pub record Within (readings : Readings) : Type 0 where
  pub voltage_within : 2 * mag readings.voltage < 256 ^ 2
  pub current_within : 2 * mag readings.current < 256 ^ 2
  pub fine_within : 2 * mag readings.fine < 256 ^ 4
  pub consumed_within : 2 * mag readings.consumed < 256 ^ 4
  pub charge_within : readings.charge < 256 ^ 2

abbrev pub measured : Readings → ℕ → Showed
measured readings id =
    cond (eqb id paper.voltage_id) (Ok (Shown.Volts (quotient readings.voltage 100)))
    (cond (eqb id paper.current_id) (Ok (Shown.Amperes (quotient readings.current 10)))
    (cond (eqb id paper.fine_id) (Ok (Shown.Amperes (quotient readings.fine 1000)))
    (cond (eqb id paper.consumed_id) (Ok (Shown.AmpHours (quotient readings.consumed 10)))
    (cond (eqb id paper.charge_id) (Ok (Shown.Percent (quotient (pos readings.charge) 100)))
    (Err paper.unknown_id)))))

abbrev pub BoardIsShown : Type 0
BoardIsShown =
    (identity : Identity) (readings : Readings) → Within readings → (id : ℕ) (value : List ℕ) → read_only identity readings id ≡ some value
    → showing id value ≡ measured readings id
