-- The answer to a whole frame, from what a board is and holds, command and data. Document 01, "Numbers of refusal", rows 5 to 10 in their
-- order, and the two paragraphs below them. Assumes nothing.
use Rattle.std.specs.Prelude.{ℕ, Bool, cond, ◌&&◌, Some, None, Ok, Err, List, [], ◌∷◌, length, take, drop, get_or, eqb, ltb, leb}
use Rattle.std.proofs.Math.Option.{Option, none, some}
use Rattle.paper.specs.Numbers as paper
use Rattle.paper.specs.Numbers.{ping_code, version_code, product_code, restart_code, get_code, set_code, async_code}
use Rattle.settings.specs.Calls.{finding}
use Rattle.tables.specs.Calls.{set_to}
use Rattle.tables.specs.Rules.{allowed, number_at}
use Rattle.tables.specs.declared.Table.{Table}
use Rattle.settings.specs.declared.Setting.{Setting}
use Rattle.settings.specs.Answers.{Found}
use Rattle.tables.specs.Answers.{Answer}
use Rattle.paper.specs.declared.Refusal.{Refusal}
use Rattle.who.specs.Parts.{identity_allowed, no_readings}
use Rattle.endian.specs.Numbers.{little, from_little, said}
use Rattle.who.specs.Values.{read_only}
use Rattle.who.specs.declared.Readings.{Readings}
use Rattle.answers.specs.declared.Core.{Core}
use Rattle.answers.specs.declared.Outcome.{Outcome}

-- "A state handed in is allowed when its settings, identity and readings are": readings at the published widths always are.
unfoldable pub core_allowed : Core → Bool
core_allowed core = identity_allowed core.identity && allowed core.table

-- the same board with another table, and with other readings
abbrev pub with_table : Core → Table → Core
with_table core table = record { identity = core.identity; table = table; readings = core.readings }

abbrev pub with_readings : Core → Readings → Core
with_readings core readings = record { identity = core.identity; table = core.table; readings = readings }

-- what is sent in reply: nothing, a command with its data, or the error frame
pub data Sent : Type 0 where
  silent : Sent
  sent : ℕ → List ℕ → Sent
  error : Sent

-- what a board decides: the outcome, the reply, and what it is and holds afterwards
pub record Decision : Type 0 where
  pub outcome : Outcome
  pub reply : Sent
  pub core : Core

module _ (core : Core) where
  -- "On 1 to 10 the settings and readings stay."
  abbrev pub staying : Outcome → Sent → Decision
  staying outcome reply = record { outcome = outcome; reply = reply; core = core }

  -- the number that a setting holds, in its width
  abbrev pub now_held : Setting → List ℕ
  now_held s = little s.width (number_at core.table s.index)

  -- 5: "response 3, one data byte: the command"
  abbrev pub unknown_command : ℕ → Decision
  unknown_command command = staying (Outcome.Refused paper.unknown_command) (sent paper.unknown_code (command ∷ []))

  -- 6: "error frame"
  abbrev pub malformed : Decision
  malformed = staying (Outcome.Refused paper.malformed) error

  -- 7: "same command, id, flag 01, no value"
  abbrev pub unknown_id : ℕ → ℕ → Decision
  unknown_id command id = staying (Outcome.Refused paper.unknown_id) (sent command (said id paper.unknown_flag []))

  -- 8: "Set, id, flag 02, no value"
  abbrev pub not_supported : ℕ → Decision
  not_supported id = staying (Outcome.Refused paper.read_only_id) (sent set_code (said id paper.support_flag []))

  -- 9: "Set, id, flag 04, value now held"
  abbrev pub wrong_width : Setting → Decision
  wrong_width s = staying (Outcome.Refused paper.wrong_width) (sent set_code (said s.id paper.parameter_flag (now_held s)))

  -- 10: "Set, id, flag 04, nearest allowed number"
  abbrev pub refused_to : Setting → Refusal → ℕ → Decision
  refused_to s refusal nearest = staying (Outcome.Refused refusal) (sent set_code (said s.id paper.parameter_flag (little s.width nearest)))

  -- "A good Get or Set answers its own code, id, flag 00, value."
  abbrev pub good : ℕ → ℕ → List ℕ → Decision
  good command id value = staying Outcome.Answered (sent command (said id paper.good_flag value))

  -- "Ping (1) answers response 5, App version (3) response 1, each with the version; Product id (4) answers response 1 with the product."
  -- 6 with data
  unfoldable pub tells : ℕ → ℕ → List ℕ → Decision
  tells response number bytes = cond (eqb (length bytes) 0) (staying Outcome.Answered (sent response (little 2 number))) malformed

  -- a Get of an id that is no setting, and of any id
  abbrev pub gets_other : ℕ → Option (List ℕ) → Decision
  gets_other id (some value) = good get_code id value
  gets_other id none = unknown_id get_code id

  abbrev pub gets_found : ℕ → Found → Decision
  gets_found id (Some s) = good get_code s.id (now_held s)
  gets_found id None = gets_other id (read_only core.identity core.readings id)

  -- 6: "Get with other than 3 data bytes; [..] request flags not 0"
  unfoldable pub get_answer : List ℕ → Decision
  get_answer bytes =
      cond (eqb (length bytes) 3)
      (cond (eqb (get_or bytes 2 0) 0) (gets_found (from_little (take 2 bytes)) (finding (from_little (take 2 bytes)))) malformed)
      malformed

  -- a Set of an id that is no setting
  abbrev pub sets_other : ℕ → Option (List ℕ) → Decision
  sets_other id (some value) = not_supported id
  sets_other id none = unknown_id set_code id

-- A Set of a setting: what the table makes of the number, and the answer that goes with it.
abbrev pub stored : Core → Setting → ℕ → Answer → Decision
stored core s n (Ok accepted) = good core set_code s.id (little s.width n)
stored core s n (Err denied) = refused_to core s denied.refusal denied.nearest

module _ (core : Core) where
  -- "Restart (6) gives no reply, keeps the settings, sets all readings to 0 and is reported." 6 with data
  unfoldable pub restarts : List ℕ → Decision
  restarts bytes = cond (eqb (length bytes) 0) (staying (with_readings core no_readings) Outcome.Restarted silent) (malformed core)

  unfoldable pub sets_setting : Setting → List ℕ → Decision
  sets_setting s value =
      cond (eqb (length value) s.width)
      (let change = set_to core.table s.index (from_little value) in stored (with_table core change.table) s (from_little value) change.answer)
      (wrong_width core s)

  abbrev pub sets_found : ℕ → List ℕ → Found → Decision
  sets_found id value (Some s) = sets_setting s value
  sets_found id value None = sets_other core id (read_only core.identity core.readings id)

  -- 6: "Set with under 3; request flags not 0"
  unfoldable pub set_answer : List ℕ → Decision
  set_answer bytes =
      cond (ltb (length bytes) 3) (malformed core)
      (cond (eqb (get_or bytes 2 0) 0) (sets_found (from_little (take 2 bytes)) (drop 3 bytes) (finding (from_little (take 2 bytes)))) (malformed core))

  -- the answer to a whole frame. "Command A (Async) with a good sum is ignored: no reply, no number."
  unfoldable pub frame_answer : ℕ → List ℕ → Decision
  frame_answer command bytes =
      cond (eqb command ping_code) (tells core paper.pong_code core.identity.version bytes)
      (cond (eqb command version_code) (tells core paper.done_code core.identity.version bytes)
      (cond (eqb command product_code) (tells core paper.done_code core.identity.product bytes)
      (cond (eqb command restart_code) (restarts bytes)
      (cond (eqb command get_code) (get_answer core bytes)
      (cond (eqb command set_code) (set_answer bytes)
      (cond (eqb command async_code) (staying core Outcome.Ignored silent)
      (unknown_command core command)))))))

-- What a frame makes of a table: a complete, valid Set makes of it what the table makes of its number, and any other frame nothing.
abbrev pub makes_found : Table → List ℕ → Found → Table
makes_found table value (Some s) = cond (eqb (length value) s.width) (set_to table s.index (from_little value)).table table
makes_found table value None = table

unfoldable pub makes : Table → ℕ → List ℕ → Table
makes table command bytes =
    cond (eqb command set_code && (leb 3 (length bytes) && eqb (get_or bytes 2 0) 0))
    (makes_found table (drop 3 bytes) (finding (from_little (take 2 bytes))))
    table
