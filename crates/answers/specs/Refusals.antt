-- Document 01, "Numbers of refusal": rows 5 to 10, each with its condition alone, no other number in it; and the reply that goes with each
-- outcome. Nothing here is the definition that the code is proved equal to (Answers.antt). Assumes nothing.
use Rattle.std.specs.Prelude.{ℕ, ◌<◌, ◌≡◌, Bool, true, not, ◌&&◌, ◌||◌, List, [], ◌∷◌, length, take, drop, get_or, eqb, ltb, leb}
use Rattle.std.proofs.Math.Option.{Option, none, some}
use Rattle.paper.specs.Numbers as paper
use Rattle.laws.specs.Refusals.{Row, row}
use Rattle.settings.specs.Columns.{count, ids, id_at, width_at, place_of}
use Rattle.settings.specs.Rules.{allowed_for, Nearest}
use Rattle.tables.specs.Rules.{number_at, partner_number, changed}
use Rattle.endian.specs.Numbers.{little, from_little, said}
use Rattle.who.specs.Parts.{no_readings}
use Rattle.who.specs.Values.{read_only_ids, among}
use Rattle.who.specs.Laws.{Holds}
use Rattle.answers.specs.Answers.{with_table, with_readings, Sent, silent, sent, error}
use Rattle.answers.specs.declared.Core.{Core}
use Rattle.answers.specs.declared.Outcome.{Outcome}

-- the commands Get and Set; the id that their data name, and the value after id and flags
abbrev pub is_get_or_set : ℕ → Bool
is_get_or_set command = eqb command 7 || eqb command 8

abbrev pub id_in : List ℕ → ℕ
id_in bytes = from_little (take 2 bytes)

abbrev pub value_in : List ℕ → List ℕ
value_in bytes = drop 3 bytes

-- "either table below"
unfoldable pub is_setting : ℕ → Bool
is_setting id = among id ids

unfoldable pub is_read_only : ℕ → Bool
is_read_only id = among id read_only_ids

-- 5: "command 0, 2, 5, 9, B to F" (no frame has one above F; handed to the call as a number, it gives 5 too)
abbrev pub command_unknown : ℕ → Bool
command_unknown command = among command (0 ∷ 2 ∷ 5 ∷ 9 ∷ []) || leb 0xB command

-- 6: "Ping, App version, Product id or Restart with data; Get with other than 3 data bytes; Set with under 3; request flags not 0"
abbrev pub is_malformed : ℕ → List ℕ → Bool
is_malformed command bytes =
    (among command (1 ∷ 3 ∷ 4 ∷ 6 ∷ []) && not (eqb (length bytes) 0))
    || (eqb command 7 && not (eqb (length bytes) 3))
    || (eqb command 8 && ltb (length bytes) 3)
    || (is_get_or_set command && not (eqb (get_or bytes 2 0) 0))

-- 7: "id not in either table below"
abbrev pub id_unknown : ℕ → List ℕ → Bool
id_unknown command bytes = is_get_or_set command && not (is_setting (id_in bytes) || is_read_only (id_in bytes))

-- 8: "Set of a read-only id"
abbrev pub sets_read_only : ℕ → List ℕ → Bool
sets_read_only command bytes = eqb command 8 && is_read_only (id_in bytes)

-- 9: "Set of a setting, wrong value width"
abbrev pub width_wrong : ℕ → List ℕ → Bool
width_wrong command bytes = eqb command 8 && is_setting (id_in bytes) && not (eqb (length (value_in bytes)) (width_at (place_of (id_in bytes))))

-- 10: "number not allowed"
abbrev pub number_wrong : Core → ℕ → List ℕ → Bool
number_wrong core command bytes =
    let k = place_of (id_in bytes) in
    eqb command 8 && is_setting (id_in bytes) && not (allowed_for k (from_little (value_in bytes)) (partner_number core.table k))

-- "as listed"
abbrev pub rows : Core → ℕ → List ℕ → List Row
rows core command bytes =
    row 5 (command_unknown command)
    ∷ row 6 (is_malformed command bytes)
    ∷ row 7 (id_unknown command bytes)
    ∷ row 8 (sets_read_only command bytes)
    ∷ row 9 (width_wrong command bytes)
    ∷ row 10 (number_wrong core command bytes)
    ∷ []

-- the number that was given
abbrev pub number_of : Outcome → Option ℕ
number_of Outcome.Nothing = none
number_of Outcome.Answered = none
number_of Outcome.Restarted = none
number_of Outcome.Ignored = none
number_of (Outcome.Refused refusal) = some (paper.number_of refusal)

-- The outcome, the reply and the board afterwards belong together: what a board with this core says of a whole frame.
pub data Told (core : Core) (command : ℕ) (bytes : List ℕ) : Outcome → Sent → Core → Type 0 where
  -- "Ping (1) answers response 5, App version (3) response 1, each with the version; Product id (4) answers response 1 with the product."
  a_ping : command ≡ 1 → Told core command bytes Outcome.Answered (sent 5 (little 2 core.identity.version)) core
  a_version : command ≡ 3 → Told core command bytes Outcome.Answered (sent 1 (little 2 core.identity.version)) core
  a_product : command ≡ 4 → Told core command bytes Outcome.Answered (sent 1 (little 2 core.identity.product)) core
  -- "Restart (6) gives no reply, keeps the settings, sets all readings to 0 and is reported."
  a_restart : command ≡ 6 → Told core command bytes Outcome.Restarted silent (with_readings core no_readings)
  -- "Command A (Async) with a good sum is ignored: no reply, no number."
  an_async : command ≡ 0xA → Told core command bytes Outcome.Ignored silent core
  -- "A good Get or Set answers its own code, id, flag 00, value."
  a_get : command ≡ 7 → (k : ℕ) → k < count → id_at k ≡ id_in bytes
      → Told core command bytes Outcome.Answered (sent 7 (said (id_at k) 0 (little (width_at k) (number_at core.table k)))) core
  a_get_read_only : command ≡ 7 → (value : List ℕ) → Holds core.identity core.readings (id_in bytes) value
      → Told core command bytes Outcome.Answered (sent 7 (said (id_in bytes) 0 value)) core
  a_set : command ≡ 8 → (k n : ℕ) → k < count → id_at k ≡ id_in bytes → n ≡ from_little (value_in bytes)
      → Told core command bytes Outcome.Answered (sent 8 (said (id_at k) 0 (little (width_at k) n))) (with_table core (changed core.table k n))
  -- 5: "response 3, one data byte: the command"
  row_5 : Told core command bytes (Outcome.Refused paper.unknown_command) (sent 3 (command ∷ [])) core
  -- 6: "error frame"
  row_6 : Told core command bytes (Outcome.Refused paper.malformed) error core
  -- 7: "same command, id, flag 01, no value"
  row_7 : is_get_or_set command ≡ true → Told core command bytes (Outcome.Refused paper.unknown_id) (sent command (said (id_in bytes) 1 [])) core
  -- 8: "Set, id, flag 02, no value"
  row_8 : Told core command bytes (Outcome.Refused paper.read_only_id) (sent 8 (said (id_in bytes) 2 [])) core
  -- 9: "Set, id, flag 04, value now held"
  row_9 : (k : ℕ) → k < count → id_at k ≡ id_in bytes
      → Told core command bytes (Outcome.Refused paper.wrong_width) (sent 8 (said (id_at k) 4 (little (width_at k) (number_at core.table k)))) core
  -- 10: "Set, id, flag 04, nearest allowed number"
  row_10 : (k m : ℕ) → k < count → id_at k ≡ id_in bytes → Nearest k (from_little (value_in bytes)) (partner_number core.table k) m
      → Told core command bytes (Outcome.Refused paper.number_not_allowed) (sent 8 (said (id_at k) 4 (little (width_at k) m))) core
  -- 12: "none"
  row_12 : Told core command bytes (Outcome.Refused paper.not_allowed) silent core
