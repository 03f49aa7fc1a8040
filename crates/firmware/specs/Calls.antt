-- Answers as one integer. Document 01: "Whole-frame reading, frame writing and the nearest allowed number can be called from the board's C
-- firmware, on numbers and byte slices." A refusal's number is in the high half and an answer in the low half. Assumes nothing.
use Rattle.std.specs.Prelude.{ℕ, ◌+◌, ◌*◌, Ok, Err, List}
use Rattle.laws.specs.Promise.{Given}
use Rattle.paper.specs.Numbers.{number_of}
use Rattle.paper.specs.declared.Refusal.{Refusal}
use Rattle.wire.specs.Calls.{writing, parsing}
use Rattle.wire.specs.Answers.{Written, Read}
use Rattle.settings.specs.Calls.{nearing}
use Rattle.settings.specs.Answers.{Number}

abbrev pub half : ℕ
half = 65536

abbrev pub refusal_packed : Refusal → ℕ
refusal_packed refusal = half * number_of refusal

-- a frame written: its length
unfoldable pub written_packed : Written → ℕ
written_packed (Ok len) = len
written_packed (Err refusal) = refusal_packed refusal

-- a frame read: its command above the count of its data bytes
unfoldable pub read_packed : Read → ℕ
read_packed (Ok frame) = 256 * frame.command + frame.len
read_packed (Err refusal) = refusal_packed refusal

-- a number
unfoldable pub number_packed : Number → ℕ
number_packed (Ok n) = n
number_packed (Err refusal) = refusal_packed refusal

-- what a call gives, with its answer packed: the bytes written stay the same
abbrev pub packed : {A : Type 0} → (A → ℕ) → Given A → Given ℕ
packed f given = record { answer = f given.answer; written = given.written }

-- The three calls.
abbrev pub writing_packed : ℕ → List ℕ → ℕ → Given ℕ
writing_packed command bytes room = packed written_packed (writing command bytes room)

abbrev pub parsing_packed : List ℕ → ℕ → Given ℕ
parsing_packed slice room = packed read_packed (parsing slice room)

abbrev pub nearing_packed : ℕ → ℕ → ℕ → ℕ
nearing_packed id wished partner = number_packed (nearing id wished partner)
