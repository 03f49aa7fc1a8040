-- What is proved of the packing. Each is proved under its name in proofs/Theorems.antt. Assumes nothing.
use Rattle.std.specs.Prelude.{ℕ, ◌-◌, ◌/◌, ◌%◌, ◌^◌, ◌<◌, ◌≡◌, Ok, Err, cond, List, [], ◌∷◌, get_or, eqb}
use Rattle.laws.specs.Promise.{Given}
use Rattle.paper.specs.Numbers.{too_long, no_digit, bad_count, bad_sum, unknown_command, malformed, unknown_id, read_only_id, wrong_width, number_not_allowed, short_buffer, not_allowed, other_header, bad_line, other_id, out_of_range, pair_disagrees, more_bytes, number_of}
use Rattle.paper.specs.declared.Refusal.{Refusal}
use Rattle.wire.specs.Calls.{writing, parsing}
use Rattle.wire.specs.Answers.{Written, Read}
use Rattle.settings.specs.Calls.{nearing}
use Rattle.settings.specs.Answers.{Number}
use Rattle.firmware.specs.Calls.{refusal_packed, writing_packed, parsing_packed, nearing_packed}

-- An integer taken apart, as the C header does it: no refusal where the high half is 0.
abbrev pub high : ℕ → ℕ
high n = n / 65536

abbrev pub low : ℕ → ℕ
low n = n % 65536

-- the refusal of a number: they are numbered from 1 on, in the paper's order
abbrev pub refusals : List Refusal
refusals =
    too_long ∷ no_digit ∷ bad_count ∷ bad_sum ∷ unknown_command ∷ malformed ∷ unknown_id ∷ read_only_id ∷ wrong_width ∷ number_not_allowed
    ∷ short_buffer ∷ not_allowed ∷ other_header ∷ bad_line ∷ other_id ∷ out_of_range ∷ pair_disagrees ∷ more_bytes ∷ []

abbrev pub refusal_from : ℕ → Refusal
refusal_from number = get_or refusals (number - 1) more_bytes

abbrev pub written_from : ℕ → Written
written_from n = cond (eqb (high n) 0) (Ok (low n)) (Err (refusal_from (high n)))

abbrev pub read_from : ℕ → Read
read_from n = cond (eqb (high n) 0) (Ok (record { command = low n / 256; len = low n % 256 })) (Err (refusal_from (high n)))

abbrev pub number_from : ℕ → Number
number_from n = cond (eqb (high n) 0) (Ok (low n)) (Err (refusal_from (high n)))

abbrev pub unpacked : {A : Type 0} → (ℕ → A) → Given ℕ → Given A
unpacked f given = record { answer = f given.answer; written = given.written }

-- Nothing is lost: with its integer taken apart, each call gives what the call of `wire` or `settings` gives, its answer and its bytes.
abbrev pub WrittenComesBack : Type 0
WrittenComesBack = (command : ℕ) (bytes : List ℕ) (room : ℕ) → unpacked written_from (writing_packed command bytes room) ≡ writing command bytes room

abbrev pub ReadComesBack : Type 0
ReadComesBack = (slice : List ℕ) (room : ℕ) → unpacked read_from (parsing_packed slice room) ≡ parsing slice room

-- (`wished` has 16 bits in C.)
abbrev pub NumberComesBack : Type 0
NumberComesBack = (id wished partner : ℕ) → wished < 2 ^ 16 → number_from (nearing_packed id wished partner) ≡ nearing id wished partner

-- The high half of a refusal's integer is the refusal's number: the look-up in `refusals` only turns it back into the refusal.
abbrev pub HighIsNumber : Type 0
HighIsNumber = (refusal : Refusal) → high (refusal_packed refusal) ≡ number_of refusal

-- "its low half is the answer, 0 under a refusal", as the C header says.
abbrev pub RefusedIsAlone : Type 0
RefusedIsAlone =
    (refusal : Refusal)
    → ((command : ℕ) (bytes : List ℕ) (room : ℕ) → (writing command bytes room).answer ≡ Err refusal → low (writing_packed command bytes room).answer ≡ 0)
    × ((slice : List ℕ) (room : ℕ) → (parsing slice room).answer ≡ Err refusal → low (parsing_packed slice room).answer ≡ 0)
    × ((id wished partner : ℕ) → nearing id wished partner ≡ Err refusal → low (nearing_packed id wished partner) ≡ 0)
