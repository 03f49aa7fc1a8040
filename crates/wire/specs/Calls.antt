-- What each public call answers, for every input. Document 01, "Numbers of refusal": "The order is 11, 12, then 1 to 10 as listed."
-- Assumes nothing.
use Rattle.std.specs.Prelude.{ℕ, ◌-◌, ◌/◌, ◌%◌, Bool, cond, Option, Some, None, Ok, Err, ◌&&◌, ◌||◌, List, [], length, take, drop, get_or, ltb, leb, eqb}
use Rattle.paper.specs.Numbers as paper
use Rattle.paper.specs.declared.Refusal.{Refusal}
use Rattle.laws.specs.Promise.{Given}
use Rattle.wire.specs.Digits.{digit, nibble, is_digit}
use Rattle.paper.specs.Numbers.{colon, newline, most_nibble, most_data, frame_room, short_buffer, not_allowed}
use Rattle.wire.specs.Frame.{frame}
use Rattle.wire.specs.Parsing.{Ended, good, refused, body_says}
use Rattle.wire.specs.declared.Pair.{Pair}
use Rattle.wire.specs.Answers.{Written, Read}

-- "data bytes as two digits each": both digits of a byte, the high nibble first
abbrev pub pair_of : ℕ → Pair
pair_of b = record { high = digit (b / 16); low = digit (b % 16) }

-- the nibble that a digit means, and none for any other character
abbrev pub nibble_of : ℕ → Option ℕ
nibble_of c = cond (is_digit c) (Some (nibble c)) None

-- The frame writer. "The frame writer refuses 11 (75 bytes), then 12 for a nibble over 15 or data over 35 bytes."

abbrev pub unwritten : Refusal → Given Written
unwritten refusal = record { answer = Err refusal; written = [] }

abbrev pub written_as : List ℕ → Given Written
written_as bytes = record { answer = Ok (length bytes); written = bytes }

unfoldable pub writing : ℕ → List ℕ → ℕ → Given Written
writing command bytes room =
    cond (ltb room frame_room) (unwritten short_buffer)
    (cond (ltb most_nibble command || ltb most_data (length bytes)) (unwritten not_allowed)
    (written_as (frame command bytes)))

-- The whole-frame reader. It refuses "11 if the data buffer is under 35 bytes; [..] then 2 if the slice has under 2 bytes, or does not
-- begin with a colon and end with a newline; then 1 to 4 on the bytes between. The data fill the front of the buffer only when 1 to 4 are
-- passed."

abbrev pub read_as : Ended → Given Read
read_as (good command bytes) = record { answer = Ok (record { command = command; len = length bytes }); written = bytes }
read_as (refused refusal) = record { answer = Err refusal; written = [] }

abbrev pub well_enclosed : List ℕ → Bool
well_enclosed slice = leb 2 (length slice) && (eqb (get_or slice 0 0) colon && eqb (get_or slice (length slice - 1) 0) newline)

abbrev pub between : List ℕ → List ℕ
between slice = take (length slice - 2) (drop 1 slice)

unfoldable pub whole_says : List ℕ → Ended
whole_says slice = cond (well_enclosed slice) (body_says (between slice)) (refused paper.no_digit)

unfoldable pub parsing : List ℕ → ℕ → Given Read
parsing slice room = cond (ltb room most_data) (read_as (refused short_buffer)) (read_as (whole_says slice))

-- The characters between colon and newline alone, as the stream has them: the same refusals but for the enclosing.
unfoldable pub parsing_chars : List ℕ → ℕ → Given Read
parsing_chars chars room = cond (ltb room most_data) (read_as (refused short_buffer)) (read_as (body_says chars))
