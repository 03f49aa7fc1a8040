-- What the characters of an ended frame say: document 01, "Numbers of refusal", the first four. Assumes nothing.
use Rattle.std.specs.Prelude.{ℕ, ◌+◌, ◌-◌, ◌*◌, ◌%◌, Bool, cond, not, ◌||◌, List, [], ◌∷◌, length, drop, take, get_or, ltb, eqb}
use Rattle.paper.specs.Numbers as paper
use Rattle.paper.specs.declared.Refusal.{Refusal}
use Rattle.laws.specs.Lists.{every, sum_of}
use Rattle.wire.specs.Digits.{nibble, is_digit}
use Rattle.paper.specs.Numbers.{most_chars, frame_total}

-- what an ended frame says: a command with its data, or its refusal
pub data Ended : Type 0 where
  good : ℕ → List ℕ → Ended
  refused : Refusal → Ended

-- two digits are a byte, the high nibble first
abbrev pub bytes_of : List ℕ → List ℕ
bytes_of [] = []
bytes_of (x ∷ []) = []
bytes_of (x ∷ y ∷ rest) = (nibble x * 16 + nibble y) ∷ bytes_of rest

abbrev pub command_of : List ℕ → ℕ
command_of chars = nibble (get_or chars 0 0)

-- the data bytes with the check byte after them
abbrev pub payload_of : List ℕ → List ℕ
payload_of chars = bytes_of (drop 1 chars)

abbrev pub data_of : List ℕ → List ℕ
data_of chars = take (length (payload_of chars) - 1) (payload_of chars)

-- "under 3 characters, or an even count"
abbrev pub bad_count : ℕ → Bool
bad_count n = ltb n 3 || eqb (n % 2) 0

abbrev pub sums_up : List ℕ → Bool
sums_up chars = eqb ((command_of chars + sum_of (payload_of chars)) % 256) frame_total

-- ended by a newline, in the order of the paper's rows: 1 "over 73 characters in the frame", 2 "a character is no digit", 3 "under 3
-- characters, or an even count", 4 "sum is not 0x55"
unfoldable pub body_says : List ℕ → Ended
body_says chars =
    cond (ltb most_chars (length chars)) (refused paper.too_long)
    (cond (not (every is_digit chars)) (refused paper.no_digit)
    (cond (bad_count (length chars)) (refused paper.bad_count)
    (cond (not (sums_up chars)) (refused paper.bad_sum)
    (good (command_of chars) (data_of chars)))))

-- ended by a colon after this many characters: 2 "a colon broke it", after 1
unfoldable pub broken_says : ℕ → Ended
broken_says count = cond (ltb most_chars count) (refused paper.too_long) (refused paper.no_digit)
