-- What each call answers, case by case: the laws by which the calls are proved and by which callers speak of them. Assumes nothing.
use mathlib.Core.Path.{◌≡◌, refl}
use mathlib.Core.Bool.{Bool, true, false, ◌&&◌}
use mathlib.Core.List.{List, []}
use Prim.Native.Nat.{ℕ, ◌≤◌, ◌<◌, ◌-◌}
use borrow.Author.Tests.{lt-ltb, le-ltb, leb-true, ltb-true, ltb-false}
use lib.ListN.{length, get_or}
use lib.Dec.{ltb, leb, eqb}
use Rattle.laws.proofs.Bools.{and_left}
use Rattle.laws.specs.Lists.{every}
use Rattle.wire.specs.Digits.{is_digit}
use Rattle.paper.specs.Numbers as paper
use Rattle.paper.specs.Numbers.{colon, newline}
use Rattle.wire.specs.Frame.{frame}
use Rattle.wire.specs.Parsing.{refused, good, body_says, broken_says, bad_count, sums_up, command_of, data_of}
use Rattle.wire.specs.Calls.{writing, written_as, parsing, read_as, whole_says, parsing_chars, well_enclosed, between}

-- the characters of a frame, in the order of the refusals
pub body_long : (chars : List ℕ) → 73 < length chars → body_says chars ≡ refused paper.too_long
unfolding body_says
body_long chars h = simp (lt-ltb 73 (length chars) h)

module _ (chars : List ℕ) (short : length chars ≤ 73) where
  pub body_strange : every is_digit chars ≡ false → body_says chars ≡ refused paper.no_digit
  unfolding body_says
  body_strange d = simp (le-ltb 73 (length chars) short, d)

  module _ (digits : every is_digit chars ≡ true) where
    pub body_count : bad_count (length chars) ≡ true → body_says chars ≡ refused paper.bad_count
    unfolding body_says
    body_count b = simp (le-ltb 73 (length chars) short, digits, b)

    module _ (count : bad_count (length chars) ≡ false) where
      pub body_sum : sums_up chars ≡ false → body_says chars ≡ refused paper.bad_sum
      unfolding body_says
      body_sum s = simp (le-ltb 73 (length chars) short, digits, count, s)

      pub body_good : sums_up chars ≡ true → body_says chars ≡ good (command_of chars) (data_of chars)
      unfolding body_says
      body_good s = simp (le-ltb 73 (length chars) short, digits, count, s)

pub broken_long : (count : ℕ) → 73 < count → broken_says count ≡ refused paper.too_long
unfolding broken_says
broken_long count h = simp (lt-ltb 73 count h)

pub broken_short : (count : ℕ) → count ≤ 73 → broken_says count ≡ refused paper.no_digit
unfolding broken_says
broken_short count h = simp (le-ltb 73 count h)

-- a broken frame has no data
pub broken_silent : (count : ℕ) → (read_as (broken_says count)).written ≡ []
broken_silent count = by (ltb 73 count) refl
  where
    by : (t : Bool) → ltb 73 count ≡ t → (read_as (broken_says count)).written ≡ []
    by true e = rw (broken_long count (ltb-true 73 count e))
    by false e = rw (broken_short count (ltb-false 73 count e))

-- the frame writer
pub writing_made : (command : ℕ) (bytes : List ℕ) (room : ℕ) → 75 ≤ room → command ≤ 15 → length bytes ≤ 35 → writing command bytes room ≡ written_as (frame command bytes)
unfolding writing
writing_made command bytes room enough k h = simp (le-ltb room 75 enough, le-ltb 15 command k, le-ltb 35 (length bytes) h)

-- the whole-frame reader
pub reading_short : (slice : List ℕ) (room : ℕ) → room < 35 → parsing slice room ≡ read_as (refused paper.short_buffer)
unfolding parsing
reading_short slice room h = simp (lt-ltb room 35 h)

pub reading_loose : (slice : List ℕ) (room : ℕ) → 35 ≤ room → well_enclosed slice ≡ false → parsing slice room ≡ read_as (refused paper.no_digit)
unfolding parsing whole_says
reading_loose slice room h e = simp (le-ltb room 35 h, e)

pub reading_between : (slice : List ℕ) (room : ℕ) → 35 ≤ room → well_enclosed slice ≡ true → parsing slice room ≡ read_as (body_says (between slice))
unfolding parsing whole_says
reading_between slice room h e = simp (le-ltb room 35 h, e)

pub enclosed_long : (slice : List ℕ) → well_enclosed slice ≡ true → 2 ≤ length slice
enclosed_long slice e =
    leb-true 2 (length slice) (and_left (leb 2 (length slice)) (eqb (get_or slice 0 0) colon && eqb (get_or slice (length slice - 1) 0) newline) e)

-- the reader of the characters alone
pub chars_read : (chars : List ℕ) (room : ℕ) → 35 ≤ room → parsing_chars chars room ≡ read_as (body_says chars)
unfolding parsing_chars
chars_read chars room h = simp (le-ltb room 35 h)
