-- What is proved of the definitions, as statements that know nothing of how a line or a number is made. Each is proved under its name in
-- proofs/Theorems.antt. Assumes nothing.
use Rattle.std.specs.Prelude.{ℕ, ◌+◌, ◌*◌, ◌-◌, ◌≤◌, ◌<◌, ◌≡◌, ◌≢◌, Bool, true, cond, ◌&&◌, List, [], ◌∷◌, length, get_or, take, drop, leb, eqb}
use Rattle.laws.specs.Lists.{every, before}
use Rattle.lines.specs.Lines.{line_of, text_of}
use Rattle.lines.specs.Numbers.{decimal, pointed}
use Rattle.lines.specs.declared.Line.{Line}

-- 1. The line of a text has the first 160 characters of it, counts them, and has 0 in every place past them.
pub record IsLine (text : List ℕ) (line : Line) : Type 0 where
  pub text_is : text_of line ≡ take 160 text
  pub len_is : line.text.len ≡ length (take 160 text)
  pub room_is : length line.text.bytes ≡ 160
  pub zeros_are : every (eqb 0) (drop line.text.len line.text.bytes) ≡ true

abbrev pub LineIsText : Type 0
LineIsText = (text : List ℕ) → IsLine text (line_of text)

-- 2. Digits read back: from the left, ten times what is read so far and the next digit.
abbrev pub read_on : ℕ → List ℕ → ℕ
read_on n [] = n
read_on n (c ∷ cs) = read_on (n * 10 + (c - 48)) cs

abbrev pub is_digit : ℕ → Bool
is_digit c = leb 48 c && leb c 57

-- a number's digits: digits and nothing else, at least one, which read back as the number, the first of several not 0
pub record AreDigits (n : ℕ) (text : List ℕ) : Type 0 where
  pub digits_only : every is_digit text ≡ true
  pub not_empty : 0 < length text
  pub reads_back : read_on 0 text ≡ n
  pub none_leading : 1 < length text → get_or text 0 0 ≢ 48

abbrev pub DecimalIsRead : Type 0
DecimalIsRead = (n : ℕ) → n < 100000000000000000000 → AreDigits n (decimal n)

-- 3. A number of steps in its unit: with the point taken out it reads back as the number of steps; it begins with a digit, and the point
-- has as many digits after it as the unit has decimals. With no decimals there is no point.
abbrev pub point : ℕ
point = 46

abbrev pub without_point : List ℕ → List ℕ
without_point [] = []
without_point (c ∷ cs) = cond (eqb point c) cs (c ∷ without_point cs)

abbrev pub after_point : List ℕ → List ℕ
after_point [] = []
after_point (c ∷ cs) = cond (eqb point c) cs (after_point cs)

pub record ArePointed (n decimals : ℕ) (text : List ℕ) : Type 0 where
  pub digits_only : every is_digit (without_point text) ≡ true
  pub reads_back : read_on 0 (without_point text) ≡ n
  pub digit_first : 0 < before (eqb point) text
  pub none_leading : 1 < before (eqb point) text → get_or text 0 0 ≢ 48
  pub after_point_lem : length (after_point text) ≡ decimals
  pub no_point : decimals ≡ 0 → length (without_point text) ≡ length text

abbrev pub PointedIsRead : Type 0
PointedIsRead = (n decimals : ℕ) → n < 100000000000000000000 → decimals ≤ 3 → ArePointed n decimals (pointed n decimals)
