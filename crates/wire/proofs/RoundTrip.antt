-- The frame writer and the reading of a frame undo each other. Assumes nothing.
use mathlib.Core.Path.{◌≡◌, refl, sym, ap, ap₂, ◌∙◌}
use mathlib.Core.Bool.{Bool, true, false, ◌&&◌, false≢true}
use mathlib.Core.List.{List, [], ◌∷◌, ◌++◌}
use Prim.Native.Nat.{ℕ, suc, ◌+◌, ◌*◌, ◌/◌, ◌%◌, ◌-◌, ◌≤◌, ◌<◌}
use native.Mathlib.Omega.{arith}
use borrow.Author.Tests.{lt-ltb, le-ltb, le-leb, eq-eqb, ne_eqb, ltb-true, ltb-false, eqb-true}
use lib.ListN.{length, take, drop, get_or, length-append, drop_of_length-le}
use lib.Seq.{take-append_seam, get_or-append_seam, split_at}
use lib.Dec.{ltb, leb, eqb}
use Rattle.laws.specs.Lists.{every, sum_of, Bytes}
use Rattle.laws.proofs.Bools.{and_left, and_right}
use Rattle.laws.proofs.Lists.{every_at, every_take, every_append, sum_append, up_to_at}
use Rattle.wire.specs.Digits.{digit, nibble, is_digit}
use Rattle.paper.specs.Numbers as paper
use Rattle.paper.specs.Numbers.{colon, newline, frame_total}
use Rattle.wire.specs.Frame.{check, digits_of, body, frame}
use Rattle.wire.specs.Parsing.{Ended, good, refused, bytes_of, command_of, payload_of, data_of, bad_count, sums_up, body_says}
use Rattle.wire.specs.Calls.{between, well_enclosed, parsing, parsing_chars, read_as, whole_says, writing, written_as}
use Rattle.wire.specs.Laws.{hex, DigitsAreTwo, SaidIsFrame}
use Rattle.paper.specs.declared.Refusal.{Refusal}
use Rattle.wire.specs.declared.Frame.{Frame}
use Rattle.wire.proofs.Nibbles.{nibble_digit, digit_nibble, digit_is_digit, nibble_at_lem}
use Rattle.wire.proofs.Bytes.{length_bytes_of, length_data, odd_count}
use Rattle.wire.proofs.Frames.{check_sums, check_only, check_byte, length_body}
use Rattle.wire.proofs.Answers.{body_long, body_strange, body_count, body_sum, body_good, enclosed_long, reading_short, reading_loose, reading_between, writing_made}

-- What the writer makes.

-- two digits of a byte are read as that byte
pub bytes_digits : (bytes : List ℕ) → every (λ b. ltb b 256) bytes ≡ true → bytes_of (digits_of bytes) ≡ bytes
bytes_digits [] e = refl
bytes_digits (b ∷ bs) e =
    let small : b < 256 = ltb-true b 256 (and_left _ (every (λ x. ltb x 256) bs) e) in
    rw (nibble_digit (b / 16) (omega arith), nibble_digit (b % 16) (omega arith), bytes_digits bs (and_right (ltb b 256) _ e))
    (ap (λ (n : ℕ). n ∷ bs) (omega arith))

-- all of them are digits, and stay in their frame
pub digits_all : (p : ℕ → Bool) → ((n : ℕ) → n < 16 → p (digit n) ≡ true) → (bytes : List ℕ) → every (λ b. ltb b 256) bytes ≡ true → every p (digits_of bytes) ≡ true
digits_all p holds [] e = refl
digits_all p holds (b ∷ bs) e =
    let small : b < 256 = ltb-true b 256 (and_left _ (every (λ x. ltb x 256) bs) e) in
    rw (holds (b / 16) (omega arith), holds (b % 16) (omega arith), digits_all p holds bs (and_right (ltb b 256) _ e))

module _ (command : ℕ) (bytes : List ℕ) (nib : command ≤ 15) (few : length bytes ≤ 35) (small : every (λ b. ltb b 256) bytes ≡ true) where
  with_check : every (λ b. ltb b 256) (bytes ++ check command bytes ∷ []) ≡ true
  with_check = rw (every_append, small, lt-ltb (check command bytes) 256 (check_byte command bytes))

  pub body_all : (p : ℕ → Bool) → ((n : ℕ) → n < 16 → p (digit n) ≡ true) → every p (body command bytes) ≡ true
  unfolding body
  body_all p holds = rw (holds command (omega arith), digits_all p holds (bytes ++ check command bytes ∷ []) with_check)

  command_back : command_of (body command bytes) ≡ command
  unfolding body
  command_back = nibble_digit command (omega arith)

  payload_back : payload_of (body command bytes) ≡ bytes ++ check command bytes ∷ []
  unfolding body
  payload_back = bytes_digits (bytes ++ check command bytes ∷ []) with_check

  data_back : data_of (body command bytes) ≡ bytes
  data_back =
      let all : length bytes + 1 - 1 ≡ length bytes = omega arith in
      rw (payload_back, length-append, all) (take-append_seam bytes (check command bytes ∷ []))

  sums_back : sums_up (body command bytes) ≡ true
  sums_back =
      let all : (command + (sum_of bytes + (check command bytes + 0))) % 256 ≡ frame_total = omega (arith, check_sums command bytes) in
      rw (command_back, payload_back, sum_append) (eq-eqb _ frame_total all)

  count_back : bad_count (length (body command bytes)) ≡ false
  count_back = rw length_body (simp (le-ltb (2 * length bytes + 3) 3 (omega arith), ne_eqb ((2 * length bytes + 3) % 2) 0 (omega arith)))

  pub body_says_lem : body_says (body command bytes) ≡ good command bytes
  body_says_lem =
      body_good (body command bytes) (rw length_body (omega arith)) (body_all is_digit digit_is_digit) count_back sums_back
      ∙ ap₂ good command_back data_back

-- the digits as they are written out
pub digit_hex : (n : ℕ) → n < 16 → digit n ≡ hex n
unfolding digit
digit_hex n h = eqb-true (digit n) (hex n) (up_to_at 16 (λ i. eqb (digit i) (hex i)) refl n h)

pub digits_two : DigitsAreTwo
digits_two b bytes h =
    let high : digit (b / 16) ≡ hex (b / 16) = digit_hex (b / 16) (omega arith) in
    let low : digit (b % 16) ≡ hex (b % 16) = digit_hex (b % 16) (omega arith) in
    (ap₂ (λ (x y : ℕ). x ∷ y ∷ digits_of bytes) high low, ap₂ (λ (x y : ℕ). record { high = x; low = y }) high low)

-- Characters between a colon and a newline, and back.

pub enclosed_well : (chars : List ℕ) → well_enclosed (colon ∷ chars ++ newline ∷ []) ≡ true
enclosed_well chars =
    let count : length (chars ++ newline ∷ []) ≡ length chars + 1 = length-append chars (newline ∷ []) in
    let last : suc (length (chars ++ newline ∷ [])) - 1 ≡ suc (length chars) = omega arith in
    let long : 2 ≤ suc (length (chars ++ newline ∷ [])) = omega arith in
    rw (last, le-leb 2 (suc (length (chars ++ newline ∷ []))) long, get_or-append_seam chars newline [] 0)

pub between_enclosed : (chars : List ℕ) → between (colon ∷ chars ++ newline ∷ []) ≡ chars
between_enclosed chars =
    let count : length (chars ++ newline ∷ []) ≡ length chars + 1 = length-append chars (newline ∷ []) in
    let all : suc (length (chars ++ newline ∷ [])) - 2 ≡ length chars = omega arith in
    rw all (take-append_seam chars (newline ∷ []))

pub well_enclosed_lem : (slice : List ℕ) → well_enclosed slice ≡ true → slice ≡ colon ∷ between slice ++ newline ∷ []
well_enclosed_lem [] e = absurd (false≢true e)
well_enclosed_lem (x ∷ rest) e =
    let m : ℕ = length rest - 1 in
    let long : 2 ≤ suc (length rest) = enclosed_long (x ∷ rest) e in
    let ends : (eqb x colon && eqb (get_or (x ∷ rest) (suc (length rest) - 1) 0) newline) ≡ true = and_right (leb 2 (suc (length rest))) _ e in
    let first : x ≡ colon = eqb-true x colon (and_left _ (eqb (get_or (x ∷ rest) (suc (length rest) - 1) 0) newline) ends) in
    let place : suc (length rest) - 1 ≡ suc m = omega arith in
    let last : get_or rest m 0 ≡ newline = eqb-true _ newline (rw place at (and_right (eqb x colon) _ ends)) in
    let here : m < length rest = omega arith in
    let none : drop (suc m) rest ≡ [] = drop_of_length-le rest {i = suc m} (omega arith) in
    let front : suc (length rest) - 2 ≡ m = omega arith in
    let split : rest ≡ take m rest ++ newline ∷ [] = rw (last, none) at (split_at rest m 0 here) in
    rw front (ap₂ (λ (y : ℕ) (ys : List ℕ). y ∷ ys) first split)

-- so the characters alone are read as the slice that they fill
pub chars_whole : (chars : List ℕ) (room : ℕ) → parsing_chars chars room ≡ parsing (colon ∷ chars ++ newline ∷ []) room
unfolding parsing_chars parsing whole_says
chars_whole chars room = rw (enclosed_well chars, between_enclosed chars)

pub frame_says : (command : ℕ) (bytes : List ℕ) → command ≤ 15 → length bytes ≤ 35 → Bytes bytes → (room : ℕ) → 35 ≤ room
    → parsing (frame command bytes) room ≡ read_as (good command bytes)
unfolding frame
frame_says command bytes nib few small room h =
    reading_between (frame command bytes) room h (enclosed_well (body command bytes))
    ∙ ap read_as (ap body_says (between_enclosed (body command bytes)) ∙ body_says_lem command bytes nib few small.below)

-- What is read whole.

pub record Said (chars : List ℕ) (command : ℕ) (bytes : List ℕ) : Type 0 where
  pub short : length chars ≤ 73
  pub digits : every is_digit chars ≡ true
  pub count : bad_count (length chars) ≡ false
  pub sums : sums_up chars ≡ true
  pub command_is : command_of chars ≡ command
  pub bytes_are : data_of chars ≡ bytes

never : {A : Type 0} {e : Ended} {r : Refusal} {c : ℕ} {bs : List ℕ} → e ≡ refused r → e ≡ good c bs → A
never {A} p q = let impossible : ⊥ = cc in absurd impossible

pub said : (chars : List ℕ) (command : ℕ) (bytes : List ℕ) → body_says chars ≡ good command bytes → Said chars command bytes
said chars command bytes e = by (ltb 73 (length chars)) (every is_digit chars) (bad_count (length chars)) (sums_up chars) refl refl refl refl
  where
    by : (a b c d : Bool) → ltb 73 (length chars) ≡ a → every is_digit chars ≡ b → bad_count (length chars) ≡ c → sums_up chars ≡ d → Said chars command bytes
    by true b c d p q r s = never (body_long chars (ltb-true 73 _ p)) e
    by false false c d p q r s = never (body_strange chars (ltb-false 73 _ p) q) e
    by false true true d p q r s = never (body_count chars (ltb-false 73 _ p) q r) e
    by false true false false p q r s = never (body_sum chars (ltb-false 73 _ p) q r s) e
    by false true false true p q r s =
        let is : good (command_of chars) (data_of chars) ≡ good command bytes = sym (body_good chars (ltb-false 73 _ p) q r s) ∙ e in
        record { short = ltb-false 73 _ p; digits = q; count = r; sums = s; command_is = cc; bytes_are = cc }

-- two digits in front
module _ (x y : ℕ) (rest : List ℕ) (e : every is_digit (x ∷ y ∷ rest) ≡ true) where
  two_first : nibble x < 16
  two_first = ltb-true (nibble x) 16 (and_left _ (every is_digit (y ∷ rest)) e)

  two_second : nibble y < 16
  two_second = ltb-true (nibble y) 16 (and_left _ (every is_digit rest) (and_right (is_digit x) _ e))

  two_rest : every is_digit rest ≡ true
  two_rest = and_right (is_digit y) _ (and_right (is_digit x) _ e)

-- an even number of digits is made of the digits of the bytes that they are read as
pub digits_bytes : (chars : List ℕ) → every is_digit chars ≡ true → length chars % 2 ≡ 0 → digits_of (bytes_of chars) ≡ chars
digits_bytes [] e h = refl
digits_bytes (x ∷ []) e h = absurd (omega arith)
digits_bytes (x ∷ y ∷ rest) e h =
    let one : nibble x < 16 = two_first x y rest e in
    let two : nibble y < 16 = two_second x y rest e in
    let high : (nibble x * 16 + nibble y) / 16 ≡ nibble x = omega arith in
    let low : (nibble x * 16 + nibble y) % 16 ≡ nibble y = omega arith in
    rw (high, low, digit_nibble x one, digit_nibble y two, digits_bytes rest (two_rest x y rest e) (omega arith))

pub bytes_small : (chars : List ℕ) → every is_digit chars ≡ true → every (λ b. ltb b 256) (bytes_of chars) ≡ true
bytes_small [] e = refl
bytes_small (x ∷ []) e = refl
bytes_small (x ∷ y ∷ rest) e =
    let one : nibble x < 16 = two_first x y rest e in
    let two : nibble y < 16 = two_second x y rest e in
    rw (lt-ltb (nibble x * 16 + nibble y) 256 (omega arith)) (bytes_small rest (two_rest x y rest e))

-- the payload is the data and one byte after them
last_behind : (l : List ℕ) → 0 < length l → l ≡ take (length l - 1) l ++ get_or l (length l - 1) 0 ∷ []
last_behind l h =
    let here : length l - 1 < length l = omega arith in
    let none : drop (suc (length l - 1)) l ≡ [] = drop_of_length-le l {i = suc (length l - 1)} (omega arith) in
    rw none at (split_at l (length l - 1) 0 here)

pub said_body : (chars : List ℕ) (command : ℕ) (bytes : List ℕ) → Said chars command bytes → chars ≡ body command bytes
unfolding body
said_body [] command bytes s = absurd (false≢true (sym s.count))
said_body (x ∷ rest) command bytes s =
    let odd = odd_count (suc (length rest)) s.count in
    let payload : List ℕ = bytes_of rest in
    let k : ℕ = get_or payload (length payload - 1) 0 in
    let all : every is_digit rest ≡ true = and_right (is_digit x) _ s.digits in
    let one : nibble x < 16 = ltb-true (nibble x) 16 (and_left _ (every is_digit rest) s.digits) in
    let many : 0 < length payload = rw (length_bytes_of rest) (omega arith) in
    let parts : payload ≡ bytes ++ k ∷ [] = rw s.bytes_are at (last_behind payload many) in
    let small : k < 256 = ltb-true k 256 (every_at (λ b. ltb b 256) payload (bytes_small rest all) (length payload - 1) (omega arith)) in
    let whole : (nibble x + sum_of payload) % 256 ≡ frame_total = eqb-true _ frame_total s.sums in
    let split : sum_of payload ≡ sum_of bytes + (k + 0) = ap sum_of parts ∙ sum_append bytes (k ∷ []) in
    let first : nibble x ≡ command = s.command_is in
    let sum : (command + sum_of bytes + k) % 256 ≡ frame_total = omega arith in
    let check-is : k ≡ check command bytes = check_only command bytes k small sum in
    let front : x ≡ digit command = sym (digit_nibble x one) ∙ ap digit s.command_is in
    ap₂ (λ (y : ℕ) (ys : List ℕ). y ∷ ys) front (sym (digits_bytes rest all (omega arith)) ∙ ap digits_of (rw check-is at parts))

-- so it is within what the writer takes
pub said_nibble : (chars : List ℕ) (command : ℕ) (bytes : List ℕ) → Said chars command bytes → command ≤ 15
said_nibble chars command bytes s =
    let many = (odd_count (length chars) s.count).0 in
    let below : command_of chars < 16 = nibble_at_lem chars s.digits 0 (omega arith) in
    let is : command_of chars ≡ command = s.command_is in
    omega arith

pub said_few : (chars : List ℕ) (command : ℕ) (bytes : List ℕ) → Said chars command bytes → length bytes ≤ 35
said_few chars command bytes s =
    let count : length bytes ≡ length chars / 2 - 1 = ap length (sym s.bytes_are) ∙ length_data chars s.count in
    let short : length chars ≤ 73 = s.short in
    omega arith

-- an answer with command and data was a good frame
read_good : (e : Ended) (command : ℕ) (bytes : List ℕ) → read_as e ≡ read_as (good command bytes) → e ≡ good command bytes
read_good (refused r) command bytes e =
    let a : (read_as (refused r)).answer ≡ (read_as (good command bytes)).answer = ap (λ g. g.answer) e in
    let impossible : ⊥ = cc in absurd impossible
read_good (good c bs) command bytes e =
    let a : (read_as (good c bs)).answer ≡ (read_as (good command bytes)).answer = ap (λ g. g.answer) e in
    let same : ◌≡◌ {A = Frame} (record { command = c; len = length bs }) (record { command = command; len = length bytes }) = cc in
    ap₂ good (ap (λ (f : Frame). f.command) same) (ap (λ g. g.written) e)

-- so the slice is the writer's frame, and the writer takes its command and data
slice_is : (slice : List ℕ) (command : ℕ) (bytes : List ℕ) → well_enclosed slice ≡ true → body_says (between slice) ≡ good command bytes
    → (out : ℕ) → 75 ≤ out → writing command bytes out ≡ written_as slice
unfolding frame
slice_is slice command bytes enclosed e out h =
    let s : Said (between slice) command bytes = said (between slice) command bytes e in
    let chars : between slice ≡ body command bytes = said_body (between slice) command bytes s in
    writing_made command bytes out h (said_nibble (between slice) command bytes s) (said_few (between slice) command bytes s)
    ∙ ap written_as (sym (well_enclosed_lem slice enclosed ∙ rw chars))

pub slice_written : (slice : List ℕ) (room : ℕ) (command : ℕ) (bytes : List ℕ) → parsing slice room ≡ read_as (good command bytes)
    → (out : ℕ) → 75 ≤ out → writing command bytes out ≡ written_as slice
slice_written slice room command bytes e out h = by (ltb room 35) (well_enclosed slice) refl refl
  where
    by : (a b : Bool) → ltb room 35 ≡ a → well_enclosed slice ≡ b → writing command bytes out ≡ written_as slice
    by true b p q = never refl (read_good (refused paper.short_buffer) command bytes (sym (reading_short slice room (ltb-true room 35 p)) ∙ e))
    by false false p q = never refl (read_good (refused paper.no_digit) command bytes (sym (reading_loose slice room (ltb-false room 35 p) q) ∙ e))
    by false true p q =
        slice_is slice command bytes q
        (read_good (body_says (between slice)) command bytes (sym (reading_between slice room (ltb-false room 35 p) q) ∙ e)) out h

pub said_small : (chars : List ℕ) (command : ℕ) (bytes : List ℕ) → Said chars command bytes → Bytes bytes
said_small [] command bytes s = absurd (false≢true (sym s.count))
said_small (x ∷ rest) command bytes s =
    let all : every (λ b. ltb b 256) (bytes_of rest) ≡ true = bytes_small rest (and_right (is_digit x) _ s.digits) in
    record { below = rw s.bytes_are at (every_take (λ b. ltb b 256) (length (bytes_of rest) - 1) (bytes_of rest) all) }

-- so what characters say is of the frame that they fill, and of no other
pub said_frame : SaidIsFrame
unfolding frame
said_frame chars command bytes = (
  λ e.
      let s : Said chars command bytes = said chars command bytes e in
      (record { nibble = said_nibble chars command bytes s; few = said_few chars command bytes s; small = said_small chars command bytes s }, rw (said_body chars command bytes s)),
  λ w.
      let filled : chars ≡ body command bytes = sym (between_enclosed chars) ∙ ap between w.1 ∙ between_enclosed (body command bytes) in
      rw filled (body_says_lem command bytes w.0.nibble w.0.few w.0.small.below),
)
