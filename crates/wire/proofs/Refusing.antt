-- The sum of a frame, and refusals 1 to 4 by their rows. Assumes nothing.
use mathlib.Core.Path.{◌≡◌, refl, sym, ap, subst, ◌∙◌}
use mathlib.Core.Bool.{Bool, true, false, not, ◌&&◌, ◌||◌, cond, false≢true}
use mathlib.Core.List.{List, [], ◌∷◌}
use mathlib.Core.Option.{Option, none, some}
use Prim.Native.Nat.{ℕ, ◌+◌, ◌-◌, ◌≤◌, ◌<◌}
use native.Mathlib.Omega.{arith}
use borrow.Author.Tests.{leb-true, lt-leb, le-leb, ltb-true, ltb-false, eqb-true}
use lib.ListN.{length, drop, get_or}
use lib.Dec.{ltb, leb, eqb}
use Rattle.laws.specs.Promise.{Given}
use Rattle.laws.proofs.Bools.{pick, nor_left}
use Rattle.laws.specs.Lists.{every, sum_of}
use Rattle.laws.proofs.Lists.{every_at, before_first, up_to_at}
use Rattle.paper.specs.Numbers as paper
use Rattle.paper.specs.Numbers.{colon, newline}
use Rattle.wire.specs.Digits.{digit, nibble, is_digit}
use Rattle.wire.specs.Frame.{check, body, frame}
use Rattle.wire.specs.Parsing.{Ended, good, refused, bytes_of, command_of, payload_of, data_of, bad_count, sums_up, body_says, broken_says}
use Rattle.laws.specs.Refusals.{first_of}
use Rattle.wire.specs.Refusals.{sixteen, value, pairs_total, total, is_hex, faults, fault_of, refusal_of, write_refusal_of}
use Rattle.wire.specs.Calls.{writing, written_as, unwritten, whole_says, well_enclosed, between, parsing, read_as, parsing_chars}
use Rattle.wire.specs.Laws.{Sums, WrittenSums, ReadSums, FaultGivenWhen, ReadGivenWhen, CharsGivenWhen, WriteGivenWhen, RefusedWritesNothing, DigitsOnly}
use Rattle.wire.specs.Answers.{Written, Read}
use Rattle.paper.specs.declared.Refusal.{Refusal}
use Rattle.std.specs.Prelude.{Ok, Err}
use Rattle.wire.proofs.Nibbles.{digit_test, none_is_16, digit_nibble}
use Rattle.wire.proofs.Frames.{check_sums, check_byte}
use Rattle.wire.proofs.RoundTrip.{slice_written, digit_hex}

frame_sums : (command : ℕ) (bytes : List ℕ) → command < 16 → Sums (frame command bytes) command bytes
unfolding frame body
frame_sums command bytes nib =
    record { check = check command bytes; is_byte = check_byte command bytes; slice_is = rw (digit_hex command nib); sums = check_sums command bytes }

pub written_sums : WrittenSums
unfolding writing
written_sums command bytes room slice e = by (ltb room 75) (ltb 15 command || ltb 35 (length bytes)) refl e
  where
    never : (refusal : Refusal) → unwritten refusal ≡ written_as slice → Sums slice command bytes
    never refusal w =
        let a : Err refusal ≡ Ok (length slice) = ap (λ (g : Given Written). g.answer) w in
        let impossible : ⊥ = cc in absurd impossible

    by : (short over : Bool) → (ltb 15 command || ltb 35 (length bytes)) ≡ over
        → cond short (unwritten paper.short_buffer) (cond over (unwritten paper.not_allowed) (written_as (frame command bytes))) ≡ written_as slice → Sums slice command bytes
    by true over p w = never paper.short_buffer w
    by false true p w = never paper.not_allowed w
    by false false p w =
        let nib : command ≤ 15 = ltb-false 15 command (nor_left (ltb 15 command) _ p) in
        subst (λ (l : List ℕ). Sums l command bytes) (ap (λ (g : Given Written). g.written) w) (frame_sums command bytes (omega arith))

pub read_sums : ReadSums
read_sums slice room command bytes e = written_sums command bytes 75 slice (slice_written slice room command bytes e 75 (leb-true 75 75 refl))

-- the digits of the paper are those that are read
hex_digits : (chars : List ℕ) → every is_hex chars ≡ every is_digit chars
hex_digits [] = refl
hex_digits (c ∷ chars) = rw (digit_test c, hex_digits chars)

-- what a character means is its nibble
value_nibble : (c : ℕ) → value c ≡ nibble c
unfolding value digit nibble
value_nibble c = by (is_digit c) (ltb (value c) 16) refl refl
  where
    by : (s t : Bool) → is_digit c ≡ s → ltb (value c) 16 ≡ t → value c ≡ nibble c
    by true t p q =
        let small : nibble c < 16 = ltb-true (nibble c) 16 p in
        ap value (sym (digit_nibble c small)) ∙ eqb-true _ _ (up_to_at 16 (λ n. eqb (value (digit n)) n) refl (nibble c) small)
    by false true p q =
        let here : value c < 16 = ltb-true (value c) 16 q in
        let is : get_or sixteen (value c) 0 ≡ c = eqb-true _ c ((before_first (λ x. eqb x c) sixteen).some here) in
        absurd (false≢true (sym p ∙ rw is at (every_at is_digit sixteen refl (value c) here)))
    by false false p q =
        let past : 16 ≤ value c = ltb-false (value c) 16 q in
        let most : value c ≤ 16 = (before_first (λ x. eqb x c) sixteen).inside in
        let none : nibble c ≡ 16 = none_is_16 c p in
        omega arith

pub digits_only : DigitsOnly
digits_only = (λ c. sym (value_nibble c), λ chars. sym (hex_digits chars))

pairs_total_lem : (chars : List ℕ) → pairs_total chars ≡ sum_of (bytes_of chars)
pairs_total_lem [] = refl
pairs_total_lem (x ∷ []) = refl
pairs_total_lem (x ∷ y ∷ rest) = rw (value_nibble x, value_nibble y, pairs_total_lem rest)

total_is : (chars : List ℕ) → total chars ≡ command_of chars + sum_of (payload_of chars)
total_is chars = rw (value_nibble (get_or chars 0 0), pairs_total_lem (drop 1 chars))

-- the rows and the definition ask the same tests in the same order
body_rows : (long digits odd sums : Bool) (command : ℕ) (bytes : List ℕ)
    → fault_of (cond long (refused paper.too_long) (cond (not digits) (refused paper.no_digit) (cond odd (refused paper.bad_count) (cond (not sums) (refused paper.bad_sum) (good command bytes)))))
    ≡ cond long (some 1) (cond (not digits || false) (some 2) (cond odd (some 3) (cond (not sums) (some 4) none)))
body_rows true digits odd sums command bytes = refl
body_rows false false odd sums command bytes = refl
body_rows false true true sums command bytes = refl
body_rows false true false false command bytes = refl
body_rows false true false true command bytes = refl

broken_rows : (long digits : Bool) (rest : Option ℕ)
    → fault_of (cond long (refused paper.too_long) (refused paper.no_digit)) ≡ cond long (some 1) (cond (not digits || true) (some 2) rest)
broken_rows true digits rest = refl
broken_rows false false rest = refl
broken_rows false true rest = refl

pub fault_given : FaultGivenWhen
unfolding body_says broken_says
fault_given chars = (
  rw (hex_digits, total_is chars) (body_rows (ltb 73 (length chars)) (every is_digit chars) (bad_count (length chars)) (sums_up chars) (command_of chars) (data_of chars)),
  broken_rows (ltb 73 (length chars)) (every is_hex chars) _,
)

-- a slice, by the same rows after its own two
read_says : (e : Ended) → refusal_of (read_as e).answer ≡ fault_of e
read_says (good command bytes) = refl
read_says (refused refusal) = refl

-- not enclosed: under 2 bytes, or other ends
loose : (n : ℕ) (ends : Bool) → (ltb n 2 || not ends) ≡ not (leb 2 n && ends)
loose n ends = by (ltb n 2) refl
  where
    by : (t : Bool) → ltb n 2 ≡ t → (ltb n 2 || not ends) ≡ not (leb 2 n && ends)
    by true e = simp (e, lt-leb 2 n (ltb-true n 2 e))
    by false e = simp (e, le-leb 2 n (ltb-false n 2 e))

pub read_given : ReadGivenWhen
unfolding parsing whole_says
read_given slice room = rw (loose (length slice) ends) (by (ltb room 35) (well_enclosed slice))
  where
    ends : Bool
    ends = eqb (get_or slice 0 0) colon && eqb (get_or slice (length slice - 1) 0) newline

    rest : Option ℕ
    rest = first_of (faults (between slice) newline)

    by : (short well : Bool)
        → refusal_of (cond short (read_as (refused paper.short_buffer)) (read_as (cond well (body_says (between slice)) (refused paper.no_digit)))).answer
        ≡ cond short (some 11) (cond (not well) (some 2) rest)
    by true well = refl
    by false false = refl
    by false true = read_says (body_says (between slice)) ∙ (fault_given (between slice)).0

pub chars_given : CharsGivenWhen
unfolding parsing_chars
chars_given chars room = by (ltb room 35)
  where
    by : (short : Bool) → refusal_of (cond short (read_as (refused paper.short_buffer)) (read_as (body_says chars))).answer ≡ cond short (some 11) (first_of (faults chars newline))
    by true = refl
    by false = read_says (body_says chars) ∙ (fault_given chars).0

-- the writer
pub write_given : WriteGivenWhen
unfolding writing
write_given command bytes room = by (ltb room 75) (ltb 15 command || ltb 35 (length bytes))
  where
    by : (short over : Bool) → write_refusal_of (cond short (unwritten paper.short_buffer) (cond over (unwritten paper.not_allowed) (written_as (frame command bytes)))).answer
        ≡ cond short (some 11) (cond over (some 12) none)
    by true over = refl
    by false true = refl
    by false false = refl

-- nothing is written under a refusal
read_silent : (e : Ended) (refusal : Refusal) → (read_as e).answer ≡ Err refusal → (read_as e).written ≡ []
read_silent (good command bytes) refusal e = cc
read_silent (refused r) refusal e = refl

pub refused_silent : RefusedWritesNothing
unfolding parsing parsing_chars writing
refused_silent refusal room = (
  λ slice. pick Silent (ltb room 35) (λ e. refl) (read_silent (whole_says slice) refusal),
  λ chars. pick Silent (ltb room 35) (λ e. refl) (read_silent (body_says chars) refusal),
  λ command bytes. pick Unwritten (ltb room 75) (λ e. refl) (pick Unwritten (ltb 15 command || ltb 35 (length bytes)) (λ e. refl) (λ e. cc)),
)
  where
    Silent : Given Read → Type 0
    Silent given = given.answer ≡ Err refusal → given.written ≡ []

    Unwritten : Given Written → Type 0
    Unwritten given = given.answer ≡ Err refusal → given.written ≡ []
