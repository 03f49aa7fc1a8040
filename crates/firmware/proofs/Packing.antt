-- The packing: what fits in a half, and what comes back from an integer. Assumes nothing.
use mathlib.Core.Path.{◌≡◌, refl, sym, ap, subst, ◌∙◌}
use mathlib.Core.Bool.{Bool, true, false, cond, ◌||◌}
use mathlib.Core.List.{List}
use Prim.Native.Nat.{ℕ, zero, suc, ◌/◌, ◌%◌, ◌^◌, ◌≤◌, ◌<◌}
use native.Mathlib.Omega.{arith}
use borrow.Author.Tests.{ltb-true, ltb-false, leb-true}
use lib.ListN.{length}
use lib.Dec.{ltb, eqb}
use Rattle.laws.specs.Promise.{Given, Gives}
use Rattle.paper.specs.Numbers.{short_buffer, not_allowed, no_digit, unknown_id, number_of}
use Rattle.wire.specs.Frame.{frame}
use Rattle.wire.specs.Parsing.{Ended, good, refused, body_says}
use Rattle.wire.specs.Calls.{writing, written_as, unwritten, parsing, read_as, whole_says, well_enclosed, between}
use Rattle.wire.specs.Answers.{Written, Read}
use Rattle.wire.specs.declared.Frame.{Frame}
use Rattle.paper.specs.declared.Refusal.{Refusal}
use Rattle.std.specs.Prelude.{Ok, Err, ⊤}
use Rattle.wire.proofs.Frames.{length_frame}
use Rattle.wire.proofs.Theorems.{read_is_written}
use Rattle.settings.specs.Columns.{count, width_at}
use Rattle.settings.specs.Rules.{nearest_of}
use Rattle.settings.specs.Columns.{place_of}
use Rattle.settings.specs.Calls.{partner_fits, nearing}
use Rattle.settings.specs.Answers.{Number}
use Rattle.settings.proofs.Theorems.{nearest_is_found, allowed_has_room, rows_hold}
use Rattle.firmware.specs.Calls.{half, refusal_packed, written_packed, read_packed, number_packed}
use Rattle.firmware.specs.Laws.{high, low, refusal_from, written_from, read_from, number_from, WrittenComesBack, ReadComesBack, NumberComesBack, HighIsNumber, RefusedIsAlone}

-- what the writer answers fits in its half: a frame has 75 bytes at most
abbrev pub WrittenFits : Written → Type 0
WrittenFits (Ok len) = len ≤ 75
WrittenFits (Err refusal) = ⊤

pub written_fits : (command : ℕ) (bytes : List ℕ) (room : ℕ) → WrittenFits (writing command bytes room).answer
unfolding writing
written_fits command bytes room = by (ltb room 75) (ltb 15 command) (ltb 35 (length bytes)) refl
  where
    by : (short wide long : Bool) → ltb 35 (length bytes) ≡ long
        → WrittenFits (cond short (unwritten short_buffer) (cond (wide || long) (unwritten not_allowed) (written_as (frame command bytes)))).answer
    by true wide long h = tt
    by false true long h = tt
    by false false true h = tt
    by false false false h = rw (length_frame command bytes) (omega (arith, ltb-false 35 (length bytes) h))

pub frame_short : (command : ℕ) (bytes : List ℕ) (room : ℕ) {len : ℕ} {buffer l : List ℕ} {r : Written} → Gives Written (writing command bytes room) buffer r l → r ≡ Ok len → len ≤ 75
frame_short command bytes room met e = subst WrittenFits (sym met.answered ∙ e) (written_fits command bytes room)

-- and so does what the reader answers
abbrev pub ReadFits : Read → Type 0
ReadFits (Ok f) = (f.command ≤ 15) × (f.len ≤ 35)
ReadFits (Err refusal) = ⊤

-- what is refused is not written; and a frame that is written has its command and data within what the writer takes
never : {A : Type 0} {refusal : Refusal} {slice : List ℕ} → unwritten refusal ≡ written_as slice → A
never {refusal = refusal} {slice = slice} e =
    let is : Err refusal ≡ Ok (length slice) = ap (λ (g : Given Written). g.answer) e in
    let impossible : ⊥ = cc in absurd impossible

takes : (command : ℕ) (bytes slice : List ℕ) → writing command bytes 75 ≡ written_as slice → (command ≤ 15) × (length bytes ≤ 35)
unfolding writing
takes command bytes slice = by (ltb 15 command) (ltb 35 (length bytes)) refl refl
  where
    by : (wide long : Bool) → ltb 15 command ≡ wide → ltb 35 (length bytes) ≡ long
        → cond (wide || long) (unwritten not_allowed) (written_as (frame command bytes)) ≡ written_as slice → (command ≤ 15) × (length bytes ≤ 35)
    by false false p q e = (ltb-false _ _ p, ltb-false _ _ q)
    by true long p q e = never e
    by false true p q e = never e

ended_fits : (slice : List ℕ) (room : ℕ) (e : Ended) → parsing slice room ≡ read_as e → ReadFits (read_as e).answer
ended_fits slice room (good command bytes) is = takes command bytes slice (read_is_written slice room command bytes is 75 (leb-true 75 75 refl))
ended_fits slice room (refused refusal) is = tt

pub read_fits : (slice : List ℕ) (room : ℕ) → ReadFits (parsing slice room).answer
unfolding parsing whole_says
read_fits slice room = by (ltb room 35) (well_enclosed slice) refl refl
  where
    by : (short enclosed : Bool) → ltb room 35 ≡ short → well_enclosed slice ≡ enclosed
        → ReadFits (cond short (read_as (refused short_buffer)) (read_as (cond enclosed (body_says (between slice)) (refused no_digit)))).answer
    by true enclosed p q = tt
    by false false p q = tt
    by false true p q = ended_fits slice room (body_says (between slice)) (rw (p, q))

pub frame_small : (slice : List ℕ) (room : ℕ) {f : Frame} {buffer l : List ℕ} {r : Read} → Gives Read (parsing slice room) buffer r l → r ≡ Ok f → (f.command ≤ 15) × (f.len ≤ 35)
frame_small slice room met e = subst ReadFits (sym met.answered ∙ e) (read_fits slice room)

-- the nearest number is one of 16 bits
abbrev pub NumberFits : Number → Type 0
NumberFits (Ok n) = n < half
NumberFits (Err refusal) = ⊤

below : (width : ℕ) {n : ℕ} → width ≤ 2 → n < 256 ^ width → n < half
below zero few h = omega arith
below (suc zero) few h = omega arith
below (suc (suc zero)) few h = h
below (suc (suc (suc width))) few h = absurd (omega arith)

pub number_fits : (id wished partner : ℕ) → wished < 2 ^ 16 → NumberFits (nearing id wished partner)
unfolding nearing
number_fits id wished partner h = by (ltb (place_of id) count) (partner_fits (place_of id) partner) refl refl
  where
    by : (found fits : Bool) → ltb (place_of id) count ≡ found → partner_fits (place_of id) partner ≡ fits
        → NumberFits (cond found (cond fits (Ok (nearest_of (place_of id) wished partner)) (Err not_allowed)) (Err unknown_id))
    by false fits p q = tt
    by true false p q = tt
    by true true p q =
        let here = ltb-true _ _ p in
        let room = allowed_has_room (place_of id) (nearest_of (place_of id) wished partner) partner here (nearest_is_found (place_of id) wished partner here q h).is_allowed in
        below (width_at (place_of id)) (rows_hold _ here).width_most room

-- a refusal has its number in the high half, which is not 0, and is the one of that number
abbrev Numbered : Refusal → Type 0
Numbered refusal = (high (refusal_packed refusal) ≡ number_of refusal) × (eqb (number_of refusal) 0 ≡ false) × (refusal_from (number_of refusal) ≡ refusal)

numbered : (refusal : Refusal) → Numbered refusal
numbered Refusal.TooLong = (refl, refl, refl)
numbered Refusal.NoDigit = (refl, refl, refl)
numbered Refusal.BadCount = (refl, refl, refl)
numbered Refusal.BadSum = (refl, refl, refl)
numbered Refusal.UnknownCommand = (refl, refl, refl)
numbered Refusal.Malformed = (refl, refl, refl)
numbered Refusal.UnknownId = (refl, refl, refl)
numbered Refusal.ReadOnlyId = (refl, refl, refl)
numbered Refusal.WrongWidth = (refl, refl, refl)
numbered Refusal.NumberNotAllowed = (refl, refl, refl)
numbered Refusal.ShortBuffer = (refl, refl, refl)
numbered Refusal.NotAllowed = (refl, refl, refl)
numbered Refusal.OtherHeader = (refl, refl, refl)
numbered Refusal.BadLine = (refl, refl, refl)
numbered Refusal.OtherId = (refl, refl, refl)
numbered Refusal.OutOfRange = (refl, refl, refl)
numbered Refusal.PairDisagrees = (refl, refl, refl)
numbered Refusal.MoreBytes = (refl, refl, refl)

pub number_high : HighIsNumber
number_high refusal = (numbered refusal).0

-- taken apart, each answer is the one that was packed
written_from_lem : (w : Written) → WrittenFits w → written_from (written_packed w) ≡ w
unfolding written_packed
written_from_lem (Ok len) fits =
    let none : high len ≡ 0 = omega arith in
    let all : low len ≡ len = omega arith in
    rw (none, all)
written_from_lem (Err refusal) fits = let is = numbered refusal in rw (is.0, is.1, is.2)

pub written_back : WrittenComesBack
written_back command bytes room =
    ap (λ (w : Written). record { answer = w; written = (writing command bytes room).written }) (written_from_lem (writing command bytes room).answer (written_fits command bytes room))

read_from_lem : (r : Read) → ReadFits r → read_from (read_packed r) ≡ r
unfolding read_packed
read_from_lem (Ok f) fits =
    let n = read_packed (Ok f) in
    let none : high n ≡ 0 = omega arith in
    let above : low n / 256 ≡ f.command = omega arith in
    let beneath : low n % 256 ≡ f.len = omega arith in
    rw (none, above, beneath)
read_from_lem (Err refusal) fits = let is = numbered refusal in rw (is.0, is.1, is.2)

pub read_back : ReadComesBack
read_back slice room =
    ap (λ (r : Read). record { answer = r; written = (parsing slice room).written }) (read_from_lem (parsing slice room).answer (read_fits slice room))

number_from_lem : (n : Number) → NumberFits n → number_from (number_packed n) ≡ n
unfolding number_packed
number_from_lem (Ok n) fits =
    let none : high n ≡ 0 = omega arith in
    let all : low n ≡ n = omega arith in
    rw (none, all)
number_from_lem (Err refusal) fits = let is = numbered refusal in rw (is.0, is.1, is.2)

pub number_back : NumberComesBack
number_back id wished partner h = number_from_lem (nearing id wished partner) (number_fits id wished partner h)

pub refused_alone : RefusedIsAlone
unfolding written_packed read_packed number_packed
refused_alone refusal = (λ command bytes room e. rw e (omega arith), λ slice room e. rw e (omega arith), λ id wished partner e. rw e (omega arith))
