-- The lines of a table, written one after another. Assumes nothing.
use mathlib.Core.Path.{◌≡◌, refl, sym, ap, ap₂, ◌∙◌}
use Rattle.std.proofs.Common.{Ok}
use mathlib.Core.List.{List, [], ◌∷◌, ◌++◌, append-nil, append_assoc}
use Prim.Native.Nat.{ℕ, ◌+◌, ◌*◌, ◌-◌, ◌≤◌, ◌<◌}
use native.Mathlib.Nat.{zero-add}
use native.Mathlib.Omega.{arith}
use borrow.Rule.Slice.PartMut.{put_mid}
use lib.ListN.{length, take, drop, length-append, length-drop, drop_of_length-le}
use lib.Seq.{sets, length-sets, sets-eq, drop-drop}
use Rattle.laws.specs.Promise.{overlaid, Given, Gives}
use Rattle.laws.proofs.Lists.{sets_append, part_to_end}
use Rattle.laws.proofs.Promise.{overlaid_sets}
use Rattle.settings.specs.Columns.{count, id_at}
use Rattle.tables.specs.Rules.{number_at}
use Rattle.tables.specs.declared.Table.{Table}
use Rattle.rows.specs.Row.{row_of, row_room}
use Rattle.wire.specs.Calls.{written_as}
use Rattle.rows.specs.Calls.{writing}
use Rattle.wire.specs.Answers.{Written}
use Rattle.rows.proofs.Rows.{write_made}
use Rattle.rows.proofs.Theorems.{row_is_short}
use Rattle.backup.specs.Text.{header, places, lines_for, text_for, text_of}
use Rattle.backup.proofs.Places.{places_long, places_turn}

-- what is stored in the part of a buffer from a place on is stored in the buffer there
pub part_stores : (out row : List ℕ) (at n : ℕ) → length out ≡ n → at + length row ≤ length out
    → take at out ++ (overlaid row (drop at out) ++ drop (n - at) (drop at out)) ≡ sets out at row
unfolding overlaid
part_stores out row at n is h =
    let few : length (drop at out) ≤ n - at = omega (arith, length-drop at out) in
    let none : drop (n - at) (drop at out) ≡ [] = drop_of_length-le (drop at out) few in
    rw (none, append-nil, drop-drop (length row) at out, sets-eq row out at h) (sym (append_assoc (take at out) row (drop (at + length row) out)))

-- a row that is written to that part
module _ (out : List ℕ) (at id n : ℕ) (h : at + row_room ≤ length out) (small : n < 65536) {r : Written} {last : List ℕ}
    (g : Gives Written (writing id n (length (take (length out - at) (drop at out)))) (take (length out - at) (drop at out)) r last) where
  part : take (length out - at) (drop at out) ≡ drop at out
  part = part_to_end out (length out) at refl

  made : writing id n (length (take (length out - at) (drop at out))) ≡ written_as (row_of id n)
  made = write_made id n _ (rw (part, length-drop at out) (omega arith))

  pub row_answered : r ≡ Ok (length (row_of id n))
  row_answered = g.answered ∙ ap (λ (x : Given Written). x.answer) made

  pub row_stored : take at out ++ (last ++ drop (length out - at) (drop at out)) ≡ sets out at (row_of id n)
  row_stored =
      ap (λ (l : List ℕ). take at out ++ (l ++ drop (length out - at) (drop at out))) (g.left ∙ ap₂ (λ (x : Given Written) (l : List ℕ). overlaid x.written l) made part)
      ∙ part_stores out (row_of id n) at (length out) refl (omega (arith, row_is_short id n (omega arith)))

-- no line, or one more
pub lines_none : (t : Table) → lines_for [] t ≡ []
unfolding lines_for
lines_none t = refl

pub lines_more : (k : ℕ) (ks : List ℕ) (t : Table) → lines_for (k ∷ ks) t ≡ row_of (id_at k) (number_at t k) ++ lines_for ks t
unfolding lines_for
lines_more k ks t = refl

-- the lines that are left to write
pub record Listing (out₀ : List ℕ) (start : ℕ) (t : Table) (out : List ℕ) (at index : ℕ) : Type 0 where
  pub within : index ≤ count
  pub room : at + row_room * (count - index) ≤ length out
  pub long : length out ≡ length out₀
  pub place : at + length (lines_for (drop index places) t) ≡ start + length (lines_for places t)
  pub same : sets out at (lines_for (drop index places) t) ≡ sets out₀ start (lines_for places t)

module _ {out₀ : List ℕ} {start : ℕ} {t : Table} {out : List ℕ} {at index : ℕ} (h : index < count) (w : Listing out₀ start t out at index) where
  listing_room : at + row_room ≤ length out
  listing_room = let room : at + row_room * (count - index) ≤ length out = w.room in omega arith

  listing_turn : {out₁ : List ℕ} {at₁ : ℕ} → at₁ ≡ at + length (row_of (id_at index) (number_at t index))
      → out₁ ≡ sets out at (row_of (id_at index) (number_at t index)) → at₁ ≤ at + row_room → Listing out₀ start t out₁ at₁ (index + 1)
  listing_turn {out₁} {at₁} place stores short =
      let row : List ℕ = row_of (id_at index) (number_at t index) in
      let rest : List ℕ = lines_for (drop (index + 1) places) t in
      let more : lines_for (drop index places) t ≡ row ++ rest = ap (λ (ks : List ℕ). lines_for ks t) (places_turn index h) ∙ lines_more index (drop (index + 1) places) t in
      let room : at + row_room * (count - index) ≤ length out = w.room in
      let size : length out₁ ≡ length out = ap length stores ∙ length-sets out at row in
      let sum : length (lines_for (drop index places) t) ≡ length row + length rest = ap length more ∙ length-append row rest in
      let before : at + length (lines_for (drop index places) t) ≡ start + length (lines_for places t) = w.place in
      record {
        within = omega arith;
        room = omega arith;
        long = size ∙ w.long;
        place = omega arith;
        same = ap₂ (λ (l : List ℕ) (i : ℕ). sets l i rest) stores place ∙ sym (sets_append out at row rest) ∙ ap (sets out at) (sym more) ∙ w.same;
      }

  -- what writing the line due answers and leaves
  module _ (id : ℕ) (is : id ≡ id_at index) (small : number_at t index < 65536) {r : Written} {last : List ℕ}
      (g : Gives Written (writing id (number_at t index) (length (take (length out - at) (drop at out)))) (take (length out - at) (drop at out)) r last) where
    pub line_answered : r ≡ Ok (length (row_of (id_at index) (number_at t index)))
    line_answered = row_answered out at id (number_at t index) listing_room small g ∙ ap (λ (i : ℕ). Ok (length (row_of i (number_at t index)))) is

    line_fits : length (row_of (id_at index) (number_at t index)) ≤ row_room
    line_fits = row_is_short (id_at index) (number_at t index) (omega arith)

    pub line_more : (len : ℕ) → r ≡ Ok len → Listing out₀ start t (put_mid at (length out - at) out last) (at + len) (index + 1)
    line_more len e =
        let long : len ≡ length (row_of (id_at index) (number_at t index)) = let f : r ≡ Ok (length (row_of (id_at index) (number_at t index))) = line_answered in cc in
        listing_turn (ap (λ (n : ℕ). at + n) long)
        (row_stored out at id (number_at t index) listing_room small g ∙ ap (λ (i : ℕ). sets out at (row_of i (number_at t index))) is)
        (omega (arith, long, line_fits))

pub listing_end : {out₀ : List ℕ} {start : ℕ} {t : Table} {out : List ℕ} {at index : ℕ} → count ≤ index → Listing out₀ start t out at index
    → (at ≡ start + length (lines_for places t)) × (out ≡ sets out₀ start (lines_for places t)) × (at ≤ length out₀)
listing_end {out₀} {start} {t} {out} {at} {index} h w =
    let past : length places ≤ index = rw places_long h in
    let empty : lines_for (drop index places) t ≡ [] = ap (λ (ks : List ℕ). lines_for ks t) (drop_of_length-le places past) ∙ lines_none t in
    let place : at + length (lines_for (drop index places) t) ≡ start + length (lines_for places t) = w.place in
    let none : length (lines_for (drop index places) t) ≡ 0 = ap length empty in
    let room : at + row_room * (count - index) ≤ length out = w.room in
    let long : length out ≡ length out₀ = w.long in
    (omega arith, ap (sets out at) (sym empty) ∙ w.same, omega arith)

-- header and lines are the text
pub text_length : (t : Table) → length header + length (lines_for places t) ≡ length (text_of t)
unfolding text_of text_for
text_length t = sym (length-append header (lines_for places t))

pub text_stores : (t : Table) (out : List ℕ) → length header + length (lines_for places t) ≤ length out → sets (overlaid header out) (length header) (lines_for places t) ≡ overlaid (text_of t) out
unfolding text_of text_for
text_stores t out h =
    let few : length (header ++ lines_for places t) ≤ length out = rw (length-append header (lines_for places t)) h in
    let front : length header ≤ length out = omega arith in
    ap (λ (l : List ℕ). sets l (length header) (lines_for places t)) (sym (overlaid_sets header out front))
    ∙ ap (λ (i : ℕ). sets (sets out 0 header) i (lines_for places t)) (sym (zero-add (length header)))
    ∙ sym (sets_append out 0 header (lines_for places t)) ∙ overlaid_sets (header ++ lines_for places t) out few

pub overlaid_length : (written buffer : List ℕ) → length written ≤ length buffer → length (overlaid written buffer) ≡ length buffer
unfolding overlaid
overlaid_length written buffer h = length-append written (drop (length written) buffer) ∙ rw (length-drop (length written) buffer) (omega arith)
