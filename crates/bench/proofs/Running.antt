-- The board, call by call. Assumes nothing.
use mathlib.Core.Path.{◌≡◌, refl, sym, ap, ap₂, subst, ◌∙◌}
use mathlib.Core.List.{List, [], ◌∷◌, ◌++◌, append-nil, append_assoc}
use Prim.Native.Nat.{ℕ, ◌+◌, ◌-◌, ◌≤◌, ◌<◌, min}
use native.Mathlib.Omega.{arith}
use native.Mathlib.Nat.{zero-add}
use lib.ListN.{length, take, drop, get_or, length-take, length-drop, length-append, drop_of_length-le}
use lib.Seq.{sets, sets-eq, length-sets, drop-drop}
use lib.IntN.{ℤ}
use mir.Val.{SFits, to_z, of_z}
use mir.ValLaws.{to_z-of_z}
use mir.Syntax.{w64}
use Rattle.laws.specs.Promise.{Gives, overlaid}
use Rattle.laws.proofs.Lists.{drop_turn, sets_append, part_to_end}
use Rattle.laws.proofs.Promise.{overlaid_sets}
use Rattle.board.specs.Calls.{answering}
use Rattle.board.specs.AsHeld.{whole}
use Rattle.board.specs.declared.Board.{Board}
use Rattle.board.specs.declared.Sample.{Sample}
use Rattle.board.specs.declared.Answered.{Answered}
use Rattle.board.proofs.Replying.{bounded}
use Rattle.bench.specs.Calls.{running}

-- readings as a call is handed them
pub given_kept : (voltage current fine consumed charge : ℤ) → SFits w64 voltage → SFits w64 current → SFits w64 fine → SFits w64 consumed → SFits w64 charge
    → ◌≡◌ {A = Sample}
    (record { voltage = to_z w64 (of_z w64 voltage); current = to_z w64 (of_z w64 current); fine = to_z w64 (of_z w64 fine); consumed = to_z w64 (of_z w64 consumed); charge = to_z w64 (of_z w64 charge) })
    (record { voltage = voltage; current = current; fine = fine; consumed = consumed; charge = charge })
given_kept voltage current fine consumed charge v i f a q =
    λ k. record { voltage = to_z-of_z w64 voltage v k; current = to_z-of_z w64 current i k; fine = to_z-of_z w64 fine f k; consumed = to_z-of_z w64 consumed a k; charge = to_z-of_z w64 charge q k }

-- a row of calls, the first and the others
module _ (board : Board) (bytes : List ℕ) (room : ℕ) where
  running_none : running board bytes [] room ≡ []
  unfolding running
  running_none = refl

  running_more : (size : ℕ) (more : List ℕ)
      → running board bytes (size ∷ more) room
      ≡ (answering board (take size bytes) room).written
      ++ running (answering board (take size bytes) room).answer.board (drop (answering board (take size bytes) room).answer.taken bytes) more
      (room - length (answering board (take size bytes) room).written)
  unfolding running
  running_more size more = refl

-- bytes laid over the part of a buffer from a place on are stores from there on
part_laid : (out w : List ℕ) (at : ℕ) → at ≤ length out → length w ≤ length out - at
    → take at out ++ (overlaid w (drop at out) ++ drop (length out - at) (drop at out)) ≡ sets out at w
unfolding overlaid
part_laid out w at h fits =
    let room : at + length w ≤ length out = omega arith in
    let short : length (drop at out) ≤ length out - at = rw length-drop (omega arith) in
    let none : drop (length out - at) (drop at out) ≡ [] = drop_of_length-le (drop at out) short in
    ap (λ (l : List ℕ). take at out ++ ((w ++ drop (length w) (drop at out)) ++ l)) none
    ∙ ap (λ (l : List ℕ). take at out ++ l) (append-nil (w ++ drop (length w) (drop at out)))
    ∙ ap (λ (l : List ℕ). take at out ++ (w ++ l)) (drop-drop (length w) at out)
    ∙ sym (append_assoc (take at out) w (drop (at + length w) out))
    ∙ sym (sets-eq w out at room)

-- A loop over the sizes speaks of what is left.
pub record Going (bytes sizes out₀ : List ℕ) (board₀ : Board) (out : List ℕ) (board : Board) (left : List ℕ) (len i : ℕ) : Type 0 where
  pub room : len ≤ length out₀
  pub long : length out ≡ length out₀
  pub place : len + length (running board left (drop i sizes) (length out₀ - len)) ≡ length (running board₀ bytes sizes (length out₀))
  pub same : sets out len (running board left (drop i sizes) (length out₀ - len)) ≡ sets out₀ 0 (running board₀ bytes sizes (length out₀))

module _ {bytes sizes out₀ : List ℕ} {board₀ : Board} where
  pub going_start : Going bytes sizes out₀ board₀ out₀ board₀ bytes 0 0
  going_start =
      let all : length out₀ - 0 ≡ length out₀ = omega arith in
      record { room = omega arith; long = refl; place = rw all (zero-add _); same = rw all }

  module _ {out left : List ℕ} {board : Board} {len i : ℕ} where
    -- one turn: the call's answer, and the part of the buffer that it was lent afterwards
    module _ (some : i < length sizes) {piece : List ℕ} (piece-is : piece ≡ take (get_or sizes i 0) left) {m : List ℕ} {r : Answered}
        (g : Gives Answered (answering board piece (length (take (length out - len) (drop len out)))) (take (length out - len) (drop len out)) r m)
        (v : Going bytes sizes out₀ board₀ out board left len i) where
      abbrev w : List ℕ
      w = (answering board piece (length out₀ - len)).written

      called : Gives Answered (answering board piece (length out₀ - len)) (drop len out) r m
      called =
          let size : length (drop len out) ≡ length out₀ - len = length-drop len out ∙ ap (λ (k : ℕ). k - len) v.long in
          rw (part_to_end out (length out) len refl, size) at g

      pub turn_within : r.taken ≤ length left
      turn_within =
          let is : r.taken ≡ (answering board piece (length out₀ - len)).answer.taken = ap (λ (a : Answered). a.taken) called.answered in
          let few : (answering board piece (length out₀ - len)).answer.taken ≤ length piece = (bounded board piece (length out₀ - len)).within in
          let part : length piece ≡ min (get_or sizes i 0) (length left) = ap length piece-is ∙ length-take (get_or sizes i 0) left in
          omega arith

      len_is : r.len ≡ length w
      len_is = ap (λ (a : Answered). a.len) called.answered ∙ (bounded board piece (length out₀ - len)).len_is

      fits : length w ≤ length out₀ - len
      fits = (bounded board piece (length out₀ - len)).short

      pub turn_room : len + r.len ≤ length out₀
      turn_room = let before : len ≤ length out₀ = v.room in omega (arith, len_is, fits)

      stored : take len out ++ (m ++ drop (length out - len) (drop len out)) ≡ sets out len w
      stored =
          let h : len ≤ length out = omega (arith, v.room, v.long) in
          let f : length w ≤ length out - len = omega (arith, fits, v.long) in
          ap (λ (l : List ℕ). take len out ++ (l ++ drop (length out - len) (drop len out))) called.left ∙ part_laid out w len h f

      abbrev later : List ℕ
      later = running r.board (drop r.taken left) (drop (i + 1) sizes) (length out₀ - (len + r.len))

      rest_is : running board left (drop i sizes) (length out₀ - len) ≡ w ++ later
      rest_is =
          let room : (length out₀ - len) - length w ≡ length out₀ - (len + r.len) = omega (arith, len_is) in
          ap (λ (l : List ℕ). running board left l (length out₀ - len)) (drop_turn sizes i some)
          ∙ running_more board left (length out₀ - len) (get_or sizes i 0) (drop (i + 1) sizes)
          ∙ ap (λ (p : List ℕ). (answering board p (length out₀ - len)).written ++ running (answering board p (length out₀ - len)).answer.board (drop (answering board p (length out₀ - len)).answer.taken left) (drop (i + 1) sizes) ((length out₀ - len) - length (answering board p (length out₀ - len)).written)) (sym piece-is)
          ∙ ap (λ (a : Answered). w ++ running a.board (drop a.taken left) (drop (i + 1) sizes) ((length out₀ - len) - length w)) (sym called.answered)
          ∙ ap (λ (k : ℕ). w ++ running r.board (drop r.taken left) (drop (i + 1) sizes) k) room

      pub going_turn : Going bytes sizes out₀ board₀ (take len out ++ (m ++ drop (length out - len) (drop len out))) r.board (drop r.taken left) (len + r.len) (i + 1)
      going_turn =
          let sum : length (running board left (drop i sizes) (length out₀ - len)) ≡ length w + length later = ap length rest_is ∙ length-append w later in
          let all : len + length (running board left (drop i sizes) (length out₀ - len)) ≡ length (running board₀ bytes sizes (length out₀)) = v.place in
          record {
            room = turn_room;
            long = ap length stored ∙ length-sets out len w ∙ v.long;
            place = omega (arith, len_is);
            same =
                ap₂ (λ (l : List ℕ) (k : ℕ). sets l k later) stored (ap (λ (k : ℕ). len + k) len_is) ∙ sym (sets_append out len w later)
                ∙ ap (sets out len) (sym rest_is) ∙ v.same;
          }

    pub going_end : length sizes ≤ i → Going bytes sizes out₀ board₀ out board left len i → Gives ℕ (whole (running board₀ bytes sizes (length out₀))) out₀ len out
    going_end none v =
        let gone : running board left (drop i sizes) (length out₀ - len) ≡ [] =
        ap (λ (l : List ℕ). running board left l (length out₀ - len)) (drop_of_length-le sizes none) ∙ running_none board left (length out₀ - len) in
        let empty : length (running board left (drop i sizes) (length out₀ - len)) ≡ 0 = ap length gone in
        let all : len + length (running board left (drop i sizes) (length out₀ - len)) ≡ length (running board₀ bytes sizes (length out₀)) = v.place in
        let place : len ≡ length (running board₀ bytes sizes (length out₀)) = omega arith in
        let fits : length (running board₀ bytes sizes (length out₀)) ≤ length out₀ = omega (arith, v.room) in
        record {
          answered = place;
          left = ap (sets out len) (sym gone) ∙ v.same ∙ overlaid_sets (running board₀ bytes sizes (length out₀)) out₀ fits;
        }

-- the same on a board that is the same
pub same_board : {board₀ board₁ : Board} (bytes sizes : List ℕ) (room : ℕ) {out after : List ℕ} {r : ℕ} → board₀ ≡ board₁
    → Gives ℕ (whole (running board₀ bytes sizes room)) out r after → Gives ℕ (whole (running board₁ bytes sizes room)) out r after
same_board bytes sizes room {out} {after} {r} is g = subst (λ (b : Board). Gives ℕ (whole (running b bytes sizes room)) out r after) is g
