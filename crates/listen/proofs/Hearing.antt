-- The laws of the box's hearing: those of the stream's call, under its own name. Assumes nothing.
use mathlib.Core.Path.{◌≡◌}
use mathlib.Core.Bool.{true, false}
use mathlib.Core.List.{List, [], ◌∷◌, append-nil}
use Prim.Native.Nat.{ℕ, ◌≤◌, ◌<◌}
use native.Mathlib.Nat.{add-zero}
use native.Mathlib.Omega.{arith}
use borrow.Author.Tests.{le-ltb}
use lib.ListN.{length, take}
use lib.Seq.{take_all}
use lib.Dec.{leb, ltb}
use Rattle.laws.specs.Cutting.{Offer, calls, ready}
use Rattle.stream.specs.Stream.{left_from, left_by, frames_from}
use Rattle.stream.specs.Calls.{allowed, unfinished, held_of, unheard, heard_of}
use Rattle.stream.specs.Laws.{Cut}
use Rattle.stream.specs.declared.Held.{Held}
use Rattle.std.specs.Prelude.{Ok, Err, None}
use Rattle.paper.specs.declared.Refusal.{Refusal}
use Rattle.paper.specs.Numbers.{short_buffer, number_of}
use Rattle.stream.proofs.Answers.{hearing_short, hearing_heard}
use Rattle.stream.proofs.Theorems.{any_cutting, whole_is_heard, all_is_taken, cutting_changes_nothing, empty_changes_nothing, refused_is_small}
use Rattle.listen.specs.Hearing.{box_hearing, box_hears}

module _ (held : Held) (piece : List ℕ) (room : ℕ) where
  pub box_short : room < 35 → box_hearing held piece room ≡ unheard held short_buffer
  unfolding box_hearing
  box_short = hearing_short held piece room

  pub box_heard : 35 ≤ room → allowed held ≡ true → box_hearing held piece room ≡ heard_of (unfinished held) piece
  unfolding box_hearing
  box_heard = hearing_heard held piece room

-- a frame is refused by one of the numbers 1 to 4, and no other
pub small_refusal : (held : Held) → allowed held ≡ true → (piece : List ℕ) (room : ℕ) → 35 ≤ room
    → (r : Refusal) → (box_hearing held piece room).answer.event ≡ Err r → ltb 4 (number_of r) ≡ false
unfolding box_hearing
small_refusal held ok piece room enough r e = le-ltb 4 (number_of r) (refused_is_small held piece room r ok enough e)

-- a row of calls, and a row of one
pub box_cutting : (earlier bytes : List ℕ) (offers : List (Offer ℕ)) → Cut earlier bytes (calls box_hears (held_of (left_by earlier)) bytes offers)
unfolding box_hearing
box_cutting = any_cutting

pub one_cut : (earlier piece : List ℕ) (room : ℕ) → Cut earlier piece (box_hears (held_of (left_by earlier)) room piece)
one_cut earlier piece room =
    let whole : take (length piece) piece ≡ piece = take_all (length piece) piece (omega arith) in
    rw (whole, append-nil, add-zero) at (box_cutting earlier piece (record { count = length piece; with = room } ∷ []))

-- from any state: enough calls, a row that takes every byte, two rows, and an empty piece
pub box_all : (held : Held) (bytes : List ℕ) (offers : List (Offer ℕ)) → allowed held ≡ true → ready (λ room. leb 35 room) offers ≡ true → length bytes ≤ length offers
    → (calls box_hears held bytes offers).taken ≡ length bytes
unfolding box_hearing
box_all = all_is_taken

module _ (held : Held) (long : length held.chars.bytes ≡ 74) where
  pub box_whole : allowed held ≡ true → (bytes : List ℕ) (offers : List (Offer ℕ)) → (calls box_hears held bytes offers).taken ≡ length bytes
      → calls box_hears held bytes offers ≡ record { state = held_of (left_from (unfinished held) bytes); events = frames_from (unfinished held) bytes; taken = length bytes }
  unfolding box_hearing
  box_whole = whole_is_heard held long

  pub box_same : (bytes : List ℕ) (offers offers' : List (Offer ℕ)) → (calls box_hears held bytes offers).taken ≡ (calls box_hears held bytes offers').taken
      → calls box_hears held bytes offers ≡ calls box_hears held bytes offers'
  unfolding box_hearing
  box_same = cutting_changes_nothing held long

  pub box_empty : (room : ℕ) → allowed held ≡ true → 35 ≤ room
      → box_hearing held [] room ≡ record { answer = record { held = held; event = Ok None; taken = 0 }; written = [] }
  unfolding box_hearing
  box_empty room = empty_changes_nothing held room long
