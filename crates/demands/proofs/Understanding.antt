-- Demand 2. Assumes nothing.
use mathlib.Core.Path.{◌≡◌, refl, sym, ap, subst, ◌∙◌}
use mathlib.Core.Bool.{Bool, true, ◌&&◌}
use mathlib.Core.List.{List, [], ◌++◌}
use Prim.Native.Nat.{ℕ, ◌^◌, ◌≤◌, ◌<◌}
use native.Mathlib.Omega.{arith}
use borrow.Author.Tests.{leb-true, lt-ltb, le-leb, eq-eqb, eqb-true}
use lib.ListN.{length, take}
use lib.Seq.{take-length}
use lib.Dec.{eqb, ltb}
use Rattle.laws.specs.Lists.{Bytes}
use Rattle.laws.specs.Promise.{Given}
use Rattle.laws.proofs.Bools.{both}
use Rattle.laws.proofs.Lists.{up_to_at}
use Rattle.paper.specs.Numbers.{most_nibble, most_data}
use Rattle.wire.specs.Frame.{frame}
use Rattle.wire.specs.Answers.{Written}
use Rattle.stream.specs.Stream.{Unfinished, frames_from}
use Rattle.stream.specs.Calls.{unfinished}
use Rattle.endian.proofs.Theorems.{little_is_read}
use Rattle.stream.proofs.Theorems.{written_is_heard, heard_from_anywhere}
use Rattle.listen.proofs.Hearing.{box_whole}
use Rattle.settings.specs.Columns.{count, id_at, width_at, place_of}
use Rattle.settings.proofs.Theorems.{rows_hold}
use Rattle.endian.specs.Numbers.{said}
use Rattle.requests.specs.Requests.{set_data, set_request}
use Rattle.requests.specs.Calls.{get_written, set_written, writing}
use Rattle.requests.specs.Laws.{Writes, get_frame}
use Rattle.requests.specs.declared.Request.{Request}
use Rattle.requests.proofs.Asking.{get_bytes}
use Rattle.requests.proofs.Theorems.{get_is_request, request_is_get, set_is_request, request_is_set}
use Rattle.endian.proofs.Little.{length_little}
use Rattle.answers.proofs.Fitting.{writable_said}
use Rattle.demands.specs.Sets.{place_in, value_in, is_complete}
use Rattle.demands.specs.Demand2.{WrittenIsHeard, WrittenIsAnswered, ReadAs, GetRead, GetIsUnderstood, SetRead, SetIsUnderstood}
use Rattle.answers.specs.declared.Core.{Core}
use Rattle.board.specs.declared.Board.{Board}
use Rattle.demands.specs.Talk.{talk, said_to_all, board_at}
use Rattle.demands.proofs.Cuts.{cutting_read, on_line}
use Rattle.demands.proofs.Listing.{set_writable}

-- a frame fed in any cutting, after any unfinished one
pub heard_written : WrittenIsHeard
heard_written command bytes nibble few small held long ok more offers all =
    let one = heard_from_anywhere (unfinished held) command bytes nibble few small more in
    box_whole held long ok (frame command bytes ++ more) offers all ∙ rw (one.0, one.1)

pub answered_written : WrittenIsAnswered
answered_written command bytes nibble few small board long ok more deeds e all =
    let row : List ℕ = frame command bytes ++ more in
    let core : Core = board.core in
    let u : Unfinished = unfinished board.held in
    let line : board ≡ board_at core u = on_line board long ok in
    let whole : (talk (board_at core u) row deeds).taken ≡ length row = subst (λ (b : Board). (talk b row deeds).taken ≡ length row) line all in
    let reads = cutting_read core u row deeds e in
    let frames : (talk (board_at core u) row deeds).frames ≡ frames_from u row = reads.frames_are ∙ ap (frames_from u) (ap (λ (n : ℕ). take n row) whole ∙ take-length row) in
    ap (λ (b : Board). (talk b row deeds).said) line ∙ reads.said_is
    ∙ ap (said_to_all core) (frames ∙ (heard_from_anywhere u command bytes nibble few small more).0)

-- the requests: bytes that are a frame are read as that frame
module _ (command : ℕ) (bytes : List ℕ) (nibble : command ≤ most_nibble) (few : length bytes ≤ most_data) (small : Bytes bytes) (more : List ℕ) where
  read_frame : (request : List ℕ) → request ≡ frame command bytes → ReadAs command bytes request more
  read_frame request is =
      subst (λ (l : List ℕ). ReadAs command bytes l more) (sym is)
      (record {
        frame_is = (written_is_heard command bytes nibble few small more).0;
        board_says = λ board deeds long ok calls all. answered_written command bytes nibble few small board long ok more deeds calls all;
      })

pub get_understood : GetIsUnderstood
get_understood id room more h enough = (one (get_written id room) (get_is_request id room h enough), one (writing (Request.Get id) room) (request_is_get id room h enough))
  where
    one : (given : Given Written) → Writes given (get_frame id) → GetRead id given.written more
    one given e =
        let w = writable_said 7 id 0 [] (leb-true 7 15 refl) (leb-true 1 256 refl) (leb-true 0 32 refl) refl in
        record {
          read_as_lem =
              read_frame 7 (said id 0 []) w.nibble w.few w.small more given.written
              (ap (λ (g : Given Written). g.written) e ∙ sym (get_bytes id h));
          id_is = little_is_read 2 id h;
        }

place_back : (k : ℕ) → k < count → place_of (id_at k) ≡ k
unfolding place_of
place_back k h = eqb-true _ _ (up_to_at count (λ i. eqb (place_of (id_at i)) i) refl k h)

set_read : (k n : ℕ) (more : List ℕ) → k < count → n < 256 ^ width_at k → (given : Given Written) → Writes given (set_request k n) → SetRead k n given.written more
unfolding is_complete
set_read k n more h fits given e =
    let w = set_writable k n h in
    let place : place_in (set_data k n) ≡ k = ap place_of (little_is_read 2 (id_at k) (rows_hold k h).id_holds) ∙ place_back k h in
    let long : 3 ≤ length (set_data k n) = omega arith in
    let wide : length (value_in (set_data k n)) ≡ width_at (place_in (set_data k n)) = length_little (width_at k) n ∙ ap width_at (sym place) in
    record {
      read_as_lem = read_frame 8 (set_data k n) w.nibble w.few w.small more given.written (ap (λ (g : Given Written). g.written) e);
      complete =
          both _ _ (ap (λ (b : Bool). b && true) (le-leb 3 (length (set_data k n)) long))
          (both _ _ (ap (λ (j : ℕ). ltb j count) place ∙ lt-ltb k count h) (eq-eqb _ _ wide));
      setting_is = place;
      number_is = little_is_read (width_at k) n fits;
    }

pub set_understood : SetIsUnderstood
set_understood setting n room more h is fits enough =
    let k : ℕ = setting.index in (
      set_read k n more h fits (set_written k n room) (set_is_request k n room h fits enough),
      set_read k n more h fits (writing (Request.Set (record { setting = setting; number = n })) room) (request_is_set setting n room h is fits enough),
    )
