-- The frames of the list, one after another. Assumes nothing.
use mathlib.Core.Path.{◌≡◌, ap, ap₂, ◌∙◌}
use mathlib.Core.Bool.{true}
use mathlib.Core.List.{List, [], ◌∷◌, map}
use Prim.Native.Nat.{ℕ, ◌*◌, ◌^◌, ◌≤◌, ◌<◌}
use native.Mathlib.Omega.{arith}
use borrow.Author.Tests.{ltb-true}
use lib.ListN.{length, take, length-append, length-take}
use lib.Dec.{ltb}
use Rattle.laws.specs.Lists.{every}
use Rattle.laws.specs.Promise.{Gives}
use Rattle.laws.proofs.Bools.{and_left, and_right}
use Rattle.laws.proofs.Promise.{overlaid_front}
use Rattle.wire.specs.Calls.{written_as}
use Rattle.std.specs.Prelude.{Ok}
use Rattle.wire.specs.Answers.{Written}
use Rattle.wire.proofs.Frames.{length_frame}
use Rattle.settings.specs.Columns.{count, width_at}
use Rattle.tables.specs.Rules.{allowed, number_at}
use Rattle.tables.specs.declared.Table.{Table}
use Rattle.settings.proofs.Theorems.{rows_hold, range_has_room}
use Rattle.tables.proofs.Tables.{range_at}
use Rattle.paper.specs.Numbers.{set_code}
use Rattle.requests.specs.Requests.{set_data, set_request}
use Rattle.requests.specs.Calls.{set_written}
use Rattle.endian.proofs.Little.{length_little}
use Rattle.requests.proofs.Theorems.{set_is_request}
use Rattle.restore.specs.Order.{wanted}
use Rattle.restore.specs.Calls.{frames_for}

-- a Set is at most 15 bytes long
pub request_short : (k n : ℕ) → k < count → length (set_request k n) ≤ 15
request_short k n h =
    let few : width_at k ≤ 2 = (rows_hold k h).width_most in
    let value = length_little (width_at k) n in
    rw (length_frame set_code (set_data k n)) (omega (arith, value))

-- what the request writer answers and leaves in a buffer with room
pub record Requested (k n : ℕ) (l : List ℕ) (len : ℕ) : Type 0 where
  pub size : len ≡ length (set_request k n)
  pub few : len ≤ 15
  pub inside : len ≤ length l
  pub front_is : take len l ≡ set_request k n

pub request_ok : (k n : ℕ) (buffer l : List ℕ) (r : Written) → k < count → n < 256 ^ width_at k → length buffer ≡ 75
    → Gives Written (set_written k n (length buffer)) buffer r l → Gives Written (written_as (set_request k n)) buffer r l
request_ok k n buffer l r h fits room g =
    let enough : 75 ≤ length buffer = omega (arith, room) in
    rw (set_is_request k n (length buffer) h fits enough) at g

pub request_written : (k n : ℕ) (buffer l : List ℕ) (r : Written) (len : ℕ) → k < count → n < 256 ^ width_at k → length buffer ≡ 75
    → Gives Written (set_written k n (length buffer)) buffer r l → r ≡ Ok len
    → Requested k n l len
request_written k n buffer l r len h fits room g e =
    let made = request_ok k n buffer l r h fits room g in
    let answered : r ≡ Ok (length (set_request k n)) = made.answered in
    let size : len ≡ length (set_request k n) = cc in
    let whole : take len l ≡ set_request k n = ap₂ (λ (m : ℕ) (b : List ℕ). take m b) size made.left ∙ overlaid_front (set_request k n) buffer in
    record {
      size = size;
      few = rw size (request_short k n h);
      inside = omega (arith, size, ap length whole, length-take len l);
      front_is = whole;
    }

-- A row of settings, of which some are written and the others left.
module _ (to : Table) where
  abbrev pub frames_at : List ℕ → List ℕ
  frames_at settings = frames_for (map (wanted to) settings)

  pub number_fits : allowed to ≡ true → (k : ℕ) → k < count → number_at to k < 256 ^ width_at k
  number_fits ok k h = range_has_room k (number_at to k) h (range_at to ok k h)

  pub frames_short : (settings : List ℕ) → every (λ k. ltb k count) settings ≡ true → length (frames_at settings) ≤ 15 * length settings
  frames_short [] e = omega arith
  frames_short (k ∷ more) e =
      let within : k < count = ltb-true _ _ (and_left (ltb k count) _ e) in
      let here : length (set_request k (number_at to k)) ≤ 15 = request_short k (number_at to k) within in
      let later : length (frames_at more) ≤ 15 * length more = frames_short more (and_right (ltb k count) _ e) in
      rw (length-append (set_request k (number_at to k)) (frames_at more)) (omega arith)
