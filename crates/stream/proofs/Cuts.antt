-- The stream in any cutting, and the first frame end. Assumes nothing.
use mathlib.Core.Path.{◌≡◌, refl, sym, ap, ◌∙◌}
use mathlib.Core.Bool.{Bool, true, false, cond, false≢true}
use mathlib.Core.List.{List, [], ◌∷◌, ◌++◌, append_assoc, append-nil}
use Prim.Native.Nat.{ℕ, suc, ◌+◌, ◌≤◌, ◌<◌, min}
use native.Mathlib.Nat.{not-suc-le-zero, le_of_suc-le-suc}
use native.Mathlib.Omega.{arith}
use borrow.Author.Tests.{ltb-true, ltb-false, leb-true, eq-eqb}
use lib.ListN.{length, take}
use lib.Seq.{take-nil}
use lib.Dec.{ltb, leb, eqb}
use Rattle.laws.specs.Lists.{every}
use Rattle.laws.specs.Promise.{Given}
use Rattle.laws.specs.Cutting.{Step, Offer, calls}
use Rattle.laws.proofs.Cutting as cutting
use Rattle.wire.specs.Digits.{is_digit}
use Rattle.paper.specs.Numbers.{colon, newline, number_of}
use Rattle.wire.specs.Parsing.{Ended, good, refused, data_of, bad_count, sums_up, body_says, broken_says}
use Rattle.wire.specs.Calls.{read_as}
use Rattle.wire.proofs.Answers.{body_long, body_strange, body_count, body_sum, body_good, broken_long, broken_short}
use Rattle.stream.specs.Stream.{Unfinished, outside, inside, next, ended_by, ends, first_end, taken, frames_from, left_from, left_by}
use Rattle.stream.specs.Calls.{held_of, unfinished, allowed, heard_of, event_of, event_from, data_of_first}
use Rattle.stream.specs.Laws.{frame_in, step_of, hears, AnyCutting, FirstAt, FirstEndIsFirst, to_the_end, HearsToTheEnd, AllIsTaken, EmptyChangesNothing, RefusedIsSmall}
use Rattle.stream.specs.declared.Held.{Held}
use Rattle.paper.specs.declared.Refusal.{Refusal}
use Rattle.std.specs.Prelude.{Err}
use Rattle.stream.specs.declared.Heard.{Heard}
use Rattle.stream.proofs.Streams.{left_append, frames_append, none_ends, taken_within}
use Rattle.stream.proofs.Answers.{hearing_short, hearing_stray, hearing_heard}
use Rattle.stream.proofs.Helds.{held_same}
use Rattle.stream.proofs.Reached.{heard_allowed, allowed_left, kept, unfinished_kept, kept_frames, kept_left}

-- A frame that ends is seen as what it says: its refusals are 1 to 4.

body_seen : (chars : List ℕ) → frame_in (event_from (read_as (body_says chars)).answer) (read_as (body_says chars)).written ≡ body_says chars ∷ []
body_seen chars = by (ltb 73 (length chars)) (every is_digit chars) (bad_count (length chars)) (sums_up chars) refl refl refl refl
  where
    by : (a b c d : Bool) → ltb 73 (length chars) ≡ a → every is_digit chars ≡ b → bad_count (length chars) ≡ c → sums_up chars ≡ d
        → frame_in (event_from (read_as (body_says chars)).answer) (read_as (body_says chars)).written ≡ body_says chars ∷ []
    by true b c d p q r s = rw (body_long chars (ltb-true 73 _ p))
    by false false c d p q r s = rw (body_strange chars (ltb-false 73 _ p) q)
    by false true true d p q r s = rw (body_count chars (ltb-false 73 _ p) q r)
    by false true false false p q r s = rw (body_sum chars (ltb-false 73 _ p) q r s)
    by false true false true p q r s = rw (body_good chars (ltb-false 73 _ p) q r s, eq-eqb (length (data_of chars)) _ refl)

broken_seen : (count : ℕ) → frame_in (event_from (read_as (broken_says count)).answer) (read_as (broken_says count)).written ≡ broken_says count ∷ []
broken_seen count = by (ltb 73 count) refl
  where
    by : (t : Bool) → ltb 73 count ≡ t → frame_in (event_from (read_as (broken_says count)).answer) (read_as (broken_says count)).written ≡ broken_says count ∷ []
    by true e = rw (broken_long count (ltb-true 73 count e))
    by false e = rw (broken_short count (ltb-false 73 count e))

abbrev seen : List Ended → List Ended
seen fs = frame_in (event_of fs) (data_of_first fs)

-- a byte that ends a frame ends one
ended_seen : (u : Unfinished) (b : ℕ) → ends u b ≡ true → (seen (ended_by u b) ≡ ended_by u b) × ((f : Ended) × (ended_by u b ≡ f ∷ []))
ended_seen outside b e = absurd (false≢true e)
ended_seen (inside chars) b e = by (eqb b newline) (eqb b colon) refl refl
  where
    by : (s t : Bool) → eqb b newline ≡ s → eqb b colon ≡ t → (seen (ended_by (inside chars) b) ≡ ended_by (inside chars) b) × ((f : Ended) × (ended_by (inside chars) b ≡ f ∷ []))
    by true t p q = rw p (body_seen chars, (body_says chars, refl))
    by false true p q = rw (p, q) (broken_seen (length chars), (broken_says (length chars), refl))
    by false false p q = absurd (false≢true (rw (p, q) at e))

-- The bytes up to the first end, one after the other.

taken_here : (u : Unfinished) (b : ℕ) (rest : List ℕ) → ends u b ≡ true → taken u (b ∷ rest) ≡ 1
unfolding taken
taken_here u b rest e = rw e (omega arith)

taken_later : (u : Unfinished) (b : ℕ) (rest : List ℕ) → ends u b ≡ false → taken u (b ∷ rest) ≡ suc (taken (next u b) rest)
unfolding taken
taken_later u b rest e = rw e (omega arith)

call_seen : (u : Unfinished) (piece : List ℕ) → seen (frames_from u (take (taken u piece) piece)) ≡ frames_from u (take (taken u piece) piece)
call_seen u [] = rw take-nil
call_seen u (b ∷ rest) = by (ends u b) refl (call_seen (next u b) rest)
  where
    by : (t : Bool) → ends u b ≡ t → seen (frames_from (next u b) (take (taken (next u b) rest) rest)) ≡ frames_from (next u b) (take (taken (next u b) rest) rest)
        → seen (frames_from u (take (taken u (b ∷ rest)) (b ∷ rest))) ≡ frames_from u (take (taken u (b ∷ rest)) (b ∷ rest))
    by true e later = rw (taken_here u b rest e, append-nil) (ended_seen u b e).0
    by false e later = rw (taken_later u b rest e, none_ends u b e) later

-- so a frame's number is at most 4
pub refused_small : RefusedIsSmall
refused_small held piece room refusal ok enough e =
    by (frames_from u (take (taken u piece) piece)) (call_seen u piece) (rw (hearing_heard held piece room enough ok) at e)
  where
    u : Unfinished
    u = unfinished held

    small : (r : Refusal) (rest : List Ended) (t : Bool) → ltb 4 (number_of r) ≡ t → seen (refused r ∷ rest) ≡ refused r ∷ rest → number_of r ≤ 4
    small r rest true p s = let z : ◌≡◌ {A = ℕ} 0 (suc (length rest)) = ap length (rw p at s) in absurd (omega arith)
    small r rest false p s = ltb-false 4 (number_of r) p

    by : (fs : List Ended) → seen fs ≡ fs → event_of fs ≡ Err refusal → number_of refusal ≤ 4
    by [] s is = let impossible : ⊥ = cc in absurd impossible
    by (good command bytes ∷ rest) s is = let impossible : ⊥ = cc in absurd impossible
    by (refused r ∷ rest) s is = let same : r ≡ refusal = cc in rw (sym same) (small r rest (ltb 4 (number_of r)) refl s)

pub first_end_lem : FirstEndIsFirst
first_end_lem u [] = record { none_before = refl; one_there = λ h. absurd (not-suc-le-zero h) }
first_end_lem u (b ∷ rest) = by (ends u b) refl (first_end_lem (next u b) rest)
  where
    by : (t : Bool) → ends u b ≡ t → FirstAt (next u b) rest → FirstAt u (b ∷ rest)
    by true e later =
        record {
          none_before = rw e;
          one_there = λ h. ((ended_seen u b e).1.0, rw (e, append-nil) (ended_seen u b e).1.1);
        }
    by false e later =
        record {
          none_before = rw (e, none_ends u b e) later.none_before;
          one_there = λ h. rw (e, none_ends u b e) (later.one_there (le_of_suc-le-suc (rw e at h)));
        }

-- One call, from any state that bytes left: the reading is where the earlier bytes left it.

abbrev Reads : List ℕ → List ℕ → Step Held Ended → Type 0
Reads = cutting.Reads hears (λ (e : List ℕ). held_of (left_by e)) (λ (e : List ℕ). frames_from (left_by e)) (λ (e xs : List ℕ). e ++ xs)

heard_reads : (earlier piece : List ℕ) → Reads earlier piece (step_of (heard_of (kept (left_by earlier)) piece))
heard_reads earlier piece =
    let u : Unfinished = kept (left_by earlier) in
    let bytes : List ℕ = take (taken u piece) piece in
    record {
      within = taken_within u piece;
      state_is = kept_left (left_by earlier) bytes ∙ ap held_of (sym (left_append outside earlier bytes));
      events_are = call_seen u piece ∙ kept_frames (left_by earlier) bytes;
    }

-- a call is refused and comes to nothing, or it is heard
each_way : (P : Step Held Ended → Type 0) (held : Held) (room : ℕ) (piece : List ℕ) → P (record { state = held; events = []; taken = 0 })
    → (allowed held ≡ true → P (step_of (heard_of (unfinished held) piece))) → P (hears held room piece)
each_way P held room piece idle heard = by (ltb room 35) (allowed held) refl refl
  where
    by : (s t : Bool) → ltb room 35 ≡ s → allowed held ≡ t → P (hears held room piece)
    by true t e f = rw (hearing_short held piece room (ltb-true room 35 e)) idle
    by false false e f = rw (hearing_stray held piece room (ltb-false room 35 e) f) idle
    by false true e f = rw (hearing_heard held piece room (ltb-false room 35 e) f) (heard f)

one_call : (earlier : List ℕ) (room : ℕ) (piece : List ℕ) → Reads earlier piece (hears (held_of (left_by earlier)) room piece)
one_call earlier room piece =
    each_way (Reads earlier piece) (held_of (left_by earlier)) room piece (record { within = omega arith; state_is = rw append-nil; events_are = refl })
    (λ ok. rw (unfinished_kept (left_by earlier)) (heard_reads earlier piece))

-- the reading of earlier bytes goes on in the next ones
says_append : (e xs ys : List ℕ) → frames_from (left_by e) (xs ++ ys) ≡ frames_from (left_by e) xs ++ frames_from (left_by (e ++ xs)) ys
says_append e xs ys = frames_append (left_by e) xs ys ∙ ap (λ (u : Unfinished). frames_from (left_by e) xs ++ frames_from u ys) (sym (left_append outside e xs))

row_reads : (earlier bytes : List ℕ) (offers : List (Offer ℕ)) → Reads earlier bytes (calls hears (held_of (left_by earlier)) bytes offers)
row_reads =
    cutting.any_cutting hears (λ (e : List ℕ). held_of (left_by e)) (λ (e : List ℕ). frames_from (left_by e)) (λ (e xs : List ℕ). e ++ xs)
    (λ e. refl) append-nil says_append (λ e xs ys. sym (append_assoc e xs ys)) one_call

pub any_cutting : AnyCutting
any_cutting earlier bytes offers =
    let all = row_reads earlier bytes offers in
    record { within = all.within; state_is = all.state_is; events_are = all.events_are }

-- a call with room enough takes a byte where there is one
taken_some : (u : Unfinished) (piece : List ℕ) → min 1 (length piece) ≤ taken u piece
unfolding taken
taken_some u piece = omega arith

goes_on : (held : Held) (room : ℕ) (piece : List ℕ) → allowed held ≡ true → leb 35 room ≡ true → min 1 (length piece) ≤ (hears held room piece).taken
goes_on held room piece ok e = rw (hearing_heard held piece room (leb-true 35 room e) ok) (taken_some _ piece)

pub all_taken : AllIsTaken
all_taken =
    cutting.all_taken hears (λ (held : Held). allowed held ≡ true) (λ room. leb 35 room)
    (λ held room piece. each_way (λ (s : Step Held Ended). s.taken ≤ length piece) held room piece (omega arith) (λ ok. taken_within (unfinished held) piece)) goes_on
    (λ held room piece ok. each_way (λ (s : Step Held Ended). allowed s.state ≡ true) held room piece ok
    (λ f. heard_allowed held f (take (taken (unfinished held) piece) piece)))

-- An allowed state is one that bytes left, so all this is said of any of them.
module _ (held : Held) (long : length held.chars.bytes ≡ 74) where
  pub whole_heard : allowed held ≡ true → (bytes : List ℕ) (offers : List (Offer ℕ)) → (calls hears held bytes offers).taken ≡ length bytes
      → calls hears held bytes offers ≡ record { state = held_of (left_from (unfinished held) bytes); events = frames_from (unfinished held) bytes; taken = length bytes }
  whole_heard ok bytes offers all =
      let left = (allowed_left held long).0 ok in
      let u : Unfinished = left_by left.0 in
      let row = row_reads left.0 bytes offers in
      rw (← left.1)
      (cutting.read_whole hears (λ (e : List ℕ). held_of (left_by e)) (λ (e : List ℕ). frames_from (left_by e)) (λ (e xs : List ℕ). e ++ xs) left.0 bytes _ row (rw (← left.1) at all)
      ∙ rw (unfinished_kept u, kept_frames u bytes, kept_left u bytes, left_append outside left.0 bytes))

  pub changes_nothing : (bytes : List ℕ) (offers offers' : List (Offer ℕ)) → (calls hears held bytes offers).taken ≡ (calls hears held bytes offers').taken
      → calls hears held bytes offers ≡ calls hears held bytes offers'
  changes_nothing bytes offers offers' same = by (allowed held) refl
    where
      idle : allowed held ≡ false → (room : ℕ) (piece : List ℕ) → hears held room piece ≡ record { state = held; events = []; taken = 0 }
      idle e room piece =
          each_way (λ (s : Step Held Ended). s ≡ record { state = held; events = []; taken = 0 }) held room piece refl (λ f. absurd (false≢true (sym e ∙ f)))

      by : (t : Bool) → allowed held ≡ t → calls hears held bytes offers ≡ calls hears held bytes offers'
      by false e = cutting.all_idle hears held (idle e) bytes offers ∙ sym (cutting.all_idle hears held (idle e) bytes offers')
      by true e =
          let left = (allowed_left held long).0 e in
          rw (← left.1)
          (cutting.read_same hears (λ (e : List ℕ). held_of (left_by e)) (λ (e : List ℕ). frames_from (left_by e)) (λ (e xs : List ℕ). e ++ xs) left.0 bytes _ _
          (row_reads left.0 bytes offers) (row_reads left.0 bytes offers') (rw (← left.1) at same))

pub empty_nothing : EmptyChangesNothing
unfolding taken
empty_nothing held room long ok h = hearing_heard held [] room h ok ∙ rw (held_same held ok long)

-- the place of the first frame end, plus one, or the whole length
pub taken_is : (u : Unfinished) (piece : List ℕ) → taken u piece ≡ to_the_end u piece
unfolding taken
taken_is u piece = by (ltb (first_end u piece) (length piece)) refl
  where
    by : (t : Bool) → ltb (first_end u piece) (length piece) ≡ t → min (suc (first_end u piece)) (length piece) ≡ cond t (first_end u piece + 1) (length piece)
    by true e = let less : first_end u piece < length piece = ltb-true _ _ e in omega arith
    by false e = let past : length piece ≤ first_end u piece = ltb-false _ _ e in omega arith

pub hears_to_the_end : HearsToTheEnd
hears_to_the_end held piece room ok enough =
    ap (λ (g : Given Heard). g.answer.taken) (hearing_heard held piece room enough ok) ∙ taken_is (unfinished held) piece
