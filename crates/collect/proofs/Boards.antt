-- A board that answers every Get is read; so every allowed state is reached. Assumes nothing.
use mathlib.Core.Path.{◌≡◌, refl, sym, ap, ap₂, subst, ◌∙◌}
use mathlib.Core.Bool.{Bool, true, false, cond, ◌&&◌}
use mathlib.Core.List.{List, [], ◌∷◌, ◌++◌, append-nil}
use Prim.Native.Nat.{ℕ, zero, suc, ◌+◌, ◌-◌, ◌/◌, ◌%◌, ◌^◌, ◌≤◌, ◌<◌}
use native.Mathlib.Omega.{arith}
use borrow.Author.Tests.{eq-eqb, eqb-true, ltb-true, ltb-false, leb-true}
use lib.ListN.{length, get_or, take, drop, replicate, length-append, length-drop, take-append-drop}
use lib.Dec.{ltb, leb, eqb}
use lib.Seq.{append_snoc, get_or-append_seam, length-take-le}
use Rattle.laws.specs.Lists.{Bytes}
use Rattle.laws.proofs.Bools.{and_left, and_right, both}
use Rattle.laws.proofs.Lists.{every_zero, up_to_at}
use Rattle.endian.specs.Numbers.{little, from_little, said}
use Rattle.endian.proofs.Theorems.{little_is_read}
use Rattle.settings.specs.Columns.{count, id_at, width_at}
use Rattle.settings.proofs.Theorems.{rows_hold, allowed_has_room}
use Rattle.endian.proofs.Little.{length_little, bytes_little}
use Rattle.paper.specs.Numbers.{get_code}
use Rattle.reply.specs.declared.Status.{Status}
use Rattle.std.specs.Prelude.{Some}
use Rattle.reply.specs.Calls.{heeding}
use Rattle.reply.proofs.Flags.{said_small}
use Rattle.reply.proofs.Heeding.{said_heeded}
use Rattle.reply.specs.Events.{Event, heard, no_answer, OnStream, nothing, a_frame, a_silence}
use Rattle.reply.specs.Events.{most_tries}
use Rattle.collect.specs.Collecting.{fits, valued, intake_of, moved, advanced, begun, within, all_fit, none_after, allowed}
use Rattle.collect.specs.Laws.{run, good_reply, replies}
use Rattle.collect.specs.declared.Collector.{Collector}
use Rattle.collect.specs.declared.place.Intake.{Intake}
use Rattle.collect.proofs.Deciding.{heeded_is}
use Rattle.collect.proofs.Moving.{few_answered, allowed_within, silence_counts}
use Rattle.collect.proofs.Fitting.{fits_front, AllFit, front_fit}
use Rattle.collect.proofs.Reaching.{zeros, shaped, held, begun_held, held_waits, next_length, held_takes, held_advances, held_halts, held_silenced, held_ended}

-- a good reply to the Get of a place is taken
fits_room : (l : List ℕ) (k n : ℕ) → k < count → fits l k n ≡ true → n < 256 ^ width_at k
unfolding fits
fits_room l k n h f = allowed_has_room k n _ h f

valued_takes : (l : List ℕ) (k : ℕ) (v : List ℕ) (n : ℕ) → length v ≡ width_at k → from_little v ≡ n → fits l k n ≡ true → valued l k v ≡ Intake.Takes n
unfolding valued
valued_takes l k v n wide is f = rw (eq-eqb (length v) (width_at k) wide, is, f)

reply_taken : (l : List ℕ) (k n : ℕ) → k < count → fits l k n ≡ true → intake_of l k (heard get_code (good_reply k n)) ≡ Intake.Takes n
reply_taken l k n h f =
    let number : from_little (little (width_at k) n) ≡ n = little_is_read (width_at k) n (fits_room l k n h f) in
    let good : heeding get_code (id_at k) get_code (good_reply k n) ≡ (Some Status.Good) = said_heeded get_code (id_at k) (rows_hold k h).id_holds refl Status.Good (little (width_at k) n) in
    sym (heeded_is l k get_code (good_reply k n) (Some Status.Good) good) ∙ valued_takes l k (little (width_at k) n) n (length_little (width_at k) n) number f

pub board_run : (more l : List ℕ) → AllFit (l ++ more) → length (l ++ more) ≤ count → run (held l 0) (replies (length l) more) ≡ held (l ++ more) 0
board_run [] l all few = ap (λ (m : List ℕ). held m 0) (sym (append-nil l))
board_run (n ∷ more) l all few =
    let size : length (l ++ n ∷ more) ≡ length l + suc (length more) = length-append l (n ∷ more) in
    let h : length l < count = omega arith in
    let there : length l < length (l ++ n ∷ more) = omega arith in
    let most : length l ≤ length l = omega arith in
    let fit : fits l (length l) n ≡ true =
    sym (fits_front l (n ∷ more) (length l) n most) ∙ ap (fits (l ++ n ∷ more) (length l)) (sym (get_or-append_seam l n more 0)) ∙ all.at (length l) there in
    let e : Event = heard get_code (good_reply (length l) n) in
    let one : advanced (held l 0) e ≡ held (l ++ n ∷ []) 0 =
    held_advances l 0 h e ∙ ap (moved (held l 0)) (reply_taken l (length l) n h fit) ∙ held_takes l 0 h n in
    let snoc : (l ++ n ∷ []) ++ more ≡ l ++ n ∷ more = append_snoc l n more in
    ap₂ (λ (c : Collector) (k : ℕ). run c (replies k more)) one (sym (next_length l n))
    ∙ board_run more (l ++ n ∷ []) (subst AllFit (sym snoc) all) (rw snoc few)
    ∙ ap (λ (m : List ℕ). held m 0) snoc

-- one row of events after another
pub run_append : (c : Collector) (xs ys : List Event) → run c (xs ++ ys) ≡ run (run c xs) ys
run_append c [] ys = refl
run_append c (x ∷ xs) ys = run_append (advanced c x) xs ys

-- a board's replies are ones that a stream can give
replies_stream : (numbers : List ℕ) (k : ℕ) {more : List Event} → OnStream more → OnStream (replies k numbers ++ more)
replies_stream [] k r = r
replies_stream (n ∷ numbers) k r = a_frame (said_small (id_at k) (width_at k) n) (replies_stream numbers (suc k) r)

silences_stream : (n : ℕ) {more : List Event} → OnStream more → OnStream (replicate n no_answer ++ more)
silences_stream zero r = r
silences_stream (suc n) r = a_silence (silences_stream n r)

unknown_small : (id : ℕ) → Bytes (said id 1 [])
unknown_small id =
    let front = bytes_little 2 id in
    let low = and_left (ltb (id % 256) 256) _ front in
    let high = and_left (ltb (id / 256 % 256) 256) true (and_right (ltb (id % 256) 256) _ front) in
    record { below = both _ _ low (both _ _ high refl) }

same_state : (c d : Collector) → c.len ≡ d.len → c.numbers ≡ d.numbers → c.silences ≡ d.silences → c.stopped ≡ d.stopped → c ≡ d
same_state c d e f g h = λ i. record { len = e i; numbers = f i; silences = g i; stopped = h i }

-- silences, and a reply that turns the Get down
module _ (l : List ℕ) (h : length l < count) where
  one_silence : (n : ℕ) → suc n < most_tries → advanced (held l n) no_answer ≡ held l (suc n)
  one_silence n k = sym (silence_counts (held l n) (held_waits l n h)) ∙ held_silenced l n k

  silent_run : (n before : ℕ) → before + n < most_tries → run (held l before) (replicate n no_answer) ≡ held l (before + n)
  silent_run zero before k = ap (held l) (let none : before ≡ before + 0 = omega arith in none)
  silent_run (suc n) before k =
      ap (λ (c : Collector). run c (replicate n no_answer)) (one_silence before (omega arith))
      ∙ silent_run n (suc before) (omega arith)
      ∙ ap (held l) (let sum : suc before + n ≡ before + suc n = omega arith in sum)

  silent_from : (n : ℕ) → n < most_tries → run (held l 0) (replicate n no_answer) ≡ held l n
  silent_from n k = silent_run n 0 (omega arith) ∙ ap (held l) (let same : 0 + n ≡ n = omega arith in same)

  last_silence : advanced (held l 2) no_answer ≡ shaped l most_tries true
  last_silence = sym (silence_counts (held l 2) (held_waits l 2 h)) ∙ held_ended l 2 refl

  abbrev unknown : Event
  unknown = heard get_code (said (id_at (length l)) 1 [])

  turned_down : (n : ℕ) → advanced (held l n) unknown ≡ shaped l n true
  turned_down n =
      let bad : heeding get_code (id_at (length l)) get_code (said (id_at (length l)) 1 []) ≡ Some Status.UnknownId =
      said_heeded get_code (id_at (length l)) (rows_hold (length l) h).id_holds refl Status.UnknownId [] in
      held_advances l n h unknown
      ∙ ap (moved (held l n)) (sym (heeded_is l (length l) get_code (said (id_at (length l)) 1 []) (Some Status.UnknownId) bad))
      ∙ held_halts l n

-- the numbers of an allowed collector, as they were answered
module _ (c : Collector) (long : length c.numbers ≡ count) (ok : allowed c ≡ true) where
  abbrev l : List ℕ
  l = take c.len c.numbers

  few : c.len ≤ count
  few = few_answered c.len c.silences c.stopped (allowed_within c ok)

  l_long : length l ≡ c.len
  l_long = length-take-le c.len c.numbers (rw long few)

  rest_fit : (all_fit c.numbers c.len && none_after c.numbers c.len) ≡ true
  unfolding allowed
  rest_fit = and_right (within c.len c.silences c.stopped) _ ok

  numbers_are : c.numbers ≡ l ++ zeros l
  numbers_are =
      let none : drop c.len c.numbers ≡ replicate (length (drop c.len c.numbers)) 0 =
      every_zero (drop c.len c.numbers) (and_right (all_fit c.numbers c.len) _ rest_fit) in
      let size : length (drop c.len c.numbers) ≡ count - length l =
      length-drop c.len c.numbers ∙ ap₂ (λ (m n : ℕ). m - n) long (sym l_long) in
      sym (take-append-drop c.len c.numbers) ∙ ap (λ (r : List ℕ). l ++ r) (none ∙ ap (λ (m : ℕ). replicate m 0) size)

  numbers_fit : (j : ℕ) → j < c.len → fits c.numbers j (get_or c.numbers j 0) ≡ true
  unfolding all_fit
  numbers_fit j h = up_to_at c.len (λ i. fits c.numbers i (get_or c.numbers i 0)) (and_left _ (none_after c.numbers c.len) rest_fit) j h

  l_fit : AllFit l
  l_fit =
      front_fit l (zeros l)
      (λ j h. subst (λ (x : List ℕ). fits x j (get_or x j 0) ≡ true) numbers_are (numbers_fit j (rw l_long at h)))

  l_run : run begun (replies 0 l) ≡ held l 0
  l_run = rw begun_held (board_run l [] l_fit (rw l_long few))

  -- and then these events
  after : (events : List Event) (d : Collector) → run (held l 0) events ≡ d → run begun (replies 0 l ++ events) ≡ d
  after events d e = run_append begun (replies 0 l) events ∙ ap (λ (x : Collector). run x events) l_run ∙ e

  is_shaped : (s : Bool) → c.stopped ≡ s → c ≡ shaped l c.silences s
  is_shaped s e = same_state c (shaped l c.silences s) (sym l_long) numbers_are refl e

  abbrev Reached : Type 0
  Reached = (events : List Event) × OnStream events × (c ≡ run begun events)

  by_events : (s : Bool) → c.stopped ≡ s → (events : List Event) → OnStream events → run (held l 0) events ≡ shaped l c.silences s → Reached
  by_events s e events o r = (replies 0 l ++ events, replies_stream l 0 o, is_shaped s e ∙ sym (after events (shaped l c.silences s) r))

  silent_stream : (n : ℕ) → OnStream (replicate n no_answer)
  silent_stream n = subst OnStream (append-nil (replicate n no_answer)) (silences_stream n nothing)

  waiting_reached : c.stopped ≡ false → (b : Bool) → ltb c.len count ≡ b → cond b (ltb c.silences most_tries) (eqb c.len count && eqb c.silences 0) ≡ true → Reached
  waiting_reached e true t w =
      let less : length l < count = rw l_long (ltb-true _ _ t) in
      by_events false e (replicate c.silences no_answer) (silent_stream c.silences) (silent_from l less c.silences (ltb-true _ _ w))
  waiting_reached e false t w =
      let none : c.silences ≡ 0 = eqb-true c.silences 0 (and_right (eqb c.len count) (eqb c.silences 0) w) in
      by_events false e [] nothing (ap (held l) (sym none))

  stopped_reached : c.stopped ≡ true → length l < count → (b : Bool) → ltb c.silences most_tries ≡ b → c.silences ≤ most_tries → Reached
  stopped_reached e less true t most =
      by_events true e (replicate c.silences no_answer ++ unknown l less ∷ []) (silences_stream c.silences (a_frame (unknown_small _) nothing))
      (run_append (held l 0) (replicate c.silences no_answer) (unknown l less ∷ [])
      ∙ ap (λ (d : Collector). advanced d (unknown l less)) (silent_from l less c.silences (ltb-true _ _ t))
      ∙ turned_down l less c.silences)
  stopped_reached e less false t most =
      let past : most_tries ≤ c.silences = ltb-false _ _ t in
      let last : most_tries ≡ c.silences = omega arith in
      by_events true e (no_answer ∷ no_answer ∷ no_answer ∷ []) (a_silence (a_silence (a_silence nothing)))
      (ap (λ (d : Collector). advanced d no_answer) (silent_from l less 2 (omega arith)) ∙ last_silence l less ∙ ap (λ (n : ℕ). shaped l n true) last)

  pub reached : (s : Bool) → c.stopped ≡ s → within c.len c.silences s ≡ true → Reached
  reached false e w = waiting_reached e (ltb c.len count) refl w
  reached true e w =
      let few : c.len < count = ltb-true _ _ (and_left (ltb c.len count) (leb c.silences most_tries) w) in
      stopped_reached e (rw l_long few) (ltb c.silences most_tries) refl (leb-true _ _ (and_right (ltb c.len count) (leb c.silences most_tries) w))
