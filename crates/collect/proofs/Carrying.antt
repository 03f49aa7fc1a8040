-- What is taken of an event is what it carries. Assumes nothing.
use mathlib.Core.Path.{◌≡◌, refl, sym, ap, ◌∙◌}
use mathlib.Core.Logic.{◌≢◌}
use mathlib.Core.Bool.{Bool, true, false, cond, ◌&&◌}
use mathlib.Core.List.{List, [], ◌∷◌, ◌++◌}
use Prim.Native.Nat.{ℕ, suc, ◌<◌}
use borrow.Author.Tests.{eqb-true, eqb-false, ltb-true}
use lib.ListN.{length, get_or, drop}
use lib.Dec.{ltb, eqb}
use Rattle.laws.specs.Lists.{every, same, Bytes}
use Rattle.laws.proofs.Lists.{every_drop, same_back, same_self}
use Rattle.paper.specs.Numbers.{get_code}
use Rattle.endian.specs.Numbers.{little, from_little, said}
use Rattle.endian.proofs.Little.{length_little}
use Rattle.endian.proofs.Theorems.{read_is_little}
use Rattle.settings.specs.Columns.{count, id_at, width_at}
use Rattle.settings.proofs.Theorems.{rows_hold}
use Rattle.reply.specs.Replies.{flag_of, rest}
use Rattle.reply.specs.Calls.{heeding}
use Rattle.reply.specs.Events.{Event, heard, refused_frame, no_answer, OnStream, nothing, a_frame, a_refusal, a_silence}
use Rattle.reply.specs.Laws.{Says, says_good, says_bad, says_nothing}
use Rattle.reply.specs.declared.Status.{Status}
use Rattle.std.specs.Prelude.{Some, None}
use Rattle.reply.specs.Answers.{Heeded}
use Rattle.reply.proofs.Flags.{flag_good, said_answers, none_answers}
use Rattle.reply.proofs.Theorems.{heed_is_said}
use Rattle.reply.specs.Events.{most_tries}
use Rattle.collect.specs.Collecting.{fits, valued, on_heeded, intake_of}
use Rattle.collect.specs.Laws.{good_reply, carries, Carried, following, carried_after}
use Rattle.collect.specs.declared.place.Intake.{Intake}
use Rattle.collect.proofs.Deciding.{heeded_is}
use Rattle.collect.proofs.Reaching.{so_far, taking, taking_on}

same_as : (xs ys : List ℕ) → xs ≡ ys → same xs ys ≡ true
same_as xs ys e = ap (same xs) (sym e) ∙ same_self xs

-- a reply to the Get of a place
module _ (l : List ℕ) (k : ℕ) (bytes : List ℕ) (small : every (λ b. ltb b 256) bytes ≡ true) where
  abbrev n : ℕ
  n = from_little (drop 3 bytes)

  abbrev told : Intake
  told = cond (same bytes (good_reply k n) && fits l k n) (Intake.Takes n) Intake.Stops

  told_not : same bytes (good_reply k n) ≡ false → Intake.Stops ≡ told
  told_not e = rw e

  -- another status is another flag
  other_flag : (status : Status) → status ≢ Status.Good → bytes ≡ said (id_at k) (flag_of status) (drop 3 bytes) → Intake.Stops ≡ told
  other_flag status bad e = told_not (by (same bytes (good_reply k n)) refl)
    where
      by : (b : Bool) → same bytes (good_reply k n) ≡ b → b ≡ false
      by false t = refl
      by true t = absurd (bad (flag_good status (ap (λ (x : List ℕ). get_or x 2 0) (sym e ∙ same_back bytes (good_reply k n) t))))

  good_told : bytes ≡ said (id_at k) 0 (drop 3 bytes) → valued l k (drop 3 bytes) ≡ told
  unfolding valued
  good_told e = by (eqb (length (drop 3 bytes)) (width_at k)) refl
    where
      differ : eqb (length (drop 3 bytes)) (width_at k) ≡ false → (b : Bool) → same bytes (good_reply k n) ≡ b → b ≡ false
      differ w false t = refl
      differ w true t =
          let is : drop 3 bytes ≡ little (width_at k) n = ap (λ (x : List ℕ). drop 3 x) (same_back bytes (good_reply k n) t) in
          absurd (eqb-false (length (drop 3 bytes)) (width_at k) w (ap length is ∙ length_little (width_at k) n))

      by : (b : Bool) → eqb (length (drop 3 bytes)) (width_at k) ≡ b
          → cond b (cond (fits l k n) (Intake.Takes n) Intake.Stops) Intake.Stops ≡ told
      by true w =
          let value : little (width_at k) n ≡ drop 3 bytes =
          ap (λ (i : ℕ). little i n) (sym (eqb-true (length (drop 3 bytes)) (width_at k) w)) ∙ read_is_little (drop 3 bytes) (record { below = every_drop (λ b. ltb b 256) 3 bytes small }) in
          let is : same bytes (good_reply k n) ≡ true = same_as bytes (good_reply k n) (e ∙ ap (said (id_at k) 0) (sym value)) in
          rw is
      by false w = told_not (differ w (same bytes (good_reply k n)) refl)

module _ (l : List ℕ) (k command : ℕ) (bytes : List ℕ) (small : Bytes bytes) where
  bad_carries : (status : Status) → status ≢ Status.Good → command ≡ get_code → bytes ≡ said (id_at k) (flag_of status) (rest bytes) → Intake.Stops ≡ carries l k (heard command bytes)
  unfolding carries
  bad_carries status bad is are =
      rw (said_answers get_code (id_at k) command bytes status is are) (other_flag l k bytes small.below status bad are)

  said_carries : (h : Heeded) → Says get_code (id_at k) command bytes h → on_heeded l k (rest bytes) h ≡ carries l k (heard command bytes)
  unfolding carries
  said_carries (Some Status.Good) (says_bad bad stated is are) = absurd (bad refl)
  said_carries (Some Status.Good) (says_good stated is are) =
      rw (said_answers get_code (id_at k) command bytes Status.Good is are) (good_told l k bytes small.below are)
  said_carries (Some Status.UnknownId) (says_bad bad stated is are) = bad_carries Status.UnknownId bad is are
  said_carries (Some Status.NotSupported) (says_bad bad stated is are) = bad_carries Status.NotSupported bad is are
  said_carries (Some Status.ParameterError) (says_bad bad stated is are) = bad_carries Status.ParameterError bad is are
  said_carries None (says_nothing none) = rw (none_answers get_code (id_at k) command bytes (λ status. none status refl))

  heard_carries : k < count → intake_of l k (heard command bytes) ≡ carries l k (heard command bytes)
  heard_carries h =
      let heeded = heeding get_code (id_at k) command bytes in
      sym (heeded_is l k command bytes heeded refl)
      ∙ said_carries heeded (heed_is_said get_code (id_at k) command bytes (rows_hold k h).id_holds small)

refused_carries : (l : List ℕ) (k : ℕ) → intake_of l k refused_frame ≡ carries l k refused_frame
unfolding intake_of carries
refused_carries l k = refl

silence_carries : (l : List ℕ) (k : ℕ) → intake_of l k no_answer ≡ carries l k no_answer
unfolding intake_of carries
silence_carries l k = refl

-- so what is taken of a row of events is what they carry
abbrev carried_on : ℕ → List ℕ → List Event → Intake → Carried
carried_on silences l more v =
    following (λ n. carried_after 0 (l ++ n ∷ []) more) (so_far l true) (carried_after silences l more)
    (cond (ltb (suc silences) most_tries) (carried_after (suc silences) l more) (so_far l true)) v

next_carried : (silences : ℕ) (l : List ℕ) (e : Event) (more : List Event) → (length l < count → intake_of l (length l) e ≡ carries l (length l) e)
    → ((n : ℕ) (m : List ℕ) → taking n m more ≡ carried_after n m more) → taking silences l (e ∷ more) ≡ carried_after silences l (e ∷ more)
next_carried silences l e more here later = by (ltb (length l) count) refl
  where
    after : (v : Intake) → taking_on silences l more v ≡ carried_on silences l more v
    after (Intake.Takes n) = later 0 (l ++ n ∷ [])
    after Intake.Stops = refl
    after Intake.Waits = later silences l
    after Intake.Silence = ap (λ (x : Carried). cond (ltb (suc silences) most_tries) x (so_far l true)) (later (suc silences) l)

    by : (b : Bool) → ltb (length l) count ≡ b
        → cond b (taking_on silences l more (intake_of l (length l) e)) (so_far l false) ≡ cond b (carried_on silences l more (carries l (length l) e)) (so_far l false)
    by false t = refl
    by true t = ap (taking_on silences l more) (here (ltb-true _ _ t)) ∙ after (carries l (length l) e)

pub taking_carried : {events : List Event} → OnStream events → (silences : ℕ) (l : List ℕ) → taking silences l events ≡ carried_after silences l events
taking_carried nothing silences l = refl
taking_carried (a_frame {command} {bytes} {more} small later) silences l =
    next_carried silences l (heard command bytes) more (λ h. heard_carries l (length l) command bytes small h) (λ n m. taking_carried later n m)
taking_carried (a_refusal {more} later) silences l =
    next_carried silences l refused_frame more (λ h. refused_carries l (length l)) (λ n m. taking_carried later n m)
taking_carried (a_silence {more} later) silences l =
    next_carried silences l no_answer more (λ h. silence_carries l (length l)) (λ n m. taking_carried later n m)
