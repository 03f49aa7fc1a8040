-- An event, in bytes and by what it says to the Set that is due: the same of both says whether it confirms, stops or waits. Assumes nothing.
use mathlib.Core.Path.{◌≡◌, refl, sym, ap, ap₂, ◌∙◌}
use mathlib.Core.Bool.{Bool, true, false, cond, false≢true}
use mathlib.Core.Logic.{◌≢◌}
use mathlib.Core.List.{List}
use Prim.Native.Nat.{ℕ, ◌^◌, ◌<◌}
use borrow.Author.Tests.{eqb-true, eq-eqb}
use lib.ListN.{length, drop, get_or}
use lib.Dec.{eqb, ltb}
use Rattle.laws.proofs.Bools.{and_left, and_right, both}
use Rattle.laws.proofs.Lists.{every_drop, same_back, same_self}
use Rattle.paper.specs.Numbers.{set_code}
use Rattle.endian.specs.Numbers.{little, from_little, said}
use Rattle.laws.specs.Lists.{Bytes}
use Rattle.endian.proofs.Little.{length_little}
use Rattle.endian.proofs.Theorems.{little_is_read, read_is_little}
use Rattle.reply.specs.Replies.{flag_of, rest}
use Rattle.reply.specs.Calls.{heeding}
use Rattle.reply.specs.Events.{Event, heard, refused_frame, no_answer}
use Rattle.reply.specs.Laws.{Says, says_good, says_bad, says_nothing}
use Rattle.reply.specs.declared.Status.{Status}
use Rattle.std.specs.Prelude.{Some, None}
use Rattle.reply.specs.Answers.{Heeded}
use Rattle.reply.proofs.Flags.{flag_good, said_answers, none_answers}
use Rattle.reply.proofs.Theorems.{heed_is_said}
use Rattle.requests.specs.declared.Wanted.{Wanted}
use Rattle.requests.specs.declared.Request.{Request}
use Rattle.follow.specs.Following.{carries, on_status, on_heeded, on_reply, effect_of}
use Rattle.follow.specs.Laws.{own_data, matches, ends}
use Rattle.follow.specs.declared.effect.Effect.{Effect}
use Rattle.follow.proofs.Effects.{heeded_is}

no_test : (b : Bool) → (b ≡ true → ⊥) → b ≡ false
no_test true h = absurd (h refl)
no_test false h = refl

-- a Set that a table wants: its id and its number have their room
pub record Sound (due : Wanted) : Type 0 where
  pub id_fits : due.setting.id < 256 ^ 2
  pub number_fits : due.number < 256 ^ due.setting.width

module _ (due : Wanted) (sound : Sound due) (command : ℕ) (bytes : List ℕ) (small : Bytes bytes) where
  abbrev id : ℕ
  id = due.setting.id

  matches_said : matches due (heard command bytes) ≡ true → (command ≡ set_code) × (bytes ≡ own_data due)
  matches_said e = (eqb-true command set_code (and_left (eqb command set_code) _ e), same_back bytes (own_data due) (and_right (eqb command set_code) _ e))

  -- flag 00 and the number in its width are the Set's own data
  own_bytes : command ≡ set_code → bytes ≡ said id 0 (rest bytes) → carries due (rest bytes) ≡ true → matches due (heard command bytes) ≡ true
  unfolding carries
  own_bytes is are carried =
      let wide : length (rest bytes) ≡ due.setting.width = eqb-true _ _ (and_left (eqb (length (rest bytes)) due.setting.width) _ carried) in
      let number : from_little (rest bytes) ≡ due.number = eqb-true _ _ (and_right (eqb (length (rest bytes)) due.setting.width) _ carried) in
      let value : little due.setting.width due.number ≡ rest bytes =
      ap₂ (λ (w n : ℕ). little w n) (sym wide) (sym number) ∙ read_is_little (rest bytes) (record { below = every_drop (λ b. ltb b 256) 3 bytes small.below }) in
      let is-own : bytes ≡ own_data due = are ∙ ap (said id 0) (sym value) in
      both _ _ (eq-eqb command set_code is) (rw is-own (same_self (own_data due)))

  own_carried : matches due (heard command bytes) ≡ true → carries due (rest bytes) ≡ true
  unfolding carries
  own_carried e =
      let value : rest bytes ≡ little due.setting.width due.number = ap (drop 3) (matches_said e).1 in
      let wide : length (little due.setting.width due.number) ≡ due.setting.width = length_little due.setting.width due.number in
      let number : from_little (little due.setting.width due.number) ≡ due.number = little_is_read due.setting.width due.number sound.number_fits in
      rw value (both _ _ (eq-eqb _ _ wide) (eq-eqb _ _ number))

  -- the Set's own reply has flag 00
  own_flag : (status : Status) → bytes ≡ said id (flag_of status) (rest bytes) → matches due (heard command bytes) ≡ true → status ≡ Status.Good
  own_flag status are e = flag_good status (ap (λ (l : List ℕ). get_or l 2 0) (sym are ∙ (matches_said e).1))

  abbrev meant : Effect
  meant = cond (matches due (heard command bytes)) Effect.Confirms (cond (ends due (heard command bytes)) Effect.Stops Effect.Waits)

  good_effect : command ≡ set_code → bytes ≡ said id 0 (rest bytes) → on_status due (rest bytes) Status.Good ≡ meant
  good_effect is are = by (carries due (rest bytes)) refl
    where
      by : (b : Bool) → carries due (rest bytes) ≡ b → cond b Effect.Confirms Effect.Stops ≡ meant
      by true e = rw (own_bytes is are e)
      by false e =
          rw (no_test (matches due (heard command bytes)) (λ m. false≢true (sym e ∙ own_carried m)), said_answers set_code id command bytes Status.Good is are)

  bad_effect : (status : Status) → status ≢ Status.Good → command ≡ set_code → bytes ≡ said id (flag_of status) (rest bytes) → Effect.Stops ≡ meant
  bad_effect status bad is are =
      rw (no_test (matches due (heard command bytes)) (λ m. bad (own_flag status are m)), said_answers set_code id command bytes status is are)

  said_effect : (h : Heeded) → Says set_code id command bytes h → on_heeded due (rest bytes) h ≡ meant
  said_effect (Some Status.Good) (says_good stated is are) = good_effect is are
  said_effect (Some Status.Good) (says_bad bad stated is are) = absurd (bad refl)
  said_effect (Some Status.UnknownId) (says_bad bad stated is are) = bad_effect Status.UnknownId bad is are
  said_effect (Some Status.NotSupported) (says_bad bad stated is are) = bad_effect Status.NotSupported bad is are
  said_effect (Some Status.ParameterError) (says_bad bad stated is are) = bad_effect Status.ParameterError bad is are
  said_effect None (says_nothing none) =
      let other : matches due (heard command bytes) ≡ false =
      no_test (matches due (heard command bytes)) (λ m. none Status.Good refl (matches_said m).0 ((matches_said m).1 ∙ ap (said id 0) (sym (ap (drop 3) (matches_said m).1)))) in
      rw (other, none_answers set_code id command bytes (λ status. none status refl))

  heard_effect : on_reply due command bytes ≡ meant
  heard_effect =
      sym (heeded_is due command bytes (heeding set_code id command bytes) refl)
      ∙ said_effect (heeding set_code id command bytes) (heed_is_said set_code id command bytes sound.id_fits small)

-- so any event, read or in bytes
pub data AsRead : Event → Type 0 where
  frame_read : {command : ℕ} {bytes : List ℕ} → Bytes bytes → AsRead (heard command bytes)
  broken_read : AsRead refused_frame
  silence_read : AsRead no_answer

pub effect_is : (due : Wanted) → Sound due → (e : Event) → AsRead e → effect_of (Request.Set due) e ≡ cond (matches due e) Effect.Confirms (cond (ends due e) Effect.Stops Effect.Waits)
effect_is due sound (heard command bytes) (frame_read small) = heard_effect due sound command bytes small
effect_is due sound refused_frame broken_read = refl
effect_is due sound no_answer silence_read = refl

pub own_matches : (due : Wanted) → matches due (heard set_code (own_data due)) ≡ true
own_matches due = same_self (own_data due)
