-- What a frame says to the request that is due, in bytes. Assumes nothing.
use mathlib.Core.Path.{◌≡◌, refl, sym, ap, ap₂, subst, ◌∙◌}
use mathlib.Core.Logic.{◌≢◌, ◌↔◌, ⊎_elim}
use mathlib.Core.Bool.{Bool, true, false, cond, ◌||◌, false≢true}
use mathlib.Core.List.{List}
use Prim.Native.Nat.{ℕ, ◌^◌, ◌<◌}
use borrow.Author.Tests.{eq-eqb, eqb-true}
use lib.Dec.{eqb}
use Rattle.laws.specs.Lists.{Bytes}
use Rattle.laws.proofs.Bools.{or_cases}
use Rattle.endian.specs.Numbers.{said}
use Rattle.std.specs.Prelude.{Some, None, Ok, Err}
use Rattle.reply.specs.Answers.{Parsed, Heeded}
use Rattle.reply.specs.Replies.{flag_of, rest, about, about_parsed}
use Rattle.reply.specs.Events.{answers}
use Rattle.reply.specs.Calls.{parsing, heeding}
use Rattle.reply.specs.Laws.{From, a_get, a_set, an_async, has_status, Says, says_good, says_bad, says_nothing, HeedIsSaid, HeededIsAnswer}
use Rattle.reply.specs.declared.Status.{Status}
use Rattle.reply.specs.declared.Reply.{Reply}
use Rattle.reply.proofs.Choices.{choose}
use Rattle.reply.proofs.Hearing.{said_read}
use Rattle.reply.proofs.Origins.{read_from_lem}
use Rattle.reply.proofs.Flags.{said_answers, none_answers}

module _ (code id : ℕ) (room : id < 256 ^ 2) where
  -- what is said of the id is heeded
  pub said_heeded : has_status code ≡ true → (status : Status) (value : List ℕ) → heeding code id code (said id (flag_of status) value) ≡ Some status
  unfolding heeding
  said_heeded stated status value =
      let heard = said_read status id value room in
      let own : about id (Reply.Get status id) ≡ Some status = rw (eq-eqb id id refl) in
      let is : (c : ℕ) → Type 0 = λ c. heeding c id c (said id (flag_of status) value) ≡ Some status in
      ⊎_elim (λ e. subst is (sym (eqb-true code 7 e)) (ap (about_parsed id) heard.get_heard ∙ own))
      (λ f.
      ⊎_elim (λ e. subst is (sym (eqb-true code 8 e)) (ap (about_parsed id) heard.set_heard ∙ own))
      (λ e. subst is (sym (eqb-true code 10 e)) (ap (about_parsed id) heard.async_heard ∙ own)) (or_cases (eqb code 8) (eqb code 10) f))
      (or_cases (eqb code 7) (eqb code 8 || eqb code 10) stated)

  module _ (command : ℕ) (bytes : List ℕ) (small : Bytes bytes) where
    abbrev Say : Heeded → Type 0
    Say = Says code id command bytes

    nothing_said : heeding code id command bytes ≡ None → Say None
    nothing_said e =
        says_nothing
        (λ status stated is are.
        let both : ◌≡◌ {A = Heeded} (Some status) None = sym (said_heeded stated status (rest bytes)) ∙ ap₂ (heeding code id) (sym is) (sym are) ∙ e in
        cc)

    status_said : (status : Status) → has_status code ≡ true → command ≡ code → bytes ≡ said id (flag_of status) (rest bytes) → Say (Some status)
    status_said Status.Good stated is are = says_good stated is are
    status_said Status.UnknownId stated is are = says_bad {status = Status.UnknownId} (λ e. cc) stated is are
    status_said Status.NotSupported stated is are = says_bad {status = Status.NotSupported} (λ e. cc) stated is are
    status_said Status.ParameterError stated is are = says_bad {status = Status.ParameterError} (λ e. cc) stated is are

    -- a status of some id
    id_said : (status : Status) (it : ℕ) → has_status code ≡ true → command ≡ code → bytes ≡ said it (flag_of status) (rest bytes)
        → heeding code id command bytes ≡ cond (eqb it id) (Some status) None → Say (cond (eqb it id) (Some status) None)
    id_said status it stated is are h =
        choose Say (eqb it id) (λ e. status_said status stated is (are ∙ ap (λ (i : ℕ). said i (flag_of status) (rest bytes)) (eqb-true it id e)))
        (λ e. nothing_said (rw e at h))

    kind_said : (r : Parsed) → From command bytes r → command ≡ code → heeding code id command bytes ≡ about_parsed id r → Say (about_parsed id r)
    kind_said (Ok Reply.Done) from is h = nothing_said h
    kind_said (Ok (Reply.Unknown named)) from is h = nothing_said h
    kind_said (Ok (Reply.Error number)) from is h = nothing_said h
    kind_said (Ok (Reply.Ping version)) from is h = nothing_said h
    kind_said (Ok (Reply.Get status it)) (a_get c are) is h = id_said status it (ap has_status (sym is ∙ c)) is are h
    kind_said (Ok (Reply.Set status it)) (a_set c are) is h = id_said status it (ap has_status (sym is ∙ c)) is are h
    kind_said (Ok (Reply.Async status it)) (an_async c are) is h = id_said status it (ap has_status (sym is ∙ c)) is are h
    kind_said (Err refusal) from is h = nothing_said h

    code_said : (b : Bool) → eqb command code ≡ b → heeding code id command bytes ≡ cond b (about_parsed id (parsing command bytes)) None
        → Say (cond b (about_parsed id (parsing command bytes)) None)
    code_said true e h = kind_said (parsing command bytes) (read_from_lem command bytes small) (eqb-true command code e) h
    code_said false e h = nothing_said h

pub heed_said : HeedIsSaid
unfolding heeding
heed_said code id command bytes room small = code_said code id room command bytes small (eqb command code) refl (unfold heeding in refl)

-- and what does not wait answers the request
pub heeded_answers : HeededIsAnswer
heeded_answers code id command bytes stated room small =
    by (heeding code id command bytes) (heed_said code id command bytes room small)
  where
    by : (h : Heeded) → Says code id command bytes h → (answers code id command bytes ≡ true) ↔ (h ≢ None)
    by (Some Status.Good) (says_good s is are) =
        (λ a e. cc, λ h. said_answers code id command bytes Status.Good is are)
    by (Some status) (says_bad bad s is are) =
        (λ a e. cc, λ h. said_answers code id command bytes status is are)
    by None (says_nothing none) =
        (λ a e. false≢true (sym (none_answers code id command bytes (λ status. none status stated)) ∙ a), λ h. absurd (h refl))
