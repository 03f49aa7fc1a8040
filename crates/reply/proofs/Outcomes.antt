-- What became of a Get or a Set, as the box reads it in a board's reply. Assumes nothing.
use mathlib.Core.Path.{◌≡◌, refl, sym, ap, subst, ◌∙◌}
use mathlib.Core.Logic.{⊎_elim}
use mathlib.Core.Bool.{true, false≢true, ◌||◌}
use mathlib.Core.List.{List}
use Prim.Native.Nat.{ℕ, ◌^◌, ◌≤◌, ◌<◌}
use native.Mathlib.Omega.{arith}
use borrow.Author.Tests.{eqb-true}
use lib.ListN.{length, take, length-take}
use lib.Dec.{eqb}
use Rattle.laws.specs.Lists.{Bytes}
use Rattle.laws.proofs.Bools.{or_cases}
use Rattle.laws.proofs.Lists.{every_take}
use Rattle.answers.specs.Answers.{Sent, sent}
use Rattle.endian.specs.Numbers.{said}
use Rattle.answers.specs.Refusals.{id_in, Told, a_ping, a_version, a_product, a_restart, an_async, a_get, a_get_read_only, a_set, row_5, row_6, row_7, row_8, row_9, row_10, row_12}
use Rattle.answers.specs.declared.Core.{Core}
use Rattle.answers.specs.declared.Outcome.{Outcome}
use Rattle.answers.proofs.Telling.{from_small}
use Rattle.answers.proofs.Theorems.{outcome_and_reply}
use Rattle.std.specs.Prelude.{Ok}
use Rattle.reply.specs.Replies.{flag_of, rest}
use Rattle.reply.specs.Calls.{parsing}
use Rattle.reply.specs.Laws.{has_status, Flagged, as_good, as_7, as_8, as_9, as_10, reply_of, FlagIsRead, Known, OutcomeIsRead}
use Rattle.reply.specs.declared.Status.{Status}
use Rattle.reply.proofs.Hearing.{said_read}

-- the flag of a status, under each of the three codes
coded : (status : Status) (flag : ℕ) → flag ≡ flag_of status → (code id : ℕ) (value : List ℕ) → has_status code ≡ true → id < 256 ^ 2
    → parsing code (said id flag value) ≡ Ok (reply_of code status id)
coded status flag e code id value stated room =
    let heard = said_read status id value room in
    let is : (c : ℕ) → Type 0 = λ c. parsing c (said id flag value) ≡ Ok (reply_of c status id) in
    let same : (c : ℕ) → parsing c (said id flag value) ≡ parsing c (said id (flag_of status) value) = λ c. ap (λ (f : ℕ). parsing c (said id f value)) e in
    ⊎_elim (λ p. subst is (sym (eqb-true code 7 p)) (same 7 ∙ heard.get_heard))
    (λ q.
    ⊎_elim (λ p. subst is (sym (eqb-true code 8 p)) (same 8 ∙ heard.set_heard))
    (λ p. subst is (sym (eqb-true code 10 p)) (same 10 ∙ heard.async_heard)) (or_cases (eqb code 8) (eqb code 10) q))
    (or_cases (eqb code 7) (eqb code 8 || eqb code 10) stated)

pub flag_read : FlagIsRead
flag_read outcome flag status as_good = coded Status.Good 0 refl
flag_read outcome flag status as_7 = coded Status.UnknownId 1 refl
flag_read outcome flag status as_8 = coded Status.NotSupported 2 refl
flag_read outcome flag status as_9 = coded Status.ParameterError 4 refl
flag_read outcome flag status as_10 = coded Status.ParameterError 4 refl

module _ (core : Core) (command : ℕ) (request : List ℕ) (small : Bytes request) (code : ℕ) (bytes : List ℕ) (stated : has_status code ≡ true) where
  id_room : id_in request < 256 ^ 2
  id_room = let short : length (take 2 request) ≤ 2 = rw (length-take 2 request) (omega arith) in from_small (take 2 request) (every_take _ 2 request small.below) short

  -- what is said of the id asked for
  known : {outcome : Outcome} {flag : ℕ} {status : Status} → Flagged outcome flag status → (c id : ℕ) (value : List ℕ) → id ≡ id_in request
      → sent c (said id flag value) ≡ sent code bytes → Known request outcome code bytes
  known {outcome} {flag} {status} f c id value is e =
      let are : said id flag value ≡ bytes = cc in
      let mine : said (id_in request) flag value ≡ bytes = ap (λ (i : ℕ). said i flag value) (sym is) ∙ are in
      record {
        flag = flag;
        status = status;
        flagged = f;
        bytes_are = sym mine ∙ ap (λ (l : List ℕ). said (id_in request) flag (rest l)) mine;
        read_as_lem = ap (parsing code) (sym mine) ∙ flag_read outcome flag status f code (id_in request) value stated id_room;
      }

  other : (c : ℕ) (l : List ℕ) {outcome : Outcome} → (has_status c ≡ true → Known request outcome code bytes) → sent c l ≡ sent code bytes → Known request outcome code bytes
  other c l none e = let is : code ≡ c = cc in none (ap has_status (sym is) ∙ stated)

  told_known : {outcome : Outcome} {reply : Sent} {after : Core} → Told core command request outcome reply after → reply ≡ sent code bytes → Known request outcome code bytes
  told_known (a_ping p) e = other 5 _ (λ s. absurd (false≢true s)) e
  told_known (a_version p) e = other 1 _ (λ s. absurd (false≢true s)) e
  told_known (a_product p) e = other 1 _ (λ s. absurd (false≢true s)) e
  told_known (a_restart p) e = cc
  told_known (an_async p) e = cc
  told_known (a_get p k h is) e = known as_good 7 _ _ is e
  told_known (a_get_read_only p value holds) e = known as_good 7 (id_in request) value refl e
  told_known (a_set p k n h is number) e = known as_good 8 _ _ is e
  told_known row_5 e = other 3 _ (λ s. absurd (false≢true s)) e
  told_known row_6 e = cc
  told_known (row_7 p) e = known as_7 command (id_in request) _ refl e
  told_known row_8 e = known as_8 8 (id_in request) _ refl e
  told_known (row_9 k h is) e = known as_9 8 _ _ is e
  told_known (row_10 k m h is near) e = known as_10 8 _ _ is e
  told_known row_12 e = cc

pub outcome_read : OutcomeIsRead
outcome_read core command request code bytes small stated e = told_known core command request small code bytes stated (outcome_and_reply core command request small) e
