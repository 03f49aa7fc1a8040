-- A reply fixes the frame that it was read from. Assumes nothing.
use mathlib.Core.Path.{◌≡◌, refl, ap, subst, ◌∙◌}
use mathlib.Core.Bool.{true}
use mathlib.Core.List.{List, [], ◌∷◌}
use Prim.Native.Nat.{ℕ, ◌+◌, ◌*◌, ◌/◌, ◌%◌, ◌≤◌, ◌<◌}
use native.Mathlib.Omega.{arith}
use borrow.Author.Tests.{ltb-true, ltb-false, eqb-true}
use lib.ListN.{length, take, drop, get_or}
use lib.Dec.{eqb, ltb}
use Rattle.laws.specs.Lists.{every}
use Rattle.laws.proofs.Bools.{and_left, and_right}
use Rattle.reply.proofs.Choices.{choose}
use Rattle.endian.specs.Numbers.{little, from_little, said}
use Rattle.std.specs.Prelude.{Result, Ok}
use Rattle.paper.specs.declared.Refusal.{Refusal}
use Rattle.reply.specs.Answers.{Parsed}
use Rattle.reply.specs.Replies.{flag_of, malformed, status_of, fronted, front, kinded, telling, named, numbered, numbering}
use Rattle.reply.specs.Calls.{parsing}
use Rattle.reply.specs.Laws.{is_code, From, a_done, an_unknown, an_error, a_ping, a_get, a_set, an_async, no_code, no_data, ReadIsFrom, ReadIsSaid}
use Rattle.reply.specs.declared.Status.{Status}
use Rattle.reply.specs.declared.Reply.{Reply}

-- two bytes are those of their number
pair_back : (a b : ℕ) (rest : List ℕ) → a < 256 → b < 256 → a ∷ b ∷ rest ≡ ((a + 256 * (b + 256 * 0)) % 256) ∷ ((a + 256 * (b + 256 * 0)) / 256 % 256) ∷ rest
pair_back a b rest h k =
    let low : (a + 256 * (b + 256 * 0)) % 256 ≡ a = omega arith in
    let high : (a + 256 * (b + 256 * 0)) / 256 ≡ b = omega arith in
    let less : b % 256 ≡ b = omega arith in
    rw (low, high, less)

two_back : (bytes : List ℕ) → every (λ b. ltb b 256) bytes ≡ true → length bytes ≡ 2 → bytes ≡ little 2 (from_little bytes)
two_back [] small e = absurd (omega arith)
two_back (a ∷ []) small e = absurd (omega arith)
two_back (a ∷ b ∷ []) small e =
    pair_back a b [] (ltb-true a 256 (and_left _ _ small)) (ltb-true b 256 (and_left _ _ (and_right (ltb a 256) _ small)))
two_back (a ∷ b ∷ c ∷ l) small e = absurd (omega arith)

said_back : (bytes : List ℕ) → every (λ b. ltb b 256) bytes ≡ true → 3 ≤ length bytes → (flag : ℕ) → get_or bytes 2 0 ≡ flag
    → bytes ≡ said (from_little (take 2 bytes)) flag (drop 3 bytes)
said_back [] small h flag e = absurd (omega arith)
said_back (a ∷ []) small h flag e = absurd (omega arith)
said_back (a ∷ b ∷ []) small h flag e = absurd (omega arith)
said_back (a ∷ b ∷ c ∷ l) small h flag e =
    pair_back a b (c ∷ l) (ltb-true a 256 (and_left _ _ small)) (ltb-true b 256 (and_left _ _ (and_right (ltb a 256) _ small)))
    ∙ ap (λ (f : ℕ). said (from_little (a ∷ b ∷ [])) f l) e

module _ (bytes : List ℕ) (small : every (λ b. ltb b 256) bytes ≡ true) (p : Parsed → Type 0) (other : p malformed) where
  -- data of a status and an id, or none of that kind
  told_from : (kind : Status → ℕ → Reply) → ((status : Status) (id : ℕ) → bytes ≡ said id (flag_of status) (drop 3 bytes) → p (Ok (kind status id))) → p (telling kind bytes)
  unfolding front status_of
  told_from kind is =
      let whole : Result (Status × ℕ) Refusal → Type 0 = λ f. p (kinded (λ (f : Status × ℕ). kind f.0 f.1) f) in
      let q : Result Status Refusal → Type 0 = λ s. whole (fronted (from_little (take 2 bytes)) s) in
      choose whole (ltb (length bytes) 3) (λ e. other)
      (λ long.
      let here : (status : Status) → eqb (get_or bytes 2 0) (flag_of status) ≡ true → q (Ok status) =
      λ status e. is status _ (said_back bytes small (ltb-false _ _ long) (flag_of status) (eqb-true _ _ e)) in
      choose q (eqb (get_or bytes 2 0) (flag_of Status.Good)) (here Status.Good)
      (λ e0. choose q (eqb (get_or bytes 2 0) (flag_of Status.UnknownId)) (here Status.UnknownId)
      (λ e1. choose q (eqb (get_or bytes 2 0) (flag_of Status.NotSupported)) (here Status.NotSupported)
      (λ e2. choose q (eqb (get_or bytes 2 0) (flag_of Status.ParameterError)) (here Status.ParameterError) (λ e4. other)))))

  number_from_lem : (kind : ℕ → Reply) → ((n : ℕ) → bytes ≡ little 2 n → p (Ok (kind n))) → p (numbering kind bytes)
  unfolding numbered
  number_from_lem kind is =
      choose (λ (r : Result ℕ Refusal). p (kinded kind r)) (eqb (length bytes) 2) (λ e. is _ (two_back bytes small (eqb-true _ _ e))) (λ e. other)

one_back : (bytes : List ℕ) → length bytes ≡ 1 → bytes ≡ get_or bytes 0 0 ∷ []
one_back [] e = absurd (omega arith)
one_back (a ∷ []) e = refl
one_back (a ∷ b ∷ l) e = absurd (omega arith)

pub read_from_lem : ReadIsFrom
unfolding parsing named
read_from_lem command bytes given =
    let small = given.below in
    let p : Parsed → Type 0 = From command bytes in
    choose p (eqb command 1) (λ e. a_done (eqb-true _ _ e))
    (λ e1. choose p (eqb command 3)
    (λ e. let is : command ≡ 3 = eqb-true _ _ e in choose (λ (r : Result ℕ Refusal). p (kinded Reply.Unknown r)) (eqb (length bytes) 1) (λ f. an_unknown is (one_back bytes (eqb-true _ _ f))) (λ f. no_data (ap is_code is)))
    (λ e3. choose p (eqb command 4)
    (λ e. let is : command ≡ 4 = eqb-true _ _ e in number_from_lem bytes small p (no_data (ap is_code is)) Reply.Error (λ n h. an_error is h))
    (λ e4. choose p (eqb command 5)
    (λ e. let is : command ≡ 5 = eqb-true _ _ e in number_from_lem bytes small p (no_data (ap is_code is)) Reply.Ping (λ n h. a_ping is h))
    (λ e5. choose p (eqb command 7)
    (λ e. let is : command ≡ 7 = eqb-true _ _ e in told_from bytes small p (no_data (ap is_code is)) Reply.Get (λ status id h. a_get is h))
    (λ e7. choose p (eqb command 8)
    (λ e. let is : command ≡ 8 = eqb-true _ _ e in told_from bytes small p (no_data (ap is_code is)) Reply.Set (λ status id h. a_set is h))
    (λ e8. choose p (eqb command 0xA)
    (λ e. let is : command ≡ 0xA = eqb-true _ _ e in told_from bytes small p (no_data (ap is_code is)) Reply.Async (λ status id h. an_async is h))
    (λ eA. no_code (rw (e1, e3, e4, e5, e7, e8, eA)))))))))

get_from : {command : ℕ} {bytes : List ℕ} {status : Status} {id : ℕ} → From command bytes (Ok (Reply.Get status id)) → bytes ≡ said id (flag_of status) (drop 3 bytes)
get_from (a_get is h) = h

set_from : {command : ℕ} {bytes : List ℕ} {status : Status} {id : ℕ} → From command bytes (Ok (Reply.Set status id)) → bytes ≡ said id (flag_of status) (drop 3 bytes)
set_from (a_set is h) = h

async_from : {command : ℕ} {bytes : List ℕ} {status : Status} {id : ℕ} → From command bytes (Ok (Reply.Async status id)) → bytes ≡ said id (flag_of status) (drop 3 bytes)
async_from (an_async is h) = h

pub read_said : ReadIsSaid
read_said status id bytes small =
    record {
      get_told = λ e. get_from (subst (From 7 bytes) e (read_from_lem 7 bytes small));
      set_told = λ e. set_from (subst (From 8 bytes) e (read_from_lem 8 bytes small));
      async_told = λ e. async_from (subst (From 0xA bytes) e (read_from_lem 0xA bytes small));
    }
