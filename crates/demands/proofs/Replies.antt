-- Demand 2: what the box reads in the bytes of a board's reply. Assumes nothing.
use mathlib.Core.Path.{◌≡◌, refl, sym, ap, ap₂, subst, ◌∙◌}
use mathlib.Core.Logic.{⊎_elim}
use mathlib.Core.Bool.{true}
use mathlib.Core.List.{List, [], ◌∷◌}
use Prim.Native.Nat.{ℕ, ◌+◌, ◌*◌, ◌/◌, ◌%◌, ◌^◌, ◌≤◌, ◌<◌}
use native.Mathlib.Omega.{arith}
use borrow.Author.Tests.{ltb-true, eqb-true}
use lib.ListN.{length, take, length-take}
use lib.Seq.{take-length}
use lib.Dec.{eqb, ltb}
use Rattle.laws.specs.Cutting.{calls}
use Rattle.laws.specs.Lists.{Bytes}
use Rattle.laws.proofs.Bools.{or_cases}
use Rattle.laws.proofs.Lists.{every_take}
use Rattle.endian.specs.Numbers.{little, from_little, said}
use Rattle.wire.specs.Parsing.{good}
use Rattle.wire.proofs.RoundTrip.{said_small}
use Rattle.wire.proofs.RoundTrip as frames
use Rattle.stream.specs.Stream.{outside, frames_of, left_by}
use Rattle.stream.specs.Calls.{held_of}
use Rattle.endian.proofs.Theorems.{little_is_read}
use Rattle.listen.specs.Hearing.{box_hears}
use Rattle.listen.proofs.Hearing.{box_cutting}
use Rattle.settings.specs.Columns.{id_at}
use Rattle.settings.proofs.Theorems.{rows_hold}
use Rattle.answers.specs.Answers.{Sent, sent}
use Rattle.answers.specs.Refusals.{is_get_or_set, id_in, Told, a_ping, a_version, a_product, a_restart, an_async, a_get, a_get_read_only, a_set, row_5, row_6, row_7, row_8, row_9, row_10, row_12}
use Rattle.answers.specs.declared.Core.{Core}
use Rattle.answers.specs.declared.Outcome.{Outcome}
use Rattle.answers.proofs.Telling.{from_small}
use Rattle.board.specs.Calls.{answering}
use Rattle.board.specs.Refusals as board
use Rattle.board.specs.Refusals.{meant, Says, row_11, no_frame, rows_1_to_4, a_frame}
use Rattle.board.specs.declared.Board.{Board}
use Rattle.board.proofs.Theorems.{outcome_and_reply}
use Rattle.reply.specs.Replies.{flag_of}
use Rattle.reply.specs.Calls.{parsing}
use Rattle.reply.specs.declared.Status.{Status}
use Rattle.reply.proofs.Theorems.{said_is_read, done_is_read, unknown_is_read, error_is_read, ping_is_read}
use Rattle.demands.specs.Demand2.{Understood, no_reply, as_error, as_done, as_unknown, as_ping, as_get, as_set, RepliesAreUnderstood}

-- the replies, kind by kind
get_says : (status : Status) (id : ℕ) (value : List ℕ) → id < 256 ^ 2 → Understood (sent 7 (said id (flag_of status) value)) (good 7 (said id (flag_of status) value) ∷ [])
get_says status id value h = let read = said_is_read status id value h in as_get status id value read.get_heard read.value_heard

set_says : (status : Status) (id : ℕ) (value : List ℕ) → id < 256 ^ 2 → Understood (sent 8 (said id (flag_of status) value)) (good 8 (said id (flag_of status) value) ∷ [])
set_says status id value h = let read = said_is_read status id value h in as_set status id value read.set_heard read.value_heard

over : (a b : ℕ) → (256 * a + b) % 256 ≡ b % 256
over a b = omega arith

-- two bytes of a number are those of its remainder
two_bytes : (number : ℕ) → little 2 number ≡ little 2 (number % 256 ^ 2)
two_bytes number =
    let low : number % 256 ≡ number % 65536 % 256 = omega arith in
    let parts : number / 256 ≡ 256 * (number / 65536) + number % 65536 / 256 = omega arith in
    let high : number / 256 % 256 ≡ number % 65536 / 256 % 256 = rw parts (over (number / 65536) (number % 65536 / 256)) in
    ap₂ (λ (a b : ℕ). a ∷ b ∷ []) low high

done_says : (number : ℕ) → Understood (sent 1 (little 2 number)) (good 1 (little 2 number) ∷ [])
done_says number = as_done number (done_is_read (little 2 number)) (ap from_little (two_bytes number) ∙ little_is_read 2 (number % 256 ^ 2) (omega arith))

ping_says : (number : ℕ) → Understood (sent 5 (little 2 number)) (good 5 (little 2 number) ∷ [])
ping_says number = as_ping number (ap (parsing 5) (two_bytes number) ∙ ping_is_read (number % 256 ^ 2) (omega arith))

-- 7, of a Get and of a Set
unknown_says : (command id : ℕ) → is_get_or_set command ≡ true → id < 256 ^ 2 → Understood (sent command (said id 1 [])) (good command (said id 1 []) ∷ [])
unknown_says command id e h =
    ⊎_elim (λ is. rw (eqb-true command 7 is) (get_says Status.UnknownId id [] h)) (λ is. rw (eqb-true command 8 is) (set_says Status.UnknownId id [] h))
    (or_cases (eqb command 7) (eqb command 8) e)

id_small : (bytes : List ℕ) → Bytes bytes → id_in bytes < 256 ^ 2
id_small bytes small =
    let few : length (take 2 bytes) ≤ 2 = rw (length-take 2 bytes) (omega arith) in
    from_small (take 2 bytes) (every_take (λ b. ltb b 256) 2 bytes small.below) few

told_read : {core after : Core} {command : ℕ} {bytes : List ℕ} {outcome : Outcome} {reply : Sent} → Bytes bytes
    → Told core command bytes outcome reply after → Understood reply (meant reply)
told_read small (a_ping e) = ping_says _
told_read small (a_version e) = done_says _
told_read small (a_product e) = done_says _
told_read small (a_restart e) = no_reply
told_read small (an_async e) = no_reply
told_read small (a_get e k h is) = get_says Status.Good (id_at k) _ (rows_hold k h).id_holds
told_read small (a_get_read_only e value holds) = get_says Status.Good _ value (id_small _ small)
told_read small (a_set e k n h is value) = set_says Status.Good (id_at k) _ (rows_hold k h).id_holds
told_read small row_5 = as_unknown _ (unknown_is_read _)
told_read small row_6 = as_error (error_is_read 0xAAAA (ltb-true 0xAAAA 65536 refl))
told_read small (row_7 e) = unknown_says _ _ e (id_small _ small)
told_read small row_8 = set_says Status.NotSupported _ [] (id_small _ small)
told_read small (row_9 k h is) = set_says Status.ParameterError (id_at k) _ (rows_hold k h).id_holds
told_read small (row_10 k m h is nearest) = set_says Status.ParameterError (id_at k) _ (rows_hold k h).id_holds
told_read small row_12 = no_reply

said_read : {board : Board} {piece : List ℕ} {outcome : Outcome} {reply : Sent} {after : Core} → Says board piece outcome reply after → Understood reply (meant reply)
said_read row_11 = no_reply
said_read board.row_12 = no_reply
said_read (no_frame p) = no_reply
said_read (rows_1_to_4 n low high p) = as_error (error_is_read 0xAAAA (ltb-true 0xAAAA 65536 refl))
said_read (a_frame command bytes p q e told) = told_read (said_small _ command bytes (frames.said _ command bytes e)) told

pub replies_understood : RepliesAreUnderstood
replies_understood board piece room offers all =
    let given = answering board piece room in
    let replied = outcome_and_reply board piece room in
    let cut = box_cutting [] given.written offers in
    let whole : take (calls box_hears (held_of outside) given.written offers).taken given.written ≡ given.written = ap (λ (n : ℕ). take n given.written) all ∙ take-length given.written in
    let events : (calls box_hears (held_of outside) given.written offers).events ≡ meant replied.reply =
    cut.events_are ∙ ap frames_of whole ∙ replied.readable.frames_are in
    record {
      reply = replied.reply;
      says = replied.says;
      understood = subst (Understood replied.reply) (sym events) (said_read replied.says);
      none_left = cut.state_is ∙ ap (λ (l : List ℕ). held_of (left_by l)) whole ∙ ap held_of replied.readable.none_left;
    }
