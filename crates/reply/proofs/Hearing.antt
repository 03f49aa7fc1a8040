-- What a board says is read back. Assumes nothing.
use mathlib.Core.Path.{◌≡◌, refl, ap}
use mathlib.Core.List.{List}
use Prim.Native.Nat.{ℕ, suc, ◌≤◌, ◌<◌, ◌^◌}
use native.Mathlib.Omega.{arith}
use borrow.Author.Tests.{le-ltb}
use lib.ListN.{length}
use Rattle.endian.specs.Numbers.{little, from_little, said}
use Rattle.endian.proofs.Theorems.{little_is_read}
use Rattle.std.specs.Prelude.{Ok}
use Rattle.reply.specs.Replies.{flag_of, status_of, front, telling, named, numbered}
use Rattle.reply.specs.Calls.{parsing}
use Rattle.reply.specs.Laws.{SaidIsRead, DoneIsRead, UnknownIsRead, ErrorIsRead, PingIsRead}
use Rattle.reply.specs.declared.Status.{Status}
use Rattle.reply.specs.declared.Reply.{Reply}

-- each status has a flag of its own
flag_back : (status : Status) → status_of (flag_of status) ≡ Ok status
unfolding status_of
flag_back Status.Good = refl
flag_back Status.UnknownId = refl
flag_back Status.NotSupported = refl
flag_back Status.ParameterError = refl

told_back : (kind : Status → ℕ → Reply) (status : Status) (id : ℕ) (value : List ℕ) → id < 256 ^ 2
    → telling kind (said id (flag_of status) value) ≡ Ok (kind status id)
unfolding front
told_back kind status id value h =
    let long : 3 ≤ suc (suc (suc (length value))) = omega arith in
    let number : from_little (little 2 id) ≡ id = little_is_read 2 id h in
    rw (le-ltb _ 3 long, number, flag_back status)

pub said_read : SaidIsRead
unfolding parsing
said_read status id value h =
    record {
      get_heard = told_back Reply.Get status id value h;
      set_heard = told_back Reply.Set status id value h;
      async_heard = told_back Reply.Async status id value h;
      value_heard = refl;
    }

pub done_read : DoneIsRead
unfolding parsing
done_read bytes = refl

pub unknown_read : UnknownIsRead
unfolding parsing named
unknown_read command = refl

pub error_read : ErrorIsRead
unfolding parsing numbered
error_read code h = ap (λ n. Ok (Reply.Error n)) (little_is_read 2 code h)

pub ping_read : PingIsRead
unfolding parsing numbered
ping_read version h = ap (λ n. Ok (Reply.Ping n)) (little_is_read 2 version h)
