-- What each public call answers, for every input. Assumes nothing.
use Rattle.std.specs.Prelude.{ℕ, cond, List, eqb, None, Ok, Err}
use Rattle.paper.specs.Numbers as paper
use Rattle.reply.specs.Answers.{Parsed, Heeded, Showed}
use Rattle.reply.specs.Replies.{naming, numbering, telling, about_parsed}
use Rattle.reply.specs.Units.{in_volts, in_amperes, in_fine_amperes, in_amp_hours, in_percent}
use Rattle.reply.specs.declared.Reply.{Reply}

-- "from command and data, codes 1, 3, 4, 5, 7, 8, A are read as kinds of their own [..]; other codes give 5. Payload: 1 any; 3 one byte; 4 and
-- 5 two bytes; 7, 8, A at least three"
unfoldable pub parsing : ℕ → List ℕ → Parsed
parsing command bytes =
    cond (eqb command paper.done_code) (Ok Reply.Done)
    (cond (eqb command paper.unknown_code) (naming bytes)
    (cond (eqb command paper.error_code) (numbering Reply.Error bytes)
    (cond (eqb command paper.pong_code) (numbering Reply.Ping bytes)
    (cond (eqb command paper.get_code) (telling Reply.Get bytes)
    (cond (eqb command paper.set_code) (telling Reply.Set bytes)
    (cond (eqb command paper.async_code) (telling Reply.Async bytes)
    (Err paper.unknown_command)))))))

-- what a frame says to the request of a code and an id that is due: a reply of that code about that id has a status, all else waits
unfoldable pub heeding : ℕ → ℕ → ℕ → List ℕ → Heeded
heeding code id command bytes = cond (eqb command code) (about_parsed id (parsing command bytes)) None

-- "The box shows a reading as volts, amperes, amp hours or percent [..]. Another id is refused 7, then a wrong width 9."
unfoldable pub showing : ℕ → List ℕ → Showed
showing id value =
    cond (eqb id paper.voltage_id) (in_volts value)
    (cond (eqb id paper.current_id) (in_amperes value)
    (cond (eqb id paper.fine_id) (in_fine_amperes value)
    (cond (eqb id paper.consumed_id) (in_amp_hours value)
    (cond (eqb id paper.charge_id) (in_percent value)
    (Err paper.unknown_id)))))
