-- What is sent of a decision, as it is held, is the bytes of its reply. Assumes nothing.
use mathlib.Core.Path.{◌≡◌, refl, sym, ap, ◌∙◌}
use mathlib.Core.List.{List}
use Prim.Native.Nat.{ℕ, ◌≤◌}
use lib.ListN.{length}
use Rattle.std.proofs.Common.{Ok}
use Rattle.laws.specs.Promise.{Given, Gives, overlaid}
use Rattle.paper.specs.Numbers as paper
use Rattle.wire.specs.Frame.{frame}
use Rattle.wire.specs.Calls.{writing}
use Rattle.wire.specs.Answers.{Written}
use Rattle.wire.proofs.Answers.{writing_made}
use Rattle.stream.specs.declared.Held.{Held}
use Rattle.spans.specs.Few.{few}
use Rattle.spans.proofs.Fews.{those_back}
use Rattle.answers.specs.Answers.{Sent, silent, sent, error, Decision}
use Rattle.answers.specs.AsHeld.{message_of, sends_of, decided_of}
use Rattle.answers.specs.Laws.{Fits, nothing, a_frame, an_error}
use Rattle.board.specs.Calls.{reply_bytes, decided_by}
use Rattle.board.specs.AsHeld.{whole, sent_bytes, Sendable}
use Rattle.board.specs.declared.Answered.{Answered}

sent_is : (s : Sent) → sent_bytes (sends_of s) ≡ reply_bytes s
unfolding message_of
sent_is silent = refl
sent_is (sent command bytes) = ap (frame command) (those_back paper.most_data bytes)
sent_is error = refl

-- within what the writer takes
pub sendable : (s : Sent) → Fits s → Sendable (sends_of s)
unfolding message_of few
sendable silent nothing = tt
sendable (sent command bytes) (a_frame w) = (w.nibble, w.few)
sendable error an_error = tt

-- a decision carried out
pub decided_is : (held : Held) (d : Decision) (count : ℕ) {buffer after : List ℕ} {len : ℕ}
    → Gives ℕ (whole (sent_bytes (decided_of d).sends)) buffer len after
    → Gives Answered (decided_by held d count) buffer (record { board = record { core = d.core; held = held }; outcome = d.outcome; len = len; taken = count }) after
unfolding decided_by decided_of
decided_is held d count {buffer} {after} {len} g =
    let g' : Gives ℕ (whole (reply_bytes d.reply)) buffer len after = rw (sent_is d.reply) at g in
    record { answered = rw g'.answered; left = g'.left }

-- the frame writer within what it takes
module _ (command : ℕ) (bytes : List ℕ) {out after : List ℕ} {r : Written} (room : 75 ≤ length out) (nibble : command ≤ 15) (few : length bytes ≤ 35)
    (g : Gives Written (writing command bytes (length out)) out r after) where
  pub made_is : r ≡ Ok (length (frame command bytes))
  made_is = g.answered ∙ ap (λ (w : Given Written). w.answer) (writing_made command bytes (length out) room nibble few)

  pub made_whole : (n : ℕ) → r ≡ Ok n → Gives ℕ (whole (frame command bytes)) out n after
  made_whole n e =
      let is : ◌≡◌ {A = Written} (Ok n) (Ok (length (frame command bytes))) = sym e ∙ made_is in
      record { answered = cc; left = g.left ∙ ap (λ (w : Given Written). overlaid w.written out) (writing_made command bytes (length out) room nibble few) }
