-- `answers::Message::saying` meets its contract. Assumes nothing.
use Rattle.std.proofs.Common.{ap, ◌∙◌, ℕ, List, ◌++◌, take, arith}
use lib.Seq.{take_all}
use Rattle.spans.specs.Few.{few, those}
use Rattle.spans.specs.declared.Few.{Few}
use Rattle.spans.proofs.Fews.{those_back}
use Rattle.answers.specs.AsHeld.{message_of}
use Rattle.answers.proofs.Message.saying.Goals as goal

pub returns : goal.returns
unfolding message_of
returns c =
    let front = ap those (rw c.bytes_16.ensures at c.of-front.ensures) ∙ those_back 35 _ in
    ap (λ (f : Few 35). record { command = c.args.command; bytes = f })
    (c.put.ensures
    ∙ ap (λ (l : List ℕ). few 35 (take 35 (l ++ c.args.value.now))) front
    ∙ ap (few 35) (take_all 35 _ (omega (arith, c.requires))))
