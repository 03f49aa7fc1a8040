-- Replies and decisions as the program holds them: a reply's data as few bytes, with zeros after them up to 35. Assumes nothing.
use Rattle.std.specs.Prelude.{ℕ, List}
use Rattle.paper.specs.Numbers as paper
use Rattle.spans.specs.Few.{few}
use Rattle.answers.specs.Answers.{Sent, silent, sent, error, Decision}
use Rattle.answers.specs.declared.Message.{Message}
use Rattle.answers.specs.declared.Sends.{Sends}
use Rattle.answers.specs.declared.Decided.{Decided}

unfoldable pub message_of : ℕ → List ℕ → Message
message_of command bytes = record { command = command; bytes = few paper.most_data bytes }

abbrev pub sends_of : Sent → Sends
sends_of silent = Sends.Nothing
sends_of (sent command bytes) = Sends.Frame (message_of command bytes)
sends_of error = Sends.Error

unfoldable pub decided_of : Decision → Decided
decided_of d = record { outcome = d.outcome; sends = sends_of d.reply; core = d.core }
