-- What the public call answers, for every input. Assumes nothing.
use Rattle.std.specs.Prelude.{ℕ, cond, List}
use Rattle.paper.specs.Numbers.{not_allowed}
use Rattle.answers.specs.Answers.{core_allowed, silent, Decision, staying, frame_answer}
use Rattle.answers.specs.declared.Core.{Core}
use Rattle.answers.specs.declared.Outcome.{Outcome}

-- The answer to a whole frame; "none" under 12, and nothing changes.
unfoldable pub answering : Core → ℕ → List ℕ → Decision
answering core command bytes = cond (core_allowed core) (frame_answer core command bytes) (staying core (Outcome.Refused not_allowed) silent)
