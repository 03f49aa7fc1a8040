-- The sentences, each as it is printed. Document 00: the box "says done only for what the board confirmed". Assumes nothing.
use Rattle.std.specs.Prelude.{ℕ, ◌-◌, Result, Ok, Err, ⊤, cond, List, [], ◌++◌, eqb}
use Rattle.paper.specs.Numbers as paper
use Rattle.settings.specs.Columns.{count}
use Rattle.follow.specs.Following.{standing, total, follower_allowed}
use Rattle.follow.specs.declared.Follower.{Follower}
use Rattle.follow.specs.declared.Standing as follows
use Rattle.collect.specs.Calls.{told}
use Rattle.collect.specs.declared.Collector.{Collector}
use Rattle.collect.specs.declared.Stage as collects
use Rattle.paper.specs.declared.Refusal.{Refusal}
use Rattle.backup.specs.Answers.{Checked}
use Rattle.backup.specs.declared.BadText.{BadText}
use Rattle.tally.specs.Results.{tally_allowed}
use Rattle.tally.specs.declared.Tally.{Tally}
use Rattle.lines.specs.Lines.{chars}
use Rattle.lines.specs.Numbers.{decimal}
use Rattle.sentences.specs.declared.Kept.{Kept}
use Rattle.sentences.specs.declared.Refused.{Refused}

-- a number between words
unfoldable pub between_text : List ℕ → ℕ → List ℕ → List ℕ
between_text before n after = before ++ decimal n ++ after

-- how many of how many, between words
unfoldable pub of_text : List ℕ → ℕ → ℕ → List ℕ → List ℕ
of_text before done due after = before ++ decimal done ++ chars " of " ++ decimal due ++ after

abbrev pub numbered_text : ℕ → List ℕ
numbered_text number = between_text (chars "refused ") number []

unfoldable pub refused_text : Refusal → List ℕ
refused_text refusal = numbered_text (paper.number_of refusal)

-- A restore, by its outcome, the Sets that the board has confirmed, and those of its list.

unfoldable pub stopped_text : ℕ → ℕ → List ℕ
stopped_text confirmed due =
    of_text (chars "stopped: ") confirmed due (chars " settings confirmed, ") ++ between_text [] (due - confirmed) (chars " not confirmed")

abbrev pub end_text : follows.Standing → ℕ → ℕ → List ℕ
end_text follows.Standing.Done confirmed due = of_text (chars "done: ") confirmed due (chars " settings confirmed")
end_text follows.Standing.Equal confirmed due = chars "equal: nothing to set"
end_text (follows.Standing.Stopped wanted) confirmed due = stopped_text confirmed due
end_text (follows.Standing.Waiting wanted) confirmed due = of_text (chars "not ended: ") confirmed due (chars " settings confirmed")
end_text (follows.Standing.Refused refusal) confirmed due = refused_text refusal

-- 12 where no start and events give the follower
unfoldable pub followed_text : Follower → List ℕ
followed_text f = cond (follower_allowed f) (end_text (standing f) f.confirmed (total f)) (refused_text paper.not_allowed)

unfoldable pub progress_text : Follower → List ℕ
progress_text f = cond (follower_allowed f) (of_text [] f.confirmed (total f) (chars " confirmed")) (refused_text paper.not_allowed)

-- A board read, by the outcome, the settings answered, and those that there are.

abbrev pub read_text : collects.Stage → ℕ → ℕ → List ℕ
read_text collects.Stage.Done answered due = between_text (chars "all ") answered (chars " settings read")
read_text (collects.Stage.Stopped setting) answered due = of_text (chars "stopped: ") answered due (chars " settings read")
read_text (collects.Stage.Waiting setting) answered due = of_text (chars "not ended: ") answered due (chars " settings read")
read_text (collects.Stage.Refused refusal) answered due = refused_text refusal

-- a collector's own word: how far it is (12 where no start and events give it), and its own count
unfoldable pub collected_text : Collector → List ℕ
collected_text c = read_text (told c).stage (told c).answered count

-- The file of its settings: what became of it, by the caller's word, where every setting was read.

abbrev pub kept_text : Kept → ℕ → List ℕ
kept_text Kept.Not settings = chars "not saved: the file is as it was"
kept_text Kept.Unsure settings = chars "not sure: a power cut may bring the old file back"
kept_text Kept.Whole settings = between_text (chars "saved: ") settings (chars " settings")

abbrev pub unread_text : List ℕ
unread_text = chars "not saved: not every setting was read"

abbrev pub file_text : collects.Stage → ℕ → Kept → List ℕ
file_text collects.Stage.Done answered kept = kept_text kept answered
file_text (collects.Stage.Stopped setting) answered kept = unread_text
file_text (collects.Stage.Waiting setting) answered kept = unread_text
file_text (collects.Stage.Refused refusal) answered kept = refused_text refusal

unfoldable pub saved_text : Collector → Kept → List ℕ
saved_text c kept = file_text (told c).stage (told c).answered kept

-- A backup checked: good, or the number of a refusal, whatever number that is, and the line that it is about. The numbers of a verdict on a
-- text are document 01's, "Backup text"; 17 and 18 are about no row of it.

abbrev pub Verdict : Type 0
Verdict = Result ⊤ Refused

abbrev pub refused_as : BadText → Refused
refused_as bad = record { number = paper.number_of bad.refusal; line = bad.line }

abbrev pub numbered : Checked → Verdict
numbered (Ok done) = Ok done
numbered (Err bad) = Err (refused_as bad)

unfoldable pub good_text : ℕ → List ℕ
good_text settings = between_text (chars "good: ") settings (chars " settings, every number in range, every pair agrees")

unfoldable pub refusal_text : ℕ → ℕ → List ℕ
refusal_text number row = cond (eqb row 0) (numbered_text number) (numbered_text number ++ between_text (chars ", line ") row [])

abbrev pub checked_text : Verdict → List ℕ
checked_text (Ok done) = good_text count
checked_text (Err why) = refusal_text why.number why.line

-- A yard's night.

abbrev pub ended_text : Tally → List ℕ
ended_text t =
    between_text (chars "yard: ") t.done (chars " done, ") ++ between_text [] t.equal (chars " equal, ")
    ++ between_text [] t.stopped (chars " stopped, ")

unfoldable pub counts_text : Tally → List ℕ
counts_text t =
    ended_text t ++ between_text [] t.silent (chars " silent, ") ++ between_text [] t.unbegun (chars " not begun; ")
    ++ of_text [] t.confirmed t.due (chars " settings confirmed")

-- 12 where a count is over a million
unfoldable pub summed_text : Tally → List ℕ
summed_text t = cond (tally_allowed t) (counts_text t) (refused_text paper.not_allowed)
