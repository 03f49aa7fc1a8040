-- Worked lines: each text beside the words that it is printed as. One computed test shows them all (proofs/Theorems.antt). Assumes nothing.
use Rattle.std.specs.Prelude.{ℕ, ◌≡◌, Some, Ok, Err, true, List, [], ◌∷◌}
use Rattle.settings.specs.Columns.{count}
use Rattle.settings.specs.Calls.{setting_at}
use Rattle.paper.specs.Numbers as paper
use Rattle.reply.specs.declared.Status.{Status}
use Rattle.requests.specs.declared.Request.{Request}
use Rattle.follow.specs.declared.Standing as follows
use Rattle.collect.specs.declared.Stage as collects
use Rattle.tally.specs.Results.{tally_of, with_sets}
use Rattle.view.specs.Calls.{on_heeded}
use Rattle.lines.specs.Lines.{chars}
use Rattle.lines.specs.Worked.{Sample, sample, sample_of, all_read}
use Rattle.backup.specs.Answers.{bad}
use Rattle.sentences.specs.Texts.{of_text, end_text, read_text, file_text, numbered, checked_text, summed_text}
use Rattle.sentences.specs.Values.{words_text, strange_text, sight_text, shown_text}
use Rattle.sentences.specs.declared.Kept.{Kept}

-- a good reply of an id with this value
abbrev pub told : ℕ → List ℕ → List ℕ
told id value = sight_text value (on_heeded id value (Some Status.Good))

abbrev pub lines : List Sample
lines =
    sample (end_text follows.Standing.Done 12 12) "done: 12 of 12 settings confirmed" ∷
    sample (end_text follows.Standing.Equal 0 0) "equal: nothing to set" ∷
    sample (end_text (follows.Standing.Stopped (record { setting = setting_at 0; number = 120 })) 5 12) "stopped: 5 of 12 settings confirmed, 7 not confirmed" ∷
    sample (end_text (follows.Standing.Waiting (Request.Set (record { setting = setting_at 0; number = 120 }))) 5 12) "not ended: 5 of 12 settings confirmed" ∷
    sample (end_text (follows.Standing.Refused paper.not_allowed) 0 0) "refused 12" ∷
    sample (of_text [] 7 12 (chars " confirmed")) "7 of 12 confirmed" ∷
    sample_of (read_text collects.Stage.Done count count) "all " count " settings read" ∷
    sample_of (read_text (collects.Stage.Stopped (setting_at 5)) 5 count) "stopped: 5 of " count " settings read" ∷
    sample_of (read_text (collects.Stage.Waiting (setting_at 5)) 5 count) "not ended: 5 of " count " settings read" ∷
    sample (read_text (collects.Stage.Refused paper.not_allowed) 0 count) "refused 12" ∷
    sample_of (file_text collects.Stage.Done count Kept.Whole) "saved: " count " settings" ∷
    sample (file_text collects.Stage.Done count Kept.Unsure) "not sure: a power cut may bring the old file back" ∷
    sample (file_text collects.Stage.Done count Kept.Not) "not saved: the file is as it was" ∷
    sample (file_text (collects.Stage.Stopped (setting_at 5)) 5 Kept.Whole) "not saved: not every setting was read" ∷
    sample_of (checked_text (Ok tt)) "good: " count " settings, every number in range, every pair agrees" ∷
    sample (checked_text (numbered (Err (bad paper.out_of_range 13)))) "refused 16, line 13" ∷
    sample (checked_text (numbered (Err (bad paper.pair_disagrees 0)))) "refused 17" ∷
    sample (summed_text (with_sets (tally_of 3 1 0 1 0) 24 27))
    "yard: 3 done, 1 equal, 0 stopped, 1 silent, 0 not begun; 24 of 27 settings confirmed" ∷
    sample (summed_text (tally_of 1000001 0 0 0 0)) "refused 12" ∷
    sample (words_text 0x0100 (0x00 ∷ 0x81 ∷ 0xA3 ∷ 0xFF ∷ [])) "product A381" ∷
    sample (words_text 0x010A (0x48 ∷ 0x51 ∷ 0x31 ∷ 0x00 ∷ [])) "serial HQ1" ∷
    sample (told 0x010A (0x48 ∷ 0x80 ∷ 0x31 ∷ 0x00 ∷ [])) "010A: not understood" ∷
    sample (told 0x010A (0x48 ∷ 0x51 ∷ 0x31 ∷ [])) "010A: not understood" ∷
    sample (told 0x010A (0x00 ∷ [])) "serial " ∷
    sample (words_text 0xEEF9 (0x01 ∷ 0x44 ∷ [])) "version 4401" ∷
    sample (words_text 0xED8D (0x05 ∷ 0x05 ∷ [])) "voltage 12.85 V" ∷
    sample (words_text 0xED8F (0xE0 ∷ 0xFF ∷ [])) "current -3.2 A" ∷
    sample (words_text 0xED8C (0x6F ∷ 0xF3 ∷ 0xFF ∷ 0xFF ∷ [])) "current -3.217 A" ∷
    sample (words_text 0xEEFF (0x85 ∷ 0xFF ∷ 0xFF ∷ 0xFF ∷ [])) "consumed -12.3 Ah" ∷
    sample (words_text 0x0FFF (0x2E ∷ 0x22 ∷ [])) "charge 87.50 %" ∷
    sample (strange_text 0xED8D) "ED8D: not understood" ∷
    sample (shown_text (record { answered = 8; understood = 5; silences = 0 })) "shown: 5 of 8 values" ∷
    sample (shown_text (record { answered = 2; understood = 2; silences = 3 })) "shown: 2 of 8 values" ∷
    sample (shown_text (record { answered = 5; understood = 8; silences = 0 })) "refused 12" ∷
    []

abbrev pub LinesRead : Type 0
LinesRead = all_read lines ≡ true
