-- Proofs of the statements of specs/Laws.antt and specs/Worked.antt. Assumes nothing.
use mathlib.Core.Path.{◌≡◌, refl, sym, ap, ap₂, subst, ◌∙◌}
use mathlib.Core.Logic.{◌↔◌}
use mathlib.Core.Bool.{Bool, true, false, cond, false≢true}
use mathlib.Core.List.{List, [], ◌∷◌, ◌++◌, append_assoc, append-nil}
use Prim.Native.Nat.{ℕ, ◌≤◌}
use native.Mathlib.Omega.{arith}
use borrow.Author.Tests.{ne_eqb}
use lib.ListN.{length, get_or, take}
use lib.Dec.{eqb}
use Rattle.laws.proofs.Bools.{pick}
use Rattle.settings.specs.Columns.{count}
use Rattle.tables.specs.declared.Table.{Table}
use Rattle.restore.specs.Order.{due_sets}
use Rattle.restore.specs.Calls.{both_allowed}
use Rattle.reply.specs.Events.{Event}
use Rattle.follow.specs.Following.{standing, begun, total, follower_allowed}
use Rattle.follow.specs.Laws.{run, matched}
use Rattle.follow.specs.declared.Follower.{Follower}
use Rattle.follow.specs.declared.Standing as follows
use Rattle.follow.proofs.Theorems.{count_is_matched, done_is_all, equal_is_none}
use Rattle.settings.specs.Calls.{setting_at}
use Rattle.settings.specs.declared.Setting.{Setting}
use Rattle.collect.specs.Collecting.{allowed, begun as collected-none}
use Rattle.collect.specs.Calls.{good as collected-as, told}
use Rattle.collect.specs.Laws.{run as collected-run, Carried, Tells, tells_done, carried}
use Rattle.collect.proofs.Calling.{called}
use Rattle.collect.proofs.Reaching.{begun_ends, ends_allowed}
use Rattle.collect.proofs.Theorems.{table_is_carried}
use Rattle.collect.specs.declared.Collected.{Collected}
use Rattle.collect.specs.declared.Collector.{Collector}
use Rattle.collect.specs.declared.Stage as collects
use Rattle.std.proofs.Common.{Ok, Err}
use Rattle.paper.specs.Numbers.{number_of}
use Rattle.backup.specs.Answers.{Checked}
use Rattle.backup.specs.declared.Backup.{Backup}
use lib.Dec.{ltb}
use Rattle.laws.specs.Promise.{Given}
use Rattle.backup.specs.Text.{Says as Judgement, text_of, text_says}
use Rattle.wire.specs.Answers.{Written}
use Rattle.wire.specs.Calls.{written_as}
use Rattle.backup.specs.Calls.{writing, parsing, read_as}
use Rattle.backup.proofs.Theorems.{read_is_written, written_is_read}
use Rattle.tally.specs.Results.{tally_allowed}
use Rattle.who.specs.Parts.{serial_fits}
use Rattle.wire.specs.Digits.{digit}
use Rattle.endian.specs.Numbers.{signed}
use Rattle.view.specs.Values.{serial_reads, is_understood}
use Rattle.view.specs.Calls.{allowed as allowed-viewer}
use Rattle.lines.specs.Lines.{chars, line_of, Says}
use Rattle.lines.specs.Numbers.{decimal_from, decimal, pointed}
use Rattle.lines.proofs.Adding.{says_text, text_says_lem}
use Rattle.sentences.specs.Texts.{Verdict, numbered, between_text, of_text, refused_text, stopped_text, end_text, followed_text, progress_text, read_text, collected_text, kept_text, file_text, saved_text, good_text, refusal_text, checked_text, counts_text, summed_text}
use Rattle.sentences.specs.Laws.{AllDone, DoneIsDone, NothingDue, EqualIsEqual, followed_by, joined, LineIsMatched, FollowersSay, SumsAreSaid, ReadIsRead, collected_by, LineIsCarried, SavedIsSaved, NotSavedIsNot, GoodIsGood, TextIsGood, IsBackup, GoodIsBackup, WellIsWell, NoneIsNone, StrayFollower, StrayCollector, StrayTally, CollectorsCount, FilesCount, RefusalIsTold, TextIsTold, FollowersFit, FilesFit, YardsFit}
use Rattle.sentences.specs.Values.{word_text, strange_text, serial_text, amount_text, reading_text, words_text, shown_text}
use Rattle.sentences.specs.Worked.{LinesRead}
use Rattle.sentences.specs.declared.Kept.{Kept}
use Rattle.sentences.proofs.Ending.{is_known, followed_good, followed_stray, progress_good, progress_stray, stands_known, within_list, done_list, equal_list, equal_none, arrived, goes, between_joined, followers_say}
use Rattle.sentences.proofs.Gathering.{is_done, own_good, done_read, read_done, collected_good, collected_stray, saved_good, saved_stray, saved_done, read_said, collectors_say}
use Rattle.sentences.proofs.Yard.{first_digit, well_said, none_said_ready, tally_stray, sums_said}
use Rattle.sentences.proofs.Uncut.{followers_uncut, files_uncut, yards_uncut}

-- the first letter tells the sentences apart
first : {l m : List ℕ} → l ≡ m → get_or l 0 0 ≡ get_or m 0 0
first e = ap (λ (l : List ℕ). get_or l 0 0) e

done_end : (o : follows.Standing) (confirmed due : ℕ) → take 6 (end_text o confirmed due) ≡ chars "done: " → o ≡ follows.Standing.Done
unfolding between_text of_text refused_text stopped_text
done_end follows.Standing.Done confirmed due e = refl
done_end follows.Standing.Equal confirmed due e = let z : ◌≡◌ {A = ℕ} 0x65 0x64 = first e in absurd (omega arith)
done_end (follows.Standing.Stopped wanted) confirmed due e = let z : ◌≡◌ {A = ℕ} 0x73 0x64 = first e in absurd (omega arith)
done_end (follows.Standing.Waiting wanted) confirmed due e = let z : ◌≡◌ {A = ℕ} 0x6E 0x64 = first e in absurd (omega arith)
done_end (follows.Standing.Refused refusal) confirmed due e = let z : ◌≡◌ {A = ℕ} 0x72 0x64 = first e in absurd (omega arith)

equal_end : (o : follows.Standing) (confirmed due : ℕ) → take 7 (end_text o confirmed due) ≡ chars "equal: " → o ≡ follows.Standing.Equal
unfolding between_text of_text refused_text stopped_text
equal_end follows.Standing.Done confirmed due e = let z : ◌≡◌ {A = ℕ} 0x64 0x65 = first e in absurd (omega arith)
equal_end follows.Standing.Equal confirmed due e = refl
equal_end (follows.Standing.Stopped wanted) confirmed due e = let z : ◌≡◌ {A = ℕ} 0x73 0x65 = first e in absurd (omega arith)
equal_end (follows.Standing.Waiting wanted) confirmed due e = let z : ◌≡◌ {A = ℕ} 0x6E 0x65 = first e in absurd (omega arith)
equal_end (follows.Standing.Refused refusal) confirmed due e = let z : ◌≡◌ {A = ℕ} 0x72 0x65 = first e in absurd (omega arith)

-- a text by the outcome of a follower that is allowed
by_outcome : (f : Follower) (o : follows.Standing) → follower_allowed f ≡ true → standing f ≡ o → followed_text f ≡ end_text o f.confirmed (total f)
by_outcome f o ok is = sym (followed_good f ok) ∙ ap (λ (k : follows.Standing). end_text k f.confirmed (total f)) is

pub done_is_done : DoneIsDone
unfolding between_text of_text refused_text
done_is_done f = (
  λ e. by (follower_allowed f) refl (says_text [] (followed_text f) "done: " e),
  λ all. text_says_lem (followed_text f) "done: " (omega arith) (ap (take 6) (by_outcome f follows.Standing.Done all.is_allowed all.is_done_lem)),
)
  where
    by : (t : Bool) → follower_allowed f ≡ t → take 6 (followed_text f) ≡ chars "done: " → AllDone f
    by true ok e =
        let is : standing f ≡ follows.Standing.Done = done_end (standing f) f.confirmed (total f) (ap (take 6) (followed_good f ok) ∙ e) in
        let few : f.confirmed ≤ total f = within_list f ok in
        let all : total f ≤ f.confirmed = done_list f is in
        record { is_allowed = ok; is_done_lem = is; all_confirmed = omega arith }
    by false ok e = let z : ◌≡◌ {A = ℕ} 0x72 0x64 = first (ap (take 6) (followed_stray f ok) ∙ e) in absurd (omega arith)

pub equal_is_equal : EqualIsEqual
unfolding between_text refused_text
equal_is_equal f = (
  λ e. by (follower_allowed f) refl (says_text [] (followed_text f) "equal: " e),
  λ all. text_says_lem (followed_text f) "equal: " (omega arith) (ap (take 7) (by_outcome f follows.Standing.Equal all.is_allowed all.is_equal_lem)),
)
  where
    by : (t : Bool) → follower_allowed f ≡ t → take 7 (followed_text f) ≡ chars "equal: " → NothingDue f
    by true ok e =
        let is : standing f ≡ follows.Standing.Equal = equal_end (standing f) f.confirmed (total f) (ap (take 7) (followed_good f ok) ∙ e) in
        let all : total f ≤ f.confirmed = equal_list f is in
        let none : f.confirmed ≡ 0 = equal_none f is in
        record { is_allowed = ok; is_equal_lem = is; none_due = omega arith }
    by false ok e = let z : ◌≡◌ {A = ℕ} 0x72 0x65 = first (ap (take 7) (followed_stray f ok) ∙ e) in absurd (omega arith)

-- the same of the public calls
module _ (from to : Table) (events : List Event) (ok : both_allowed from to ≡ true) where
  abbrev end : Follower
  end = run (begun from to) events

  list_is : total end ≡ length (due_sets from to)
  list_is = ap₂ (λ (a b : Table). length (due_sets a b)) (goes from to ok events).from_is (goes from to ok events).to_is

  line_says : (words : follows.Standing) (text : List ℕ → Type 0) {q : Type 0} → (text (followed_text end) → standing end ≡ words) → (standing end ≡ words → text (followed_text end))
      → (standing end ≡ words) ↔ q → text (followed_text (followed_by from to events)) ↔ q
  line_says words text {q} there back all = subst (λ (f : Follower). text (followed_text f) ↔ q) (sym (arrived from to ok events)) (λ e. all.0 (there e), λ z. back (all.1 z))

pub line_is_matched : LineIsMatched
unfolding of_text
line_is_matched from to events ok r =
    let f : Follower = end from to events ok in
    let fine : follower_allowed f ≡ true = (goes from to ok events).is_allowed in
    let matches : f.confirmed ≡ matched (due_sets from to) events = count_is_matched from to events ok r in
    let list : total f ≡ length (due_sets from to) = list_is from to events ok in
    record {
      done_when = line_says from to events ok follows.Standing.Done (λ (t : List ℕ). Says (line_of t) 0 "done: ")
          (λ e. ((done_is_done f).0 e).is_done_lem)
          (λ is. text_says_lem (followed_text f) "done: " (omega arith) (ap (take 6) (by_outcome f follows.Standing.Done fine is)))
          (done_is_all from to events ok r);
      equal_when = line_says from to events ok follows.Standing.Equal (λ (t : List ℕ). Says (line_of t) 0 "equal: ")
          (λ e. ((equal_is_equal f).0 e).is_equal_lem)
          (λ is. text_says_lem (followed_text f) "equal: " (omega arith) (ap (take 7) (by_outcome f follows.Standing.Equal fine is)))
          (equal_is_none from to events ok);
      numbers_are = rw (arrived from to ok events, ← matches, ← list) (followers_say f fine);
    }

read_end : (o : collects.Stage) (answered due : ℕ) → take 4 (read_text o answered due) ≡ chars "all " → is_done o ≡ true
unfolding between_text of_text refused_text
read_end collects.Stage.Done answered due e = refl
read_end (collects.Stage.Stopped setting) answered due e = let z : ◌≡◌ {A = ℕ} 0x73 0x61 = first e in absurd (omega arith)
read_end (collects.Stage.Waiting setting) answered due e = let z : ◌≡◌ {A = ℕ} 0x6E 0x61 = first e in absurd (omega arith)
read_end (collects.Stage.Refused refusal) answered due e = let z : ◌≡◌ {A = ℕ} 0x72 0x61 = first e in absurd (omega arith)

pub read_is_read : ReadIsRead
unfolding collected_text between_text
read_is_read c = (
  λ e. done_read c (read_end (told c).stage (told c).answered count (says_text [] (collected_text c) "all " e)),
  λ all. text_says_lem (collected_text c) "all " (omega arith) (ap (λ (o : collects.Stage). take 4 (read_text o (told c).answered count)) (read_done c all)),
)

-- what a row of calls tells is the collector's own word
module _ (events : List Event) where
  own_word : told (collected_by events).collector ≡ collected_by events
  unfolding collected-as
  own_word = rw (called events) (own_good (collected-run collected-none events) (ends_allowed (begun_ends events)))

done_carried : (all : Carried) → Tells all collects.Stage.Done → length all.numbers ≡ count
done_carried all (tells_done is) = is

pub line_is_carried : LineIsCarried
unfolding collected_text
line_is_carried events r =
    let c : Collector = (collected_by events).collector in
    let holds = table_is_carried events r in
    let said : (told c).stage ≡ (collected_by events).stage = ap (λ (w : Collected). w.stage) (own_word events) in
    record {
      all_when = (
        λ e. done_carried _ ((holds.stage_when collects.Stage.Done).0 (sym said ∙ read_done c ((read_is_read c).0 e))),
        λ all. (read_is_read c).1 (done_read c (ap is_done (said ∙ (holds.stage_when collects.Stage.Done).1 (tells_done all)))),
      );
      numbers_are = read_said c (collected_by events).stage (length (carried events).numbers)
          (ap (λ (w : Collected). read_text w.stage w.answered count) (own_word events)
          ∙ ap (λ (n : ℕ). read_text (collected_by events).stage n count) holds.answered_are);
    }

-- a file, by its first letters
letter : (n : ℕ) {l m : List ℕ} → l ≡ m → get_or l n 0 ≡ get_or m n 0
letter n e = ap (λ (l : List ℕ). get_or l n 0) e

kept_whole : (kept : Kept) (settings : ℕ) → take 7 (kept_text kept settings) ≡ chars "saved: " → kept ≡ Kept.Whole
kept_whole Kept.Whole settings e = refl
kept_whole Kept.Not settings e = let z : ◌≡◌ {A = ℕ} 0x6E 0x73 = first e in absurd (omega arith)
kept_whole Kept.Unsure settings e = let z : ◌≡◌ {A = ℕ} 0x6E 0x73 = first e in absurd (omega arith)

file_whole : (o : collects.Stage) (answered : ℕ) (kept : Kept) → take 7 (file_text o answered kept) ≡ chars "saved: " → (is_done o ≡ true) × (kept ≡ Kept.Whole)
unfolding refused_text between_text
file_whole collects.Stage.Done answered kept e = (refl, kept_whole kept answered e)
file_whole (collects.Stage.Stopped setting) answered kept e = let z : ◌≡◌ {A = ℕ} 0x6E 0x73 = first e in absurd (omega arith)
file_whole (collects.Stage.Waiting setting) answered kept e = let z : ◌≡◌ {A = ℕ} 0x6E 0x73 = first e in absurd (omega arith)
file_whole (collects.Stage.Refused refusal) answered kept e = let z : ◌≡◌ {A = ℕ} 0x72 0x73 = first e in absurd (omega arith)

pub saved_is_saved : SavedIsSaved
unfolding saved_text between_text
saved_is_saved c kept = (
  λ e.
      let said = file_whole (told c).stage (told c).answered kept (says_text [] (saved_text c kept) "saved: " e) in
      (done_read c said.0, said.1),
  λ all. text_says_lem (saved_text c kept) "saved: " (omega arith) (ap (take 7) (saved_done c kept all.0 ∙ ap (λ (k : Kept). kept_text k c.len) all.1)),
)

kept_not : (kept : Kept) (settings : ℕ) → take 32 (kept_text kept settings) ≡ chars "not saved: the file is as it was" → kept ≡ Kept.Not
unfolding between_text
kept_not Kept.Not settings e = refl
kept_not Kept.Whole settings e = let z : ◌≡◌ {A = ℕ} 0x73 0x6E = first e in absurd (omega arith)
kept_not Kept.Unsure settings e = let z : ◌≡◌ {A = ℕ} 0x75 0x61 = letter 5 e in absurd (omega arith)

file_not : (o : collects.Stage) (answered : ℕ) (kept : Kept) → take 32 (file_text o answered kept) ≡ chars "not saved: the file is as it was" → (is_done o ≡ true) × (kept ≡ Kept.Not)
unfolding refused_text between_text
file_not collects.Stage.Done answered kept e = (refl, kept_not kept answered e)
file_not (collects.Stage.Stopped setting) answered kept e = let z : ◌≡◌ {A = ℕ} 0x6E 0x74 = letter 11 e in absurd (omega arith)
file_not (collects.Stage.Waiting setting) answered kept e = let z : ◌≡◌ {A = ℕ} 0x6E 0x74 = letter 11 e in absurd (omega arith)
file_not (collects.Stage.Refused refusal) answered kept e = let z : ◌≡◌ {A = ℕ} 0x72 0x6E = first e in absurd (omega arith)

pub not_saved_is_not : NotSavedIsNot
unfolding saved_text
not_saved_is_not c kept = (
  λ e.
      let said = file_not (told c).stage (told c).answered kept (says_text [] (saved_text c kept) "not saved: the file is as it was" e) in
      (done_read c said.0, said.1),
  λ all. text_says_lem (saved_text c kept) "not saved: the file is as it was" (omega arith)
      (ap (take 32) (saved_done c kept all.0 ∙ ap (λ (k : Kept). kept_text k c.len) all.1)),
)

pub good_is_good : GoodIsGood
unfolding good_text refusal_text refused_text between_text
good_is_good verdict = (
  λ e. by verdict (says_text [] (checked_text verdict) "good: " e),
  λ is. text_says_lem (checked_text verdict) "good: " (omega arith) (ap (λ (v : Verdict). take 6 (checked_text v)) is),
)
  where
    by : (v : Verdict) → take 6 (checked_text v) ≡ chars "good: " → v ≡ Ok tt
    by (Ok done) e = refl
    by (Err why) e =
        let z : ◌≡◌ {A = ℕ} 0x72 0x67 = sym (pick (λ (l : List ℕ). get_or (take 6 l) 0 0 ≡ 0x72) (eqb why.line 0) refl refl) ∙ first e in
        absurd (omega arith)

-- a text that is accepted is read as some table, which it is the text of
read_as_lem : (text : List ℕ) (s : Judgement) → text_says text ≡ s → (read_as s).verdict ≡ Ok tt → IsBackup text
unfolding parsing writing
read_as_lem text (Ok table) is e =
    let written = read_is_written text table (ap read_as is) in
    let made : writing table 512 ≡ written_as (text_of table) = rw written.is_allowed refl in
    let same : text ≡ text_of table = ap (λ (g : Given Written). g.written) (sym (written.is_written 512 (omega arith)) ∙ made) in
    record { table = table; is_whole = written.is_whole; is_allowed = written.is_allowed; is_text = same }
read_as_lem text (Err why) is e = cc

-- a verdict has no number where it is good, and only there
numbered_good : (v : Checked) → numbered v ≡ Ok tt → v ≡ Ok tt
numbered_good (Ok done) e = refl
numbered_good (Err bad) e = cc

pub text_is_good : TextIsGood
text_is_good verdict = (
  λ e. numbered_good verdict ((good_is_good (numbered verdict)).0 e),
  λ is. (good_is_good (numbered verdict)).1 (ap numbered is),
)

pub good_is_backup : GoodIsBackup
unfolding parsing
good_is_backup text = (
  λ e. read_as_lem text (text_says text) refl ((text_is_good (parsing text).verdict).0 e),
  λ b. (text_is_good (parsing text).verdict).1
      (ap (λ (l : List ℕ). (parsing l).verdict) b.is_text ∙ ap (λ (r : Backup). r.verdict) (written_is_read b.table b.is_whole b.is_allowed)),
)

pub followers_say_it : FollowersSay
followers_say_it = followers_say

pub sums_are_said : SumsAreSaid
sums_are_said = sums_said

pub well_is_well : WellIsWell
well_is_well = well_said

pub none_is_none : NoneIsNone
none_is_none = none_said_ready

-- a refusal begins with its own letter
end_known : (o : follows.Standing) (confirmed due : ℕ) → take 10 (end_text o confirmed due) ≡ chars "refused 12" → is_known o ≡ false
unfolding between_text of_text stopped_text
end_known follows.Standing.Done confirmed due e = let z : ◌≡◌ {A = ℕ} 0x64 0x72 = first e in absurd (omega arith)
end_known follows.Standing.Equal confirmed due e = let z : ◌≡◌ {A = ℕ} 0x65 0x72 = first e in absurd (omega arith)
end_known (follows.Standing.Stopped wanted) confirmed due e = let z : ◌≡◌ {A = ℕ} 0x73 0x72 = first e in absurd (omega arith)
end_known (follows.Standing.Waiting wanted) confirmed due e = let z : ◌≡◌ {A = ℕ} 0x6E 0x72 = first e in absurd (omega arith)
end_known (follows.Standing.Refused refusal) confirmed due e = refl

first_kept : (l : List ℕ) → get_or (take 10 l) 0 0 ≡ get_or l 0 0
first_kept [] = refl
first_kept (x ∷ l) = refl

no_letter : {c : ℕ} → c ≡ 0x72 → c ≤ 57 → ⊥
no_letter e h = omega arith

of_known : (m n : ℕ) (after : List ℕ) → take 10 (of_text [] m n after) ≡ chars "refused 12" → ⊥
unfolding of_text
of_known m n after e = no_letter (simp append_assoc at (sym (first_kept (of_text [] m n after)) ∙ first e)) (first_digit 19 _ _)

pub stray_follower : StrayFollower
unfolding refused_text between_text decimal_from
stray_follower f = (
  (
    λ e. by_end (follower_allowed f) refl (says_text [] (followed_text f) "refused 12" e),
    λ bad. text_says_lem (followed_text f) "refused 12" (omega arith) (ap (take 10) (sym (followed_stray f bad))),
  ),
  (
    λ e. by_count (follower_allowed f) refl (says_text [] (progress_text f) "refused 12" e),
    λ bad. text_says_lem (progress_text f) "refused 12" (omega arith) (ap (take 10) (sym (progress_stray f bad))),
  ),
)
  where
    by_end : (t : Bool) → follower_allowed f ≡ t → take 10 (followed_text f) ≡ chars "refused 12" → follower_allowed f ≡ false
    by_end true ok e = absurd (false≢true (sym (end_known (standing f) f.confirmed (total f) (ap (take 10) (followed_good f ok) ∙ e)) ∙ stands_known f ok))
    by_end false bad e = bad

    by_count : (t : Bool) → follower_allowed f ≡ t → take 10 (progress_text f) ≡ chars "refused 12" → follower_allowed f ≡ false
    by_count true ok e = absurd (of_known f.confirmed (total f) (chars " confirmed") (ap (take 10) (progress_good f ok) ∙ e))
    by_count false bad e = bad

read_known : (b s : Bool) (x : Setting) (answered due : ℕ) → take 10 (read_text (cond b (cond s (collects.Stage.Stopped x) (collects.Stage.Waiting x)) collects.Stage.Done) answered due) ≡ chars "refused 12" → ⊥
unfolding between_text of_text
read_known false s x answered due e = let z : ◌≡◌ {A = ℕ} 0x61 0x72 = first e in absurd (omega arith)
read_known true false x answered due e = let z : ◌≡◌ {A = ℕ} 0x6E 0x72 = first e in absurd (omega arith)
read_known true true x answered due e = let z : ◌≡◌ {A = ℕ} 0x73 0x72 = first e in absurd (omega arith)

kept_known : (kept : Kept) (settings : ℕ) → take 10 (kept_text kept settings) ≡ chars "refused 12" → ⊥
unfolding between_text
kept_known Kept.Whole settings e = let z : ◌≡◌ {A = ℕ} 0x73 0x72 = first e in absurd (omega arith)
kept_known Kept.Not settings e = let z : ◌≡◌ {A = ℕ} 0x6E 0x72 = first e in absurd (omega arith)
kept_known Kept.Unsure settings e = let z : ◌≡◌ {A = ℕ} 0x6E 0x72 = first e in absurd (omega arith)

file_known : (b s : Bool) (x : Setting) (answered : ℕ) (kept : Kept) → take 10 (file_text (cond b (cond s (collects.Stage.Stopped x) (collects.Stage.Waiting x)) collects.Stage.Done) answered kept) ≡ chars "refused 12" → ⊥
file_known false s x answered kept e = kept_known kept answered e
file_known true false x answered kept e = let z : ◌≡◌ {A = ℕ} 0x6E 0x72 = first e in absurd (omega arith)
file_known true true x answered kept e = let z : ◌≡◌ {A = ℕ} 0x6E 0x72 = first e in absurd (omega arith)

pub stray_collector : StrayCollector
unfolding refused_text between_text decimal_from
stray_collector c kept = (
  (
    λ e. by_read (allowed c) refl (says_text [] (collected_text c) "refused 12" e),
    λ bad. text_says_lem (collected_text c) "refused 12" (omega arith) (ap (take 10) (collected_stray c bad)),
  ),
  (
    λ e. by_file (allowed c) refl (says_text [] (saved_text c kept) "refused 12" e),
    λ bad. text_says_lem (saved_text c kept) "refused 12" (omega arith) (ap (take 10) (saved_stray c kept bad)),
  ),
)
  where
    by_read : (t : Bool) → allowed c ≡ t → take 10 (collected_text c) ≡ chars "refused 12" → allowed c ≡ false
    by_read true ok e = absurd (read_known (ltb c.len count) c.stopped (setting_at c.len) c.len count (ap (take 10) (sym (collected_good c ok)) ∙ e))
    by_read false bad e = bad

    by_file : (t : Bool) → allowed c ≡ t → take 10 (saved_text c kept) ≡ chars "refused 12" → allowed c ≡ false
    by_file true ok e = absurd (file_known (ltb c.len count) c.stopped (setting_at c.len) c.len kept (ap (take 10) (sym (saved_good c kept ok)) ∙ e))
    by_file false bad e = bad

pub stray_tally : StrayTally
stray_tally = tally_stray

pub collectors_count : CollectorsCount
collectors_count = collectors_say

pub files_count : FilesCount
unfolding good_text
files_count text table e =
    ap (λ (b : Backup). checked_text (numbered b.verdict)) e ∙ ap good_text (sym (read_is_written text table e).is_whole)
    ∙ between_joined (chars "good: ") (chars " settings, every number in range, every pair agrees") (length table.numbers)

line_joined : (a b c d : List ℕ) → (a ++ b ++ []) ++ (c ++ d ++ []) ≡ joined (a ∷ b ∷ c ∷ d ∷ [])
line_joined a b c d = simp (append_assoc, append-nil)

pub refusal_is_told : RefusalIsTold
unfolding refusal_text refused_text between_text
refusal_is_told number row = (
  between_joined (chars "refused ") [] number,
  λ some. rw (ne_eqb row 0 some) (line_joined (chars "refused ") (decimal number) (chars ", line ") (decimal row)),
)

pub text_is_told : TextIsTold
text_is_told refusal row = refusal_is_told (number_of refusal) row

pub followers_fit : FollowersFit
followers_fit = followers_uncut

pub files_fit : FilesFit
files_fit = files_uncut

pub yards_fit : YardsFit
yards_fit = yards_uncut

pub lines_read : LinesRead
unfolding digit decimal_from pointed between_text of_text refused_text stopped_text good_text refusal_text counts_text summed_text tally_allowed signed serial_fits serial_reads is_understood allowed-viewer word_text strange_text serial_text amount_text reading_text words_text shown_text
lines_read = refl
