-- How long a sentence is. Assumes nothing.
use mathlib.Core.Path.{◌≡◌, refl}
use mathlib.Core.Bool.{Bool, true, false, cond}
use mathlib.Core.List.{List, [], ◌++◌}
use Prim.Native.Nat.{ℕ, ◌+◌, ◌-◌, ◌≤◌}
use native.Mathlib.Omega.{arith}
use lib.ListN.{length, length-append}
use lib.Dec.{eqb}
use Rattle.laws.proofs.Bools.{pick}
use Rattle.settings.specs.Columns.{count}
use Rattle.follow.specs.Following.{standing, total, follower_allowed}
use Rattle.follow.specs.declared.Standing as follows
use Rattle.collect.specs.Calls.{told}
use Rattle.collect.specs.declared.Stage as collects
use Rattle.paper.specs.Numbers.{number_of, not_allowed}
use Rattle.paper.specs.declared.Refusal.{Refusal}
use Rattle.std.proofs.Common.{Ok, Err}
use Rattle.tally.specs.Results.{tally_allowed}
use Rattle.tally.specs.declared.Tally.{Tally}
use Rattle.tally.proofs.Counting.{within_of}
use Rattle.lines.specs.Lines.{chars}
use Rattle.lines.specs.Numbers.{decimal}
use Rattle.lines.proofs.Digits.{digits_few, digits_under}
use Rattle.sentences.specs.Texts.{Verdict, between_text, of_text, numbered_text, refused_text, stopped_text, end_text, followed_text, progress_text, read_text, collected_text, kept_text, file_text, saved_text, good_text, refusal_text, checked_text, counts_text, summed_text}
use Rattle.sentences.specs.Laws.{Fits, FollowersFit, FilesFit, YardsFit}
use Rattle.sentences.specs.declared.Kept.{Kept}

between_long : (before after : List ℕ) (n k : ℕ) → length (decimal n) ≤ k → length (between_text before n after) ≤ length before + k + length after
unfolding between_text
between_long before after n k h = simp length-append (omega arith)

of_long : (before after : List ℕ) (m n k : ℕ) → length (decimal m) ≤ k → length (decimal n) ≤ k → length (of_text before m n after) ≤ length before + k + k + 4 + length after
unfolding of_text
of_long before after m n k h i = simp length-append (omega arith)

-- with any counts
fits_between : (before after : List ℕ) (n : ℕ) → length before + length after ≤ 140 → Fits (between_text before n after)
fits_between before after n h = omega (arith, between_long before after n 20 (digits_few 19 n))

fits_of : (before after : List ℕ) (m n : ℕ) → length before + length after ≤ 116 → Fits (of_text before m n after)
fits_of before after m n h = omega (arith, of_long before after m n 20 (digits_few 19 m) (digits_few 19 n))

joined : (a b : List ℕ) (m n : ℕ) → length a ≤ m → length b ≤ n → length (a ++ b) ≤ m + n
joined a b m n h k = rw (length-append a b) (omega arith)

numbered_long : (number : ℕ) → length (numbered_text number) ≤ 28
numbered_long number = between_long _ _ number 20 (digits_few 19 number)

numbered_fits : (number : ℕ) → Fits (numbered_text number)
numbered_fits number = omega (arith, numbered_long number)

refused_fits : (refusal : Refusal) → Fits (refused_text refusal)
unfolding refused_text
refused_fits refusal = numbered_fits (number_of refusal)

stopped_fits : (confirmed due : ℕ) → Fits (stopped_text confirmed due)
unfolding stopped_text
stopped_fits confirmed due =
    let a : List ℕ = of_text (chars "stopped: ") confirmed due (chars " settings confirmed, ") in
    let b : List ℕ = between_text [] (due - confirmed) (chars " not confirmed") in
    let la : length a ≤ 74 = of_long (chars "stopped: ") (chars " settings confirmed, ") confirmed due 20 (digits_few 19 confirmed) (digits_few 19 due) in
    let lb : length b ≤ 34 = between_long [] (chars " not confirmed") (due - confirmed) 20 (digits_few 19 (due - confirmed)) in
    let all : length (a ++ b) ≤ 108 = joined a b 74 34 la lb in
    omega arith

end_fits : (o : follows.Standing) (confirmed due : ℕ) → Fits (end_text o confirmed due)
end_fits follows.Standing.Done confirmed due = fits_of _ _ _ _ (omega arith)
end_fits follows.Standing.Equal confirmed due = omega arith
end_fits (follows.Standing.Stopped wanted) confirmed due = stopped_fits _ _
end_fits (follows.Standing.Waiting wanted) confirmed due = fits_of _ _ _ _ (omega arith)
end_fits (follows.Standing.Refused refusal) confirmed due = refused_fits _

pub followers_uncut : FollowersFit
unfolding followed_text progress_text
followers_uncut f = (
  pick Fits (follower_allowed f) (end_fits (standing f) f.confirmed (total f)) (refused_fits not_allowed),
  pick Fits (follower_allowed f) (fits_of _ _ _ _ (omega arith)) (refused_fits not_allowed),
)

read_fits : (o : collects.Stage) (answered due : ℕ) → Fits (read_text o answered due)
read_fits collects.Stage.Done answered due = fits_between _ _ _ (omega arith)
read_fits (collects.Stage.Stopped setting) answered due = fits_of _ _ _ _ (omega arith)
read_fits (collects.Stage.Waiting setting) answered due = fits_of _ _ _ _ (omega arith)
read_fits (collects.Stage.Refused refusal) answered due = refused_fits _

kept_fits : (kept : Kept) (settings : ℕ) → Fits (kept_text kept settings)
kept_fits Kept.Not settings = omega arith
kept_fits Kept.Unsure settings = omega arith
kept_fits Kept.Whole settings = fits_between _ _ _ (omega arith)

file_fits : (o : collects.Stage) (answered : ℕ) (kept : Kept) → Fits (file_text o answered kept)
file_fits collects.Stage.Done answered kept = kept_fits kept answered
file_fits (collects.Stage.Stopped setting) answered kept = omega arith
file_fits (collects.Stage.Waiting setting) answered kept = omega arith
file_fits (collects.Stage.Refused refusal) answered kept = refused_fits _

line_fits : (number row : ℕ) → Fits (numbered_text number ++ between_text (chars ", line ") row [])
line_fits number row =
    let at : List ℕ = between_text (chars ", line ") row [] in
    let all : length (numbered_text number ++ at) ≤ 55 = joined (numbered_text number) at 28 27 (numbered_long number) (between_long (chars ", line ") [] row 20 (digits_few 19 row)) in
    omega arith

refusal_fits : (number row : ℕ) → Fits (refusal_text number row)
unfolding refusal_text
refusal_fits number row = pick Fits (eqb row 0) (numbered_fits number) (line_fits number _)

good_fits : (settings : ℕ) → Fits (good_text settings)
unfolding good_text
good_fits settings = fits_between _ _ _ (omega arith)

checked_fits : (verdict : Verdict) → Fits (checked_text verdict)
checked_fits (Ok done) = good_fits _
checked_fits (Err why) = refusal_fits why.number why.line

pub files_uncut : FilesFit
unfolding collected_text saved_text
files_uncut c kept verdict = (read_fits (told c).stage (told c).answered count, (file_fits (told c).stage (told c).answered kept, checked_fits verdict))

-- with counts up to a million: seven digits
between_short : (before after : List ℕ) (n : ℕ) → n ≤ 1000000 → length (between_text before n after) ≤ length before + 7 + length after
between_short before after n h = between_long before after n 7 (digits_under 19 n 6 (omega arith))

counts_fit : (t : Tally) → tally_allowed t ≡ true → Fits (counts_text t)
unfolding counts_text
counts_fit t ok =
    let w = within_of t ok in
    let a : List ℕ = between_text (chars "yard: ") t.done (chars " done, ") in
    let b : List ℕ = between_text [] t.equal (chars " equal, ") in
    let c : List ℕ = between_text [] t.stopped (chars " stopped, ") in
    let d : List ℕ = between_text [] t.silent (chars " silent, ") in
    let e : List ℕ = between_text [] t.unbegun (chars " not begun; ") in
    let f : List ℕ = of_text [] t.confirmed t.due (chars " settings confirmed") in
    let la : length a ≤ 20 = between_short (chars "yard: ") (chars " done, ") t.done w.done_few in
    let lb : length b ≤ 15 = between_short [] (chars " equal, ") t.equal w.equal_few in
    let lc : length c ≤ 17 = between_short [] (chars " stopped, ") t.stopped w.stopped_few in
    let ld : length d ≤ 16 = between_short [] (chars " silent, ") t.silent w.silent_few in
    let le : length e ≤ 19 = between_short [] (chars " not begun; ") t.unbegun w.unbegun_few in
    let m : length (decimal t.confirmed) ≤ 7 = digits_under 19 t.confirmed 6 (omega (arith, w.confirmed_few)) in
    let n : length (decimal t.due) ≤ 7 = digits_under 19 t.due 6 (omega (arith, w.due_few)) in
    let lf : length f ≤ 37 = of_long [] (chars " settings confirmed") t.confirmed t.due 7 m n in
    let ab : length (a ++ b) ≤ 35 = joined a b 20 15 la lb in
    let abc : length (a ++ b ++ c) ≤ 52 = joined (a ++ b) c 35 17 ab lc in
    let abcd : length (a ++ b ++ c ++ d) ≤ 68 = joined (a ++ b ++ c) d 52 16 abc ld in
    let abcde : length (a ++ b ++ c ++ d ++ e) ≤ 87 = joined (a ++ b ++ c ++ d) e 68 19 abcd le in
    let all : length (a ++ b ++ c ++ d ++ e ++ f) ≤ 124 = joined (a ++ b ++ c ++ d ++ e) f 87 37 abcde lf in
    omega arith

pub yards_uncut : YardsFit
unfolding summed_text
yards_uncut t = by (tally_allowed t) refl
  where
    by : (b : Bool) → tally_allowed t ≡ b → Fits (cond b (counts_text t) (refused_text not_allowed))
    by true ok = counts_fit t ok
    by false ok = refused_fits not_allowed
