-- Laws of a row judged for the setting that is due. Assumes nothing.
use mathlib.Core.Path.{◌≡◌, refl, sym, ap, subst, ◌∙◌}
use mathlib.Core.Bool.{Bool, true, false, cond}
use mathlib.Core.List.{List}
use Prim.Native.Nat.{ℕ, ◌≤◌, ◌<◌}
use borrow.Author.Tests.{lt-ltb, le-ltb, ltb-false, eqb-true, eqb-false, eq-eqb, ne_eqb}
use lib.ListN.{length, drop}
use lib.Seq.{drop_at}
use lib.Dec.{ltb, eqb}
use Rattle.paper.specs.Numbers as paper
use Rattle.settings.specs.Columns.{count, id_at}
use Rattle.settings.specs.Rules.{in_range}
use Rattle.rows.specs.Row.{row_of}
use Rattle.rows.specs.Calls.{parsing, judged_as, judging}
use Rattle.rows.specs.Laws as laws
use Rattle.rows.specs.Laws.{Begins, Reads, Judges, number, other, outside, JudgedExactly, PastIsRefused}
use Rattle.rows.specs.declared.Judged.{Judged}
use Rattle.rows.specs.Answers.{Read, Judgement, row_is, number_is}
use Rattle.std.proofs.Common.{Ok, Err}
use Rattle.rows.proofs.Rows.{begun, reads, read_exactly}

pub judged_here : (k : ℕ) (text : List ℕ) → k < count → judged_as k (parsing text) ≡ judging k text
unfolding judging
judged_here k text h = rw (lt-ltb k count h)

module _ (k : ℕ) (text : List ℕ) where
  judges_row : (id n : ℕ) {rest : List ℕ} → Begins text id n rest → Judges k text (judged_as k (row_is id n (length (row_of id n))))
  unfolding judged_as
  judges_row id n {rest} b = by (eqb id (id_at k)) (in_range k n) refl refl
    where
      by : (s t : Bool) → eqb id (id_at k) ≡ s → in_range k n ≡ t
          → Judges k text (cond s (cond t (number_is n (length (row_of id n))) (Err paper.out_of_range)) (Err paper.other_id))
      by false t e f = other b (eqb-false id (id_at k) e)
      by true false e f = outside (subst (λ (i : ℕ). Begins text i n rest) (eqb-true id (id_at k) e) b) f
      by true true e f =
          subst (λ (i : ℕ). Begins text i n rest → Judges k text (number_is n (length (row_of i n)))) (sym (eqb-true id (id_at k) e)) (λ b. number b f) b

  judges : (x : Read) → Reads text x → Judges k text (judged_as k x)
  unfolding judged_as
  judges (Ok r) (laws.row b) = judges_row _ _ b
  judges (Err r) (laws.none f) = laws.none f

  given : (x : Judgement) → Judges k text x → judged_as k (parsing text) ≡ x
  unfolding judged_as
  given (Ok r) (number b f) = ap (judged_as k) (begun text b) ∙ rw (eq-eqb (id_at k) (id_at k) refl, f)
  given (Err r) (laws.none f) = ap (judged_as k) ((read_exactly text (Err paper.bad_line)).1 (laws.none f))
  given (Err r) (other b d) = ap (judged_as k) (begun text b) ∙ rw (ne_eqb _ (id_at k) d)
  given (Err r) (outside b f) = ap (judged_as k) (begun text b) ∙ rw (eq-eqb (id_at k) (id_at k) refl, f)

pub judged_exactly : JudgedExactly
judged_exactly k text answer h =
    (λ e. subst (Judges k text) (judged_here k text h ∙ e) (judges k text (parsing text) (reads text)), λ j. sym (judged_here k text h) ∙ given k text answer j)

-- past the table, and there alone
pub past_refused : PastIsRefused
unfolding judging
past_refused k text = (λ e. by (ltb k count) refl e, λ past. rw (le-ltb k count past))
  where
    within : (x : Judgement) → Judges k text x → x ≡ Err paper.not_allowed → ⊥
    within (Ok r) j e = cc
    within (Err r) (laws.none f) e = cc
    within (Err r) (other b d) e = cc
    within (Err r) (outside b f) e = cc

    by : (b : Bool) → ltb k count ≡ b → cond b (judged_as k (parsing text)) (Err paper.not_allowed) ≡ Err paper.not_allowed → count ≤ k
    by true h e = absurd (within (judged_as k (parsing text)) (judges k text (parsing text) (reads text)) e)
    by false h e = ltb-false k count h

-- a row that has a number for its place is at the front, and the rest follows it
pub numbered : (k : ℕ) (text : List ℕ) (n len : ℕ) → k < count → judging k text ≡ number_is n len
    → Begins text (id_at k) n (drop len text) × (len ≡ length (row_of (id_at k) n))
numbered k text n len h e = by (number_is n len) ((judged_exactly k text (number_is n len) h).0 e) refl
  where
    by : (x : Judgement) → Judges k text x → x ≡ number_is n len → Begins text (id_at k) n (drop len text) × (len ≡ length (row_of (id_at k) n))
    by (Ok r) (number {n = m} {rest = rest} b f) is =
        let here : ◌≡◌ {A = Judged} r (record { number = n; len = len }) = cc in
        let same : m ≡ n = ap (λ (j : Judged). j.number) here in
        let long : length (row_of (id_at k) m) ≡ len = ap (λ (j : Judged). j.len) here in
        let begins : Begins text (id_at k) n rest = subst (λ (i : ℕ). Begins text (id_at k) i rest) same b in
        let len_is : len ≡ length (row_of (id_at k) n) = sym long ∙ ap (λ (i : ℕ). length (row_of (id_at k) i)) same in
        let left : rest ≡ drop len text = sym (ap (drop len) begins.text_is ∙ drop_at (row_of (id_at k) n) rest len (sym len_is)) in
        (subst (Begins text (id_at k) n) left begins, len_is)
    by (Err r) j is = cc
