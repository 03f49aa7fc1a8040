-- What the calls answer, exactly when. Assumes nothing.
use mathlib.Core.Path.{◌≡◌, refl, sym, ap, ap₂, subst, ◌∙◌}
use mathlib.Core.Bool.{Bool, true, false, ◌&&◌, false≢true}
use mathlib.Core.List.{List, [], ◌∷◌, ◌++◌, append-nil, append_assoc}
use Prim.Native.Nat.{ℕ, zero, suc, ◌+◌, ◌-◌, ◌≤◌, ◌<◌}
use native.Mathlib.Nat.{zero-add, add-zero}
use native.Mathlib.Omega.{arith}
use borrow.Author.Tests.{ltb-true, ltb-false}
use lib.ListN.{length, take, drop, get_or, length-append, take-append-drop}
use lib.Seq.{take-append_seam}
use lib.Dec.{ltb}
use Rattle.paper.specs.Numbers as paper
use Rattle.paper.specs.Numbers.{text_room}
use Rattle.laws.specs.Lists.{every, same}
use Rattle.laws.specs.Promise.{Given}
use Rattle.laws.proofs.Bools.{and_left, and_right, both}
use Rattle.laws.proofs.Lists.{same_back, same_self, every_append}
use Rattle.settings.specs.Columns.{count, id_at}
use Rattle.settings.specs.Rules.{in_range}
use Rattle.tables.specs.Rules.{allowed, number_at, factory}
use Rattle.tables.specs.declared.Table.{Table}
use Rattle.rows.specs.Row.{row_of}
use Rattle.rows.specs.Calls.{judging}
use Rattle.rows.specs.Laws.{Judges, number}
use Rattle.rows.specs.Answers.{Judgement}
use Rattle.paper.specs.declared.Refusal.{Refusal}
use Rattle.std.proofs.Common.{Ok, Err}
use Rattle.rows.proofs.Theorems.{row_is_judged_exactly}
use Rattle.backup.specs.Text.{lines_for, text_for, refused, says_for, places_from, places, header, text_of}
use Rattle.backup.specs.Calls.{writing, read_as, parsing}
use Rattle.backup.specs.Laws.{are_places, filled, IsRefused, rows_of, in_ranges, Good, Answers, other_header_lem, at_line, more_bytes, a_pair, a_table, AnsweredExactly, Writes, short, not_allowed_lem, its_text, WrittenExactly, TextIsLines}
use Rattle.wire.specs.Answers.{Written}
use Rattle.backup.specs.declared.Backup.{Backup}
use Rattle.backup.proofs.Places.{from_length, are_places_lem}
use Rattle.backup.proofs.Calls.{read_says, write_short, write_stray, write_made}
use Rattle.backup.proofs.Listing.{lines_none, lines_more}
use Rattle.backup.proofs.RoundTrip.{all_filled, text_is, refused_order, written_read}

-- the first places
from_append : (a b k : ℕ) → places_from (a + b) k ≡ places_from a k ++ places_from b (k + a)
unfolding places_from
from_append zero b k = ap₂ places_from (zero-add b) (sym (add-zero k))
from_append (suc a) b k =
    let sum : suc a + b ≡ suc (a + b) = omega arith in
    let next : suc k + a ≡ k + suc a = omega arith in
    ap (λ (n : ℕ). places_from n k) sum ∙ ap (λ (l : List ℕ). k ∷ l) (from_append a b (suc k) ∙ ap (λ (n : ℕ). places_from a (suc k) ++ places_from b n) next)

from_more : (left k : ℕ) → places_from (suc left) k ≡ k ∷ places_from left (suc k)
unfolding places_from
from_more left k = refl

first_places : (m left : ℕ) → m + left ≡ count → places_from m 0 ++ places_from left m ≡ places
unfolding places
first_places m left e = ap (λ (n : ℕ). places_from m 0 ++ places_from left n) (sym (zero-add m)) ∙ sym (from_append m left 0) ∙ ap (λ (n : ℕ). places_from n 0) e

places_front : (xs ys : List ℕ) → are_places (xs ++ ys) ≡ true → are_places xs ≡ true
places_front [] ys e = refl
places_front (x ∷ xs) ys e =
    let here = and_left (ltb x count && every (ltb x) (xs ++ ys)) _ e in
    let later = and_right (ltb x count && every (ltb x) (xs ++ ys)) _ e in
    let least : (every (ltb x) xs && every (ltb x) ys) ≡ true = sym (every_append (ltb x) xs ys) ∙ and_right (ltb x count) _ here in
    both _ _ (both _ _ (and_left (ltb x count) _ here) (and_left (every (ltb x) xs) _ least)) (places_front xs ys later)

drop_first : (l more : List ℕ) (k n : ℕ) → drop k l ≡ n ∷ more → (get_or l k 0 ≡ n) × (drop (suc k) l ≡ more)
drop_first [] more zero n e = let z : ◌≡◌ {A = ℕ} 0 (suc (length more)) = ap length e in absurd (omega arith)
drop_first [] more (suc k) n e = let z : ◌≡◌ {A = ℕ} 0 (suc (length more)) = ap length e in absurd (omega arith)
drop_first (x ∷ l) more zero n e = (ap (λ (xs : List ℕ). get_or xs 0 0) e, ap (drop 1) e)
drop_first (x ∷ l) more (suc k) n e = drop_first l more k n e

-- the lines of the first settings, with numbers of a table and without
module _ (numbers : List ℕ) where
  abbrev held : Table
  held = record { numbers = numbers }

  rows_lines : (l : List ℕ) (k : ℕ) → drop k numbers ≡ l → lines_for (places_from (length l) k) held ≡ rows_of k l
  unfolding places_from
  rows_lines [] k e = lines_none held
  rows_lines (n ∷ l) k e =
      let first = drop_first numbers l k n e in
      lines_more k (places_from (length l) (suc k)) held
      ∙ ap₂ (λ (m : ℕ) (more : List ℕ). row_of (id_at k) m ++ more) first.0 (rows_lines l (suc k) first.1)

  ranges_are : (l : List ℕ) (k : ℕ) → drop k numbers ≡ l → every (λ j. in_range j (number_at held j)) (places_from (length l) k) ≡ in_ranges k l
  unfolding places_from
  ranges_are [] k e = refl
  ranges_are (n ∷ l) k e =
      let first = drop_first numbers l k n e in
      ap₂ (λ (m : ℕ) (b : Bool). in_range k m && b) first.0 (ranges_are l (suc k) first.1)

  -- the good lines are those of a text
  text_for_lem : (rest : List ℕ) → text_for header (places_from (length numbers) 0) held ++ rest ≡ header ++ (rows_of 0 numbers ++ rest)
  unfolding text_for
  text_for_lem rest = append_assoc header (lines_for (places_from (length numbers) 0) held) rest ∙ ap (λ (l : List ℕ). header ++ (l ++ rest)) (rows_lines numbers 0 refl)

  whole_places : length numbers ≡ count → places_from (length numbers) 0 ≡ places
  unfolding places
  whole_places long = ap (λ (n : ℕ). places_from n 0) long

  whole_text_lem : length numbers ≡ count → header ++ (rows_of 0 numbers ++ []) ≡ text_of held
  whole_text_lem long =
      sym (text_for_lem []) ∙ append-nil (text_for header (places_from (length numbers) 0) held) ∙ ap (λ (ks : List ℕ). text_for header ks held) (whole_places long) ∙ text_is held

  module _ (text rest : List ℕ) (g : Good text numbers rest) where
    refusals : (left : ℕ) → length numbers + left ≡ count → IsRefused header (places_from (length numbers) 0) held rest
    refusals left e =
        refused_order header (places_from (length numbers) 0) held rest
        (places_front (places_from (length numbers) 0) (places_from left (length numbers)) (ap are_places (first_places (length numbers) left e) ∙ are_places_lem))
        (ranges_are numbers 0 refl ∙ g.in_ranges_lem)

    lines_are : text ≡ text_for header (places_from (length numbers) 0) held ++ rest
    lines_are = g.text_is ∙ sym (text_for_lem rest)

    says_line : (refusal : Refusal) → length numbers < count → Judges (length numbers) rest (Err refusal)
        → says_for header places text ≡ refused refusal (2 + length numbers)
    says_line refusal less judged =
        let left : ℕ = count - suc (length numbers) in
        let all : length numbers + suc left ≡ count = omega arith in
        let split : places_from (length numbers) 0 ++ length numbers ∷ places_from left (suc (length numbers)) ≡ places =
        ap (λ (l : List ℕ). places_from (length numbers) 0 ++ l) (sym (from_more left (length numbers))) ∙ first_places (length numbers) (suc left) all in
        ap₂ (λ (ks t : List ℕ). says_for header ks t) (sym split) lines_are
        ∙ (refusals (suc left) all).at_line (length numbers) (places_from left (suc (length numbers))) refusal
        ((row_is_judged_exactly (length numbers) rest (Err refusal) less).1 judged)
        ∙ ap (λ (n : ℕ). refused refusal (2 + n)) (from_length (length numbers) 0)

    module _ (long : length numbers ≡ count) where
      all_refusals : IsRefused header (places_from (length numbers) 0) held rest
      all_refusals = refusals 0 (add-zero (length numbers) ∙ long)

      says_more : 0 < length rest → says_for header places text ≡ refused paper.more_bytes 0
      says_more some = ap₂ (λ (ks t : List ℕ). says_for header ks t) (sym (whole_places long)) lines_are ∙ all_refusals.at_end some

      says_pair : rest ≡ [] → allowed held ≡ false → says_for header places text ≡ refused paper.pair_disagrees 0
      says_pair none bad =
          let filled_is : filled (places_from (length numbers) 0) factory held ≡ held = ap (λ (ks : List ℕ). filled ks factory held) (whole_places long) ∙ all_filled held long in
          ap₂ (λ (ks t : List ℕ). says_for header ks t) (sym (whole_places long))
          (lines_are ∙ ap (λ (l : List ℕ). text_for header (places_from (length numbers) 0) held ++ l) none ∙ append-nil (text_for header (places_from (length numbers) 0) held))
          ∙ all_refusals.at_pair (ap allowed filled_is ∙ bad)

says_header : (text : List ℕ) → ((rest : List ℕ) → text ≡ header ++ rest → ⊥) → says_for header places text ≡ refused paper.other_header 1
says_header text other = (refused_order header [] factory [] refl refl).at_header places text other

-- a case of the law fixes the answer
given : (text : List ℕ) (answer : Backup) → Answers text answer → parsing text ≡ answer
given text answer (other_header_lem other) = read_says text ∙ ap read_as (says_header text other)
given text answer (at_line {numbers} {rest} {refusal = refusal} g less judged) = read_says text ∙ ap read_as (says_line numbers text rest g refusal less judged)
given text answer (more_bytes {numbers} {rest} g long some) = read_says text ∙ ap read_as (says_more numbers text rest g long some)
given text answer (a_pair {numbers} g long bad) = read_says text ∙ ap read_as (says_pair numbers text [] g long refl bad)
given text answer (a_table {numbers} g long ok) = ap parsing (g.text_is ∙ whole_text_lem numbers long) ∙ written_read (held numbers) long ok

-- one line more
ranges_more : (l : List ℕ) (k n : ℕ) → in_ranges k l ≡ true → in_range (k + length l) n ≡ true → in_ranges k (l ++ n ∷ []) ≡ true
ranges_more [] k n e f = both _ _ (ap (λ (j : ℕ). in_range j n) (sym (add-zero k)) ∙ f) refl
ranges_more (m ∷ l) k n e f =
    let next : suc k + length l ≡ k + suc (length l) = omega arith in
    both _ _ (and_left (in_range k m) _ e) (ranges_more l (suc k) n (and_right (in_range k m) _ e) (ap (λ (j : ℕ). in_range j n) next ∙ f))

rows_more : (l : List ℕ) (k n : ℕ) (rest : List ℕ) → rows_of k l ++ (row_of (id_at (k + length l)) n ++ rest) ≡ rows_of k (l ++ n ∷ []) ++ rest
rows_more [] k n rest =
    ap (λ (j : ℕ). row_of (id_at j) n ++ rest) (add-zero k) ∙ ap (λ (row : List ℕ). row ++ rest) (sym (append-nil (row_of (id_at k) n)))
rows_more (m ∷ l) k n rest =
    let next : k + suc (length l) ≡ suc k + length l = omega arith in
    append_assoc (row_of (id_at k) m) (rows_of (suc k) l) _
    ∙ ap (λ (more : List ℕ). row_of (id_at k) m ++ more)
    (ap (λ (j : ℕ). rows_of (suc k) l ++ (row_of (id_at j) n ++ rest)) next ∙ rows_more l (suc k) n rest)
    ∙ sym (append_assoc (row_of (id_at k) m) (rows_of (suc k) (l ++ n ∷ [])) rest)

-- every text has a case
module _ (text : List ℕ) where
  abbrev Known : Type 0
  Known = (answer : Backup) × Answers text answer

  at_end : (numbers rest : List ℕ) → length numbers ≡ count → Good text numbers rest → Known
  at_end numbers [] long g = by (allowed (held numbers)) refl
    where
      by : (b : Bool) → allowed (held numbers) ≡ b → Known
      by true ok = (_, a_table g long ok)
      by false bad = (_, a_pair g long bad)
  at_end numbers (b ∷ rest) long g = (_, more_bytes g long (omega arith))

  walk : (left : ℕ) (numbers rest : List ℕ) → length numbers + left ≡ count → Good text numbers rest → Known
  walk zero numbers rest e g = at_end numbers rest (sym (add-zero (length numbers)) ∙ e) g
  walk (suc left) numbers rest e g =
      let less : length numbers < count = omega arith in
      by (judging (length numbers) rest) ((row_is_judged_exactly (length numbers) rest _ less).0 refl) (walk left)
    where
      here : 0 + length numbers ≡ length numbers
      here = zero-add (length numbers)

      by : (x : Judgement) → Judges (length numbers) rest x
          → ((ns more : List ℕ) → length ns + left ≡ count → Good text ns more → Known) → Known
      by (Ok row) (number {n = n} {rest = more} b f) later =
          later (numbers ++ n ∷ []) more (rw (length-append numbers (n ∷ [])) (omega arith))
          (record {
            in_ranges_lem = ranges_more numbers 0 n g.in_ranges_lem (ap (λ (j : ℕ). in_range j n) here ∙ f);
            text_is = g.text_is ∙ ap (λ (l : List ℕ). header ++ (rows_of 0 numbers ++ l)) b.text_is
                ∙ ap (λ (j : ℕ). header ++ (rows_of 0 numbers ++ (row_of (id_at j) n ++ more))) (sym here) ∙ ap (λ (l : List ℕ). header ++ l) (rows_more numbers 0 n more);
          })
      by (Err refusal) judged later = (_, at_line g (omega arith) judged)

  known : (b : Bool) → same (take (length header) text) header ≡ b → Known
  known true e =
      walk count [] (drop (length header) text) refl
      (record {
        in_ranges_lem = refl;
        text_is = sym (take-append-drop (length header) text) ∙ ap (λ (l : List ℕ). l ++ drop (length header) text) (same_back (take (length header) text) header e);
      })
  known false e = (
    _,
    other_header_lem
        (λ rest is. false≢true (sym e ∙ ap (λ (l : List ℕ). same (take (length header) l) header) is ∙ ap (λ (l : List ℕ). same l header) (take-append_seam header rest) ∙ same_self header)),
  )

pub answered_exactly : AnsweredExactly
answered_exactly text answer = (
  λ e.
      let it = known text (same (take (length header) text) header) refl in
      subst (Answers text) (sym (given text it.0 it.1) ∙ e) it.1,
  given text answer,
)

-- writing
pub text_lines : TextIsLines
text_lines table long = sym (whole_text_lem table.numbers long) ∙ ap (λ (l : List ℕ). header ++ l) (append-nil (rows_of 0 table.numbers))

module _ (table : Table) (room : ℕ) where
  writes : (a b : Bool) → ltb room text_room ≡ a → allowed table ≡ b → Writes table room (writing table room)
  writes true b e f = let h : room < text_room = ltb-true _ _ e in subst (Writes table room) (sym (write_short table room h)) (short h)
  writes false true e f = let h : text_room ≤ room = ltb-false _ _ e in subst (Writes table room) (sym (write_made table room h f)) (its_text h f)
  writes false false e f = let h : text_room ≤ room = ltb-false _ _ e in subst (Writes table room) (sym (write_stray table room h f)) (not_allowed_lem h f)

  written_as_lem : (answer : Given Written) → Writes table room answer → writing table room ≡ answer
  written_as_lem answer (short h) = write_short table room h
  written_as_lem answer (not_allowed_lem h e) = write_stray table room h e
  written_as_lem answer (its_text h e) = write_made table room h e

pub written_exactly : WrittenExactly
written_exactly table room answer =
    (λ e. subst (Writes table room) e (writes table room (ltb room text_room) (allowed table) refl refl), written_as_lem table room answer)
