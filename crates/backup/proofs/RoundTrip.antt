-- The writer and the reader of a text undo each other. Assumes nothing.
use mathlib.Core.Path.{◌≡◌, refl, sym, ap, ap₂, ◌∙◌}
use mathlib.Core.Bool.{Bool, true, false, cond, ◌&&◌}
use mathlib.Core.List.{List, [], ◌∷◌, ◌++◌, append-nil, append_assoc}
use Prim.Native.Nat.{ℕ, zero, suc, ◌+◌, ◌*◌, ◌≤◌, ◌<◌}
use native.Mathlib.Nat.{add-zero}
use native.Mathlib.Omega.{arith}
use borrow.Author.Tests.{eqb-true, ltb-true, ne_eqb}
use lib.ListN.{length, take, drop, length-append, length-set, take-append-drop}
use lib.Seq.{take-append_seam, drop-append_seam, take_all, take-suc, take-suc-set, get_or-set_same, get_or-set_other}
use lib.Dec.{ltb, eqb}
use Rattle.paper.specs.Numbers as paper
use Rattle.laws.specs.Lists.{every, same}
use Rattle.laws.proofs.Bools.{and_left, and_right, both}
use Rattle.laws.proofs.Lists.{same_back, same_self}
use Rattle.settings.specs.Columns.{count, id_at}
use Rattle.settings.specs.Rules.{in_range}
use Rattle.settings.proofs.Theorems.{rows_hold}
use Rattle.tables.specs.Rules.{allowed, number_at, changed, factory}
use Rattle.tables.specs.declared.Table.{Table}
use Rattle.tables.proofs.Tables.{range_at}
use Rattle.rows.specs.Row.{row_of, row_room}
use Rattle.rows.specs.Calls.{judging}
use Rattle.rows.specs.Laws.{number}
use Rattle.rows.specs.Answers.{Judgement, number_is}
use Rattle.std.proofs.Common.{Ok, Err}
use Rattle.rows.proofs.Ranges.{range_wide}
use Rattle.rows.proofs.Judging.{numbered}
use Rattle.rows.proofs.Theorems.{row_is_judged_exactly, row_is_short}
use Rattle.backup.specs.Text.{lines_for, text_for, Says, good, refused, end_says, following, lines_say, says_for, places_from, places, header, text_of}
use Rattle.wire.specs.Calls.{written_as}
use Rattle.backup.specs.Calls.{read_as}
use Rattle.backup.specs.Laws.{are_places, filled, IsText, ReadExactly, RefusedInOrder, WrittenIsRead, ReadIsWritten, TextIsShort}
use Rattle.backup.specs.declared.Backup.{Backup}
use Rattle.backup.proofs.Places.{places_long, are_places_lem, header_long}
use Rattle.backup.proofs.Calls.{says_other, says_rest, read_says, write_made}
use Rattle.backup.proofs.Listing.{lines_none, lines_more}
use Rattle.backup.proofs.Lining.{lines_end, lines_next}

-- places that ascend, by their first
module _ (k : ℕ) (ks : List ℕ) (ok : are_places (k ∷ ks) ≡ true) where
  first_below : k < count
  first_below = ltb-true k count (and_left (ltb k count) _ (and_left (ltb k count && every (ltb k) ks) (are_places ks) ok))

  first_least : every (ltb k) ks ≡ true
  first_least = and_right (ltb k count) _ (and_left (ltb k count && every (ltb k) ks) (are_places ks) ok)

  later_places : are_places ks ≡ true
  later_places = and_right (ltb k count && every (ltb k) ks) _ ok

-- a number is kept below the places that are filled
filled_keeps : (ks : List ℕ) (s t : Table) (j : ℕ) → every (ltb j) ks ≡ true → number_at (filled ks s t) j ≡ number_at s j
unfolding filled
filled_keeps [] s t j e = refl
filled_keeps (k ∷ ks) s t j e =
    let less : j < k = ltb-true j k (and_left (ltb j k) _ e) in
    filled_keeps ks (changed s k (number_at t k)) t j (and_right (ltb j k) _ e)
    ∙ get_or-set_other s.numbers k j (number_at t k) 0 (λ is. let z : j ≡ k = is in omega arith)

filled_long : (ks : List ℕ) (s t : Table) → length (filled ks s t).numbers ≡ length s.numbers
unfolding filled
filled_long [] s t = refl
filled_long (k ∷ ks) s t = filled_long ks (changed s k (number_at t k)) t ∙ length-set s.numbers k (number_at t k)

-- lines of numbers in their own ranges are read, and what follows them is read after them
lines_read : (t : Table) (ks more : List ℕ) (line : ℕ) (s : Table) (rest : List ℕ) → are_places ks ≡ true → every (λ k. in_range k (number_at t k)) ks ≡ true
    → lines_say (ks ++ more) line s (lines_for ks t ++ rest) ≡ lines_say more (line + length ks) (filled ks s t) rest
unfolding filled
lines_read t [] more line s rest are fits = ap₂ (λ (l : List ℕ) (n : ℕ). lines_say more n s (l ++ rest)) (lines_none t) (sym (add-zero line))
lines_read t (k ∷ ks) more line s rest are fits =
    let row : List ℕ = row_of (id_at k) (number_at t k) in
    let later : List ℕ = lines_for ks t ++ rest in
    let below : k < count = first_below k ks are in
    let here : in_range k (number_at t k) ≡ true = and_left (in_range k (number_at t k)) _ fits in
    let most : number_at t k ≤ 65535 = range_wide k (number_at t k) below here in
    let judged : judging k (row ++ later) ≡ number_is (number_at t k) (length row) =
    (row_is_judged_exactly k (row ++ later) _ below).1 (number (record { id_holds = (rows_hold k below).id_holds; number_holds = omega arith; text_is = refl }) here) in
    let next : suc line + length ks ≡ line + suc (length ks) = omega arith in
    ap (lines_say (k ∷ (ks ++ more)) line s) (ap (λ (l : List ℕ). l ++ rest) (lines_more k ks t) ∙ append_assoc row (lines_for ks t) rest)
    ∙ lines_next k (ks ++ more) line s (row ++ later) _ judged
    ∙ ap (lines_say (ks ++ more) (suc line) (changed s k (number_at t k))) (drop-append_seam row later)
    ∙ lines_read t ks more (suc line) (changed s k (number_at t k)) rest (later_places k ks are) (and_right (in_range k (number_at t k)) _ fits)
    ∙ ap (λ (n : ℕ). lines_say more n (filled ks (changed s k (number_at t k)) t) rest) next

module _ (header ks : List ℕ) (t : Table) (are : are_places ks ≡ true) (fits : every (λ k. in_range k (number_at t k)) ks ≡ true) where
  text_read : (more rest : List ℕ) → says_for header (ks ++ more) (text_for header ks t ++ rest) ≡ lines_say more (2 + length ks) (filled ks factory t) rest
  unfolding text_for
  text_read more rest =
      ap (says_for header (ks ++ more)) (append_assoc header (lines_for ks t) rest)
      ∙ says_rest header (ks ++ more) (header ++ (lines_for ks t ++ rest)) (ap (λ (l : List ℕ). same l header) (take-append_seam header (lines_for ks t ++ rest)) ∙ same_self header)
      ∙ ap (lines_say (ks ++ more) 2 factory) (drop-append_seam header (lines_for ks t ++ rest)) ∙ lines_read t ks more 2 factory rest are fits

  text_end : (rest : List ℕ) → says_for header ks (text_for header ks t ++ rest) ≡ end_says (filled ks factory t) (length rest)
  text_end rest =
      ap (λ (l : List ℕ). says_for header l (text_for header ks t ++ rest)) (sym (append-nil ks)) ∙ text_read [] rest ∙ lines_end (2 + length ks) (filled ks factory t) rest

  text_done : says_for header ks (text_for header ks t) ≡ end_says (filled ks factory t) 0
  text_done = ap (says_for header ks) (sym (append-nil (text_for header ks t))) ∙ text_end []

-- what is written is read
module _ (t : Table) (ok : allowed t ≡ true) where
  in_ranges_lem : (ks : List ℕ) → are_places ks ≡ true → every (λ k. in_range k (number_at t k)) ks ≡ true
  in_ranges_lem [] are = refl
  in_ranges_lem (k ∷ ks) are = both _ _ (range_at t ok k (first_below k ks are)) (in_ranges_lem ks (later_places k ks are))

  text_good : (header ks : List ℕ) → are_places ks ≡ true → filled ks factory t ≡ t → says_for header ks (text_for header ks t) ≡ good t
  unfolding end_says
  text_good header ks are e = text_done header ks t are (in_ranges_lem ks are) ∙ ap (λ (u : Table). end_says u 0) e ∙ rw ok

  lines_short : (ks : List ℕ) → are_places ks ≡ true → length (lines_for ks t) ≤ row_room * length ks
  lines_short [] are = rw (lines_none t) (omega arith)
  lines_short (k ∷ ks) are =
      let below : k < count = first_below k ks are in
      let most : number_at t k ≤ 65535 = range_wide k (number_at t k) below (range_at t ok k below) in
      let here : length (row_of (id_at k) (number_at t k)) ≤ row_room = row_is_short (id_at k) (number_at t k) (omega arith) in
      let later : length (lines_for ks t) ≤ row_room * length ks = lines_short ks (later_places k ks are) in
      rw (lines_more k ks t, length-append (row_of (id_at k) (number_at t k)) (lines_for ks t)) (omega arith)

-- what is read is written
record Built (ks : List ℕ) (s t : Table) (text : List ℕ) : Type 0 where
  is_allowed : allowed t ≡ true
  is_filled : filled ks s t ≡ t
  is_lines : text ≡ lines_for ks t

no_bytes : (text : List ℕ) → length text ≡ 0 → text ≡ []
no_bytes [] e = refl
no_bytes (b ∷ bs) e = absurd (omega arith)

end_built : (s t : Table) (text : List ℕ) → end_says s (length text) ≡ good t → Built [] s t text
unfolding end_says filled
end_built s t text = by (eqb (length text) 0) (allowed s) refl refl
  where
    by : (a b : Bool) → eqb (length text) 0 ≡ a → allowed s ≡ b → cond a (cond b (good s) (refused paper.pair_disagrees 0)) (refused paper.more_bytes 0) ≡ good t → Built [] s t text
    by false b p q e = cc
    by true false p q e = cc
    by true true p q e =
        let is : s ≡ t = cc in
        record {
          is_allowed = ap allowed (sym is) ∙ q;
          is_filled = is;
          is_lines = no_bytes text (eqb-true (length text) 0 p) ∙ sym (lines_none t);
        }

-- one line more
module _ (k : ℕ) (ks : List ℕ) (are : are_places (k ∷ ks) ≡ true) (s t : Table) (long : length s.numbers ≡ count) (text : List ℕ) where
  line_built : (n len : ℕ) → judging k text ≡ number_is n len → Built ks (changed s k n) t (drop len text) → Built (k ∷ ks) s t text
  unfolding filled
  line_built n len e b =
      let below : k < length s.numbers = rw long (first_below k ks are) in
      let here : number_at t k ≡ n =
      ap (λ (u : Table). number_at u k) (sym b.is_filled) ∙ filled_keeps ks (changed s k n) t k (first_least k ks are) ∙ get_or-set_same s.numbers k n 0 below in
      record {
        is_allowed = b.is_allowed;
        is_filled = ap (λ (m : ℕ). filled ks (changed s k m) t) here ∙ b.is_filled;
        is_lines =
            (numbered k text n len (first_below k ks are) e).0.text_is
            ∙ ap₂ (λ (m : ℕ) (l : List ℕ). row_of (id_at k) m ++ l) (sym here) b.is_lines ∙ sym (lines_more k ks t);
      }

  next_built : (line : ℕ) → ((n len : ℕ) → lines_say ks (suc line) (changed s k n) (drop len text) ≡ good t → Built ks (changed s k n) t (drop len text))
      → (x : Judgement) → judging k text ≡ x → following (λ n len. lines_say ks (suc line) (changed s k n) (drop len text)) line x ≡ good t → Built (k ∷ ks) s t text
  next_built line later (Ok row) e f = line_built row.number row.len e (later row.number row.len f)
  next_built line later (Err refusal) e f = cc

lines_built : (ks : List ℕ) (line : ℕ) (s t : Table) (text : List ℕ) → are_places ks ≡ true → length s.numbers ≡ count → lines_say ks line s text ≡ good t → Built ks s t text
lines_built [] line s t text are long e = end_built s t text (sym (lines_end line s text) ∙ e)
lines_built (k ∷ ks) line s t text are long e =
    next_built k ks are s t long text line
    (λ n len. lines_built ks (suc line) (changed s k n) t (drop len text) (later_places k ks are) (length-set s.numbers k n ∙ long))
    (judging k text) refl (sym (lines_next k ks line s text (judging k text) refl) ∙ e)

text_built : (header ks : List ℕ) (t : Table) (text : List ℕ) → are_places ks ≡ true → says_for header ks text ≡ good t → IsText header ks t text
unfolding text_for
text_built header ks t text are = by (same (take (length header) text) header) refl
  where
    by : (b : Bool) → same (take (length header) text) header ≡ b → says_for header ks text ≡ good t → IsText header ks t text
    by false p e = let f : says_for header ks text ≡ refused paper.other_header 1 = says_other header ks text p in cc
    by true p e =
        let b : Built ks factory t (drop (length header) text) = lines_built ks 2 factory t (drop (length header) text) are refl (sym (says_rest header ks text p) ∙ e) in
        record {
          is_allowed = b.is_allowed;
          is_filled = b.is_filled;
          is_text = sym (take-append-drop (length header) text) ∙ ap₂ (λ (xs ys : List ℕ). xs ++ ys) (same_back (take (length header) text) header p) b.is_lines;
        }

pub read_exactly : ReadExactly
read_exactly header ks t text are =
    (text_built header ks t text are, λ b. ap (says_for header ks) b.is_text ∙ text_good t b.is_allowed header ks are b.is_filled)

pub refused_order : RefusedInOrder
unfolding end_says
refused_order header ks t rest are fits =
    record {
      at_header = λ places text differs. by places text differs (same (take (length header) text) header) refl;
      at_line = λ k more number e. text_read header ks t are fits (k ∷ more) rest ∙ lines_next k more (2 + length ks) (filled ks factory t) rest _ e;
      at_end = λ some. text_end header ks t are fits rest ∙ rw (ne_eqb (length rest) 0 (λ e. let z : length rest ≡ 0 = e in absurd (omega arith)));
      at_pair = λ e. text_done header ks t are fits ∙ rw e;
    }
  where
    by : (places text : List ℕ) → ((more : List ℕ) → text ≡ header ++ more → ⊥) → (b : Bool) → same (take (length header) text) header ≡ b
        → says_for header places text ≡ refused paper.other_header 1
    by places text differs false p = says_other header places text p
    by places text differs true p =
        absurd
        (differs (drop (length header) text)
        (sym (take-append-drop (length header) text) ∙ ap (λ (l : List ℕ). l ++ drop (length header) text) (same_back (take (length header) text) header p)))

-- All settings: a whole table is filled by its own numbers.
from_filled : (left k : ℕ) (s t : Table) → length s.numbers ≡ length t.numbers → k + left ≡ length t.numbers → take k s.numbers ≡ take k t.numbers
    → filled (places_from left k) s t ≡ t
unfolding filled places_from
from_filled zero k s t long sum e =
    ap (λ (l : List ℕ). record { numbers = l })
    (sym (take_all k s.numbers (omega (arith, long))) ∙ e ∙ take_all k t.numbers (omega arith))
from_filled (suc left) k s t long sum e =
    let less : k < length t.numbers = omega arith in
    let here : k < length s.numbers = omega (arith, long) in
    from_filled left (suc k) (changed s k (number_at t k)) t (length-set s.numbers k (number_at t k) ∙ long) (omega arith)
    (take-suc-set s.numbers k (number_at t k) here ∙ ap (λ (l : List ℕ). l ++ number_at t k ∷ []) e ∙ sym (take-suc t.numbers k 0 less))

pub all_filled : (t : Table) → length t.numbers ≡ count → filled places factory t ≡ t
unfolding places
all_filled t long = from_filled count 0 factory t (sym long) (omega (arith, long)) refl

pub text_is : (t : Table) → text_for header places t ≡ text_of t
unfolding text_of
text_is t = refl

pub written_read : WrittenIsRead
written_read t long ok =
    read_says (text_of t)
    ∙ ap read_as (ap (says_for header places) (sym (text_is t)) ∙ text_good t ok header places are_places_lem (all_filled t long))

good_back : (x : Says) (t : Table) → read_as x ≡ read_as (good t) → x ≡ good t
good_back (Ok u) t e = ap good (ap (λ (b : Backup). b.table) e)
good_back (Err why) t e = let v : Err why ≡ Ok tt = ap (λ (b : Backup). b.verdict) e in cc

pub read_written : ReadIsWritten
read_written text t e =
    let is : IsText header places t text = text_built header places t text are_places_lem (good_back (says_for header places text) t (sym (read_says text) ∙ e)) in
    record {
      is_allowed = is.is_allowed;
      is_whole = ap (λ (u : Table). length u.numbers) (sym is.is_filled) ∙ filled_long places factory t;
      is_written = λ room h. write_made t room h is.is_allowed ∙ ap written_as (sym (text_is t) ∙ sym is.is_text);
    }

pub text_fits : TextIsShort
unfolding text_of text_for
text_fits t ok =
    let lines : length (lines_for places t) ≤ row_room * length places = lines_short t ok places are_places_lem in
    rw (length-append header (lines_for places t)) (omega (arith, header_long, places_long))
