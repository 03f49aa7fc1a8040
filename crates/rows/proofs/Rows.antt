-- Laws of a row: what is written is read, and what is read is written. Assumes nothing.
use mathlib.Core.Path.{◌≡◌, refl, sym, ap, ap₂, subst, ◌∙◌}
use mathlib.Core.Bool.{Bool, true, false, cond, not, ◌&&◌, and-true, and-false, and_assoc, false≢true}
use Rattle.std.proofs.Common.{Ok, Err, Some, None}
use mathlib.Core.List.{List, [], ◌∷◌, ◌++◌, append_assoc}
use Prim.Native.Nat.{ℕ, suc, ◌+◌, ◌-◌, ◌*◌, ◌/◌, ◌%◌, ◌≤◌, ◌<◌}
use native.Mathlib.Omega.{arith}
use borrow.Author.Tests.{lt-ltb, le-ltb, ltb-true, ltb-false, lt-leb, leb-true, eqb-true, ne_eqb, not-true}
use lib.ListN.{length, get_or, take, drop, length-drop, length-append}
use lib.Seq.{take_all, take-append_seam, split_at, length-take-le}
use lib.Dec.{ltb, leb, eqb}
use Rattle.paper.specs.Numbers as paper
use Rattle.paper.specs.Numbers.{colon, newline}
use Rattle.laws.specs.Lists.{every, before}
use Rattle.laws.proofs.Bools.{and_left, and_right, nor_left, both}
use Rattle.laws.proofs.Lists.{part_to_end, every_at, every_append, before_first}
use Rattle.wire.specs.Digits.{digit, nibble, is_digit}
use Rattle.wire.specs.Frame.{digits_of}
use Rattle.wire.specs.Parsing.{bytes_of}
use Rattle.wire.proofs.Nibbles.{digit_is_digit, digit_stays}
use Rattle.wire.proofs.RoundTrip.{digits_all, bytes_digits, digits_bytes, bytes_small, digit_hex}
use Rattle.lines.specs.Lines.{line_of, text_of}
use Rattle.lines.specs.Laws.{is_digit as isDecimal, IsLine}
use Rattle.lines.specs.Numbers.{decimal}
use Rattle.lines.specs.declared.Line.{Line}
use Rattle.lines.proofs.Digits.{digits_under}
use Rattle.lines.proofs.Theorems.{line_is_text}
use Rattle.rows.specs.Decimals.{is_number}
use Rattle.rows.specs.declared.Row.{Row}
use Rattle.rows.specs.Row.{tab, id_digits, row_of, row_room, line_length, first_line, is_row, id_in, number_in, row_in}
use Rattle.laws.specs.Promise.{Given}
use Rattle.wire.specs.Calls.{unwritten, written_as}
use Rattle.wire.specs.Answers.{Written}
use Rattle.rows.specs.Calls.{writing, parsing}
use Rattle.rows.specs.Laws.{RowIsSpelled, RowIsShort, Begins, Reads, row, none, ReadExactly, Writes, short, its_row, WrittenExactly}
use Rattle.rows.specs.Answers.{Read, row_is}
use Rattle.rows.proofs.Decimal.{number_digits, number_small, decimal_read, read_decimal}

-- writing, by its refusal
module _ (id n room : ℕ) where
  pub write_short : room < row_room → writing id n room ≡ unwritten paper.short_buffer
  unfolding writing
  write_short h = rw (lt-ltb room row_room h)

  pub write_made : row_room ≤ room → writing id n room ≡ written_as (row_of id n)
  unfolding writing
  write_made h = rw (le-ltb room row_room h)

  writes : Writes id n room (writing id n room)
  writes = by (ltb room row_room) refl
    where
      by : (b : Bool) → ltb room row_room ≡ b → Writes id n room (writing id n room)
      by true e = let h : room < row_room = ltb-true room row_room e in subst (Writes id n room) (sym (write_short h)) (short h)
      by false e = let h : row_room ≤ room = ltb-false room row_room e in subst (Writes id n room) (sym (write_made h)) (its_row h)

  written_as_lem : (answer : Given Written) → Writes id n room answer → writing id n room ≡ answer
  written_as_lem answer (short h) = write_short h
  written_as_lem answer (its_row h) = write_made h

pub written_exactly : WrittenExactly
written_exactly id n room answer = (λ e. subst (Writes id n room) e (writes id n room), written_as_lem id n room answer)

-- a line so built, by the parts of the test; one of fewer than six characters has no number
pub short_row : (line : List ℕ) → length line < 6 → is_row line ≡ false
unfolding is_row is_number
short_row line h =
    let none : length (drop 5 line) < 1 = rw (length-drop 5 line) (omega arith) in
    rw (lt-leb 1 (length (drop 5 line)) none, and-false) (and-false (every is_digit (take 4 line)))

-- a longer one, character by character
pub row_parts : (line : List ℕ) → 5 ≤ length line
    → is_row line ≡ (((is_digit (get_or line 0 0) && is_digit (get_or line 1 0)) && (is_digit (get_or line 2 0) && is_digit (get_or line 3 0))) && (eqb (get_or line 4 0) tab && is_number (drop 5 line)))
unfolding is_row
row_parts [] h = absurd (omega arith)
row_parts (a ∷ []) h = absurd (omega arith)
row_parts (a ∷ b ∷ []) h = absurd (omega arith)
row_parts (a ∷ b ∷ c ∷ []) h = absurd (omega arith)
row_parts (a ∷ b ∷ c ∷ d ∷ []) h = absurd (omega arith)
row_parts (a ∷ b ∷ c ∷ d ∷ t ∷ rest) h =
    ap (λ (x : Bool). x && (eqb t tab && is_number rest)) (ap (λ (x : Bool). is_digit a && (is_digit b && (is_digit c && x))) (and-true (is_digit d)) ∙ sym (and_assoc (is_digit a) (is_digit b) (is_digit c && is_digit d)))

pub past_tab : (line : List ℕ) → take (length line - 5) (drop 5 line) ≡ drop 5 line
past_tab line = part_to_end line (length line) 5 refl

module _ (line : List ℕ) (ok : is_row line ≡ true) where
  pub row_long : 6 ≤ length line
  row_long = by (ltb (length line) 6) refl
    where
      by : (b : Bool) → ltb (length line) 6 ≡ b → 6 ≤ length line
      by true f = absurd (false≢true (sym (short_row line (ltb-true _ _ f)) ∙ ok))
      by false f = ltb-false _ _ f

  pub row_digits : every is_digit (take 4 line) ≡ true
  unfolding is_row
  row_digits = and_left (every is_digit (take 4 line)) _ ok

  row_tab : get_or line 4 0 ≡ tab
  unfolding is_row
  row_tab = eqb-true (get_or line 4 0) tab (and_left (eqb (get_or line 4 0) tab) _ (and_right (every is_digit (take 4 line)) _ ok))

  pub row_number : is_number (drop 5 line) ≡ true
  unfolding is_row
  row_number = and_right (eqb (get_or line 4 0) tab) _ (and_right (every is_digit (take 4 line)) _ ok)

-- what is read, by the length of the first line
module _ (text : List ℕ) {len : ℕ} (is : len ≡ line_length text) where
  pub line_inside : len ≡ length (take len text)
  line_inside = let inside : line_length text ≤ length text = (before_first (λ b. eqb b newline) text).inside in sym (length-take-le len text (rw is inside))

  pub not_ended : length text ≤ len → Err paper.bad_line ≡ parsing text
  unfolding parsing
  not_ended e = rw (le-ltb (line_length text) (length text) (omega arith))

  pub no_row : None ≡ cond (is_row (take len text)) (Some (row_in (take len text))) None → Err paper.bad_line ≡ parsing text
  unfolding parsing
  no_row e = by (is_row (first_line text)) (rw is at e)
    where
      by : (b : Bool) → None ≡ cond b (Some (row_in (first_line text))) None
          → Err paper.bad_line ≡ cond (ltb (line_length text) (length text) && b) (row_is (id_in (first_line text)) (number_in (first_line text)) (suc (line_length text))) (Err paper.bad_line)
      by true e = absurd (cc)
      by false e = rw (and-false (ltb (line_length text) (length text)))

  pub line_read : {r : Row} → len < length text → Some r ≡ cond (is_row (take len text)) (Some (row_in (take len text))) None → Ok r ≡ parsing text
  unfolding parsing
  line_read {r} less e =
      let ended : line_length text < length text = rw (sym is) less in
      rw (lt-ltb (line_length text) (length text) ended) (by (is_row (first_line text)) (rw is at e))
    where
      size : length (first_line text) ≡ line_length text
      size = sym (ap (λ (n : ℕ). length (take n text)) is) ∙ sym line_inside ∙ is

      by : (b : Bool) → Some r ≡ cond b (Some (row_in (first_line text))) None
          → Ok r ≡ cond b (row_is (id_in (first_line text)) (number_in (first_line text)) (suc (line_length text))) (Err paper.bad_line)
      by true e = let same : r ≡ row_in (first_line text) = cc in ap Ok same ∙ ap (λ (n : ℕ). row_is (id_in (first_line text)) (number_in (first_line text)) (suc n)) size
      by false e = absurd (cc)

-- the row of an id and a number without its newline
abbrev front : ℕ → ℕ → List ℕ
front id n = id_digits id ++ tab ∷ decimal n

row_front : (id n : ℕ) (rest : List ℕ) → row_of id n ++ rest ≡ front id n ++ newline ∷ rest
unfolding row_of
row_front id n rest = append_assoc (front id n) (newline ∷ []) rest

pub length_row : (id n : ℕ) → length (row_of id n) ≡ suc (length (front id n))
unfolding row_of
length_row id n = length-append (front id n) (newline ∷ []) ∙ omega arith

pub row_spelled : RowIsSpelled
unfolding row_of
row_spelled id n h =
    let high : id / 256 < 256 = omega arith in
    let low : id % 256 < 256 = omega arith in
    rw (digit_hex (id / 256 / 16) (omega arith), digit_hex (id / 256 % 16) (omega arith), digit_hex (id % 256 / 16) (omega arith), digit_hex (id % 256 % 16) (omega arith))

pub row_short : RowIsShort
row_short id n h = let few : length (decimal n) ≤ 5 = digits_under 19 n 4 h in rw (length_row id n) (omega arith)

-- and it fits a line
module _ (id n : ℕ) (h : n < 65536) (l : Line) (e : l ≡ line_of (row_of id n)) where
  is_line : IsLine (row_of id n) l
  is_line = subst (IsLine (row_of id n)) (sym e) (line_is_text (row_of id n))

  whole : take 160 (row_of id n) ≡ row_of id n
  whole = take_all 160 (row_of id n) (omega (arith, row_short id n (omega arith)))

  pub line_text : text_of l ≡ row_of id n
  line_text = is_line.text_is ∙ whole

-- four digits and their id are each other's
id_bytes : (id : ℕ) → id < 65536 → every (λ b. ltb b 256) (id / 256 ∷ id % 256 ∷ []) ≡ true
id_bytes id h = both _ _ (lt-ltb (id / 256) 256 (omega arith)) (both _ _ (lt-ltb (id % 256) 256 (omega arith)) refl)

id_read : (id n : ℕ) → id < 65536 → id_in (front id n) ≡ id
id_read id n h =
    ap (λ (l : List ℕ). get_or l 0 0 * 256 + get_or l 1 0) (bytes_digits (id / 256 ∷ id % 256 ∷ []) (id_bytes id h)) ∙ omega arith

bytes_id : (high low : ℕ) → low < 256 → id_digits (high * 256 + low) ≡ digits_of (high ∷ low ∷ [])
bytes_id high low h =
    let front_is : (high * 256 + low) / 256 ≡ high = omega arith in
    let last_is : (high * 256 + low) % 256 ≡ low = omega arith in
    ap₂ (λ (x y : ℕ). digits_of (x ∷ y ∷ [])) front_is last_is

built : (line : List ℕ) → is_row line ≡ true → (line ≡ front (id_in line) (number_in line)) × (id_in line < 65536)
built line ok = by line ok (row_long line ok) (row_digits line ok) (row_tab line ok) (read_decimal (drop 5 line) (row_number line ok))
  where
    by : (line : List ℕ) → is_row line ≡ true → 6 ≤ length line → every is_digit (take 4 line) ≡ true → get_or line 4 0 ≡ tab
        → decimal (number_in line) ≡ drop 5 line → (line ≡ front (id_in line) (number_in line)) × (id_in line < 65536)
    by [] ok h e f g = absurd (omega arith)
    by (a ∷ []) ok h e f g = absurd (omega arith)
    by (a ∷ b ∷ []) ok h e f g = absurd (omega arith)
    by (a ∷ b ∷ c ∷ []) ok h e f g = absurd (omega arith)
    by (a ∷ b ∷ c ∷ d ∷ []) ok h e f g = absurd (omega arith)
    by (a ∷ b ∷ c ∷ d ∷ t ∷ rest) ok h e f g =
        let bytes : every (λ x. ltb x 256) (bytes_of (a ∷ b ∷ c ∷ d ∷ [])) ≡ true = bytes_small (a ∷ b ∷ c ∷ d ∷ []) e in
        let high : nibble a * 16 + nibble b < 256 = ltb-true _ 256 (every_at (λ x. ltb x 256) (bytes_of (a ∷ b ∷ c ∷ d ∷ [])) bytes 0 (omega arith)) in
        let low : nibble c * 16 + nibble d < 256 = ltb-true _ 256 (every_at (λ x. ltb x 256) (bytes_of (a ∷ b ∷ c ∷ d ∷ [])) bytes 1 (omega arith)) in
        let id : id_digits (id_in (a ∷ b ∷ c ∷ d ∷ t ∷ rest)) ≡ a ∷ b ∷ c ∷ d ∷ [] = bytes_id (nibble a * 16 + nibble b) (nibble c * 16 + nibble d) low ∙ digits_bytes (a ∷ b ∷ c ∷ d ∷ []) e refl in
        (ap₂ (λ (x : ℕ) (xs : List ℕ). a ∷ b ∷ c ∷ d ∷ x ∷ xs) f (sym g) ∙ ap (λ (l : List ℕ). l ++ tab ∷ decimal (number_in (a ∷ b ∷ c ∷ d ∷ t ∷ rest))) (sym id), omega arith)

-- A row has no newline before its own.
abbrev in_line : ℕ → Bool
in_line b = not (eqb b newline)

before_past : (xs ys : List ℕ) → every in_line xs ≡ true → before (λ b. eqb b newline) (xs ++ newline ∷ ys) ≡ length xs
before_past [] ys e = refl
before_past (x ∷ xs) ys e =
    rw (not-true (eqb x newline) (and_left (in_line x) (every in_line xs) e)) (ap suc (before_past xs ys (and_right (in_line x) _ e)))

digit_in : (n : ℕ) → n < 16 → in_line (digit n) ≡ true
digit_in n less = rw (nor_left (eqb (digit n) newline) (eqb (digit n) colon) (not-true _ (digit_stays n less)))

decimals_in : (l : List ℕ) → every isDecimal l ≡ true → every in_line l ≡ true
decimals_in [] e = refl
decimals_in (c ∷ cs) e =
    let here : isDecimal c ≡ true = and_left (isDecimal c) (every isDecimal cs) e in
    let low : 48 ≤ c = leb-true 48 c (and_left (leb 48 c) _ here) in
    let apart : eqb c newline ≡ false = ne_eqb c 10 (λ is. let z : c ≡ 10 = is in absurd (omega arith)) in
    both _ _ (ap not apart) (decimals_in cs (and_right (isDecimal c) _ e))

-- a row that is written is read
module _ (id n : ℕ) (rest : List ℕ) (holds : id < 65536) (small : n < 100000) where
  proper : is_number (decimal n) ≡ true
  proper = (decimal_read n small).0

  front_in : every in_line (front id n) ≡ true
  front_in =
      every_append in_line (id_digits id) (tab ∷ decimal n)
      ∙ both _ _ (digits_all in_line digit_in (id / 256 ∷ id % 256 ∷ []) (id_bytes id holds)) (decimals_in (decimal n) (number_digits (decimal n) proper))

  front_row : is_row (front id n) ≡ true
  unfolding is_row
  front_row = both _ _ (digits_all is_digit digit_is_digit (id / 256 ∷ id % 256 ∷ []) (id_bytes id holds)) proper

  long : line_length (front id n ++ newline ∷ rest) ≡ length (front id n)
  long = before_past (front id n) rest front_in

  ended : ltb (length (front id n)) (length (front id n ++ newline ∷ rest)) ≡ true
  ended = lt-ltb (length (front id n)) _ (rw (length-append (front id n) (newline ∷ rest)) (omega arith))

  pub row_read : parsing (row_of id n ++ rest) ≡ row_is id n (length (row_of id n))
  unfolding parsing
  row_read = rw (row_front id n rest, long, ended, take-append_seam (front id n) (newline ∷ rest), front_row, length_row id n)
      (ap₂ (λ (i m : ℕ). row_is i m (suc (length (front id n)))) (id_read id n holds) (decimal_read n small).1)

-- and what is read is written
module _ (text : List ℕ) where
  abbrev line : List ℕ
  line = first_line text

  reads_row : ltb (line_length text) (length text) ≡ true → is_row line ≡ true → Reads text (row_is (id_in line) (number_in line) (suc (line_length text)))
  reads_row e ok =
      let less : line_length text < length text = ltb-true _ _ e in
      let is : line ≡ front (id_in line) (number_in line) = (built line ok).0 in
      let stop : get_or text (line_length text) 0 ≡ newline = eqb-true _ newline ((before_first (λ b. eqb b newline) text).some less) in
      let begins : Begins text (id_in line) (number_in line) (drop (suc (line_length text)) text) =
      record {
        id_holds = (built line ok).1;
        number_holds = number_small (drop 5 line) (row_number line ok);
        text_is =
            split_at text (line_length text) 0 less
            ∙ ap₂ (λ (xs : List ℕ) (y : ℕ). xs ++ y ∷ drop (suc (line_length text)) text) is stop
            ∙ sym (row_front (id_in line) (number_in line) (drop (suc (line_length text)) text));
      } in
      let size : length (row_of (id_in line) (number_in line)) ≡ suc (line_length text) =
      length_row (id_in line) (number_in line) ∙ ap (λ (l : List ℕ). suc (length l)) (sym is) ∙ ap suc (length-take-le (line_length text) text (omega arith)) in
      subst (λ (m : ℕ). Reads text (row_is (id_in line) (number_in line) m)) size (row begins)

  pub begun : {id n : ℕ} {rest : List ℕ} → Begins text id n rest → parsing text ≡ row_is id n (length (row_of id n))
  begun {id} {n} {rest} b = ap parsing b.text_is ∙ row_read id n rest b.id_holds b.number_holds

  reads_none : parsing text ≡ Err paper.bad_line → Reads text (Err paper.bad_line)
  reads_none e = none (λ id n rest b. let f : parsing text ≡ row_is id n (length (row_of id n)) = begun b in cc)

  pub reads : Reads text (parsing text)
  unfolding parsing
  reads = by (ltb (line_length text) (length text)) (is_row line) refl refl
    where
      by : (a b : Bool) → ltb (line_length text) (length text) ≡ a → is_row line ≡ b
          → Reads text (cond (a && b) (row_is (id_in line) (number_in line) (suc (line_length text))) (Err paper.bad_line))
      by true true e f = reads_row e f
      by true false e f = reads_none (rw (e, f))
      by false b e f = reads_none (rw e)

pub read_exactly : ReadExactly
read_exactly text answer = (λ e. subst (Reads text) e (reads text), back answer)
  where
    back : (x : Read) → Reads text x → parsing text ≡ x
    back (Ok r) (row b) = begun text b
    back (Err r) (none f) = other (parsing text) refl (reads text)
      where
        other : (y : Read) → parsing text ≡ y → Reads text y → parsing text ≡ Err paper.bad_line
        other (Ok r) e (row b) = absurd (f _ _ _ b)
        other (Err r) e (none g) = e
