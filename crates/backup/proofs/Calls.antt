-- The calls, by their refusals. Assumes nothing.
use mathlib.Core.Path.{◌≡◌, refl, sym, ap, ◌∙◌}
use mathlib.Core.Bool.{Bool, true, false, ◌&&◌}
use mathlib.Core.List.{List, [], ◌∷◌}
use Prim.Native.Nat.{ℕ, ◌≤◌, ◌<◌}
use borrow.Author.Tests.{lt-ltb, le-ltb}
use lib.Dec.{eqb}
use lib.Pointwise.{pointwise}
use Rattle.backup.specs.declared.TheConstants.{HEADER}
use Rattle.lines.specs.Numbers.{decimal_from}
use lib.ListN.{length, take, drop}
use Rattle.paper.specs.Numbers as paper
use Rattle.paper.specs.Numbers.{text_room}
use Rattle.laws.specs.Lists.{same}
use Rattle.tables.specs.Rules.{allowed, factory}
use Rattle.tables.specs.declared.Table.{Table}
use Rattle.backup.specs.Text.{header, places, text_of, refused, lines_say, says_for, text_says}
use Rattle.backup.proofs.Places.{header_long}
use Rattle.wire.specs.Calls.{unwritten, written_as}
use Rattle.backup.specs.Calls.{writing, read_as, parsing}

-- the first line as it is in the source, and compared byte by byte
abbrev pub first : List ℕ
first = HEADER.now

pub first_is : first ≡ header
unfolding header decimal_from
first_is = refl

compared : (xs ys : List ℕ) → pointwise eqb xs ys ≡ same xs ys
compared [] [] = refl
compared [] (y ∷ ys) = refl
compared (x ∷ xs) [] = refl
compared (x ∷ xs) (y ∷ ys) = ap (λ (b : Bool). eqb x y && b) (compared xs ys)

first_compared : (text : List ℕ) → pointwise eqb (take 12 text) first ≡ same (take (length header) text) header
first_compared text = compared (take 12 text) first ∙ ap (λ (l : List ℕ). same (take (length l) text) l) first_is

-- reading, by the first line
module _ (header places text : List ℕ) where
  pub says_other : same (take (length header) text) header ≡ false → says_for header places text ≡ refused paper.other_header 1
  unfolding says_for
  says_other e = rw e

  pub says_rest : same (take (length header) text) header ≡ true → says_for header places text ≡ lines_say places 2 factory (drop (length header) text)
  unfolding says_for
  says_rest e = rw e

pub read_says : (text : List ℕ) → parsing text ≡ read_as (says_for header places text)
unfolding parsing text_says
read_says text = refl

pub first_other : (text : List ℕ) → pointwise eqb (take 12 text) first ≡ false → refused paper.other_header 1 ≡ text_says text
unfolding text_says
first_other text e = sym (says_other header places text (sym (first_compared text) ∙ e))

pub first_same : (text : List ℕ) → pointwise eqb (take 12 text) first ≡ true → lines_say places 2 factory (drop 12 text) ≡ text_says text
unfolding text_says
first_same text e = ap (λ (n : ℕ). lines_say places 2 factory (drop n text)) (sym header_long) ∙ sym (says_rest header places text (sym (first_compared text) ∙ e))

-- writing
module _ (table : Table) (room : ℕ) where
  pub write_short : room < text_room → writing table room ≡ unwritten paper.short_buffer
  unfolding writing
  write_short h = rw (lt-ltb room text_room h)

  pub write_stray : text_room ≤ room → allowed table ≡ false → writing table room ≡ unwritten paper.not_allowed
  unfolding writing
  write_stray h e = rw (le-ltb room text_room h, e)

  pub write_made : text_room ≤ room → allowed table ≡ true → writing table room ≡ written_as (text_of table)
  unfolding writing
  write_made h e = rw (le-ltb room text_room h, e)
