-- Laws of a line: what is put after it, cut or not. Assumes nothing.
use mathlib.Core.Path.{◌≡◌, refl, sym, ap, ap₂, ◌∙◌}
use mathlib.Core.List.{List, [], ◌∷◌, ◌++◌, append_assoc}
use Prim.Native.Nat.{ℕ, zero, suc, ◌≤◌}
use Prim.Native.String.{String}
use native.Mathlib.Omega.{arith}
use lib.ListN.{length, get_or, take, drop, length-take}
use lib.Seq.{take-take}
use Rattle.spans.specs.Few.{few}
use Rattle.spans.specs.declared.Few.{Few}
use Rattle.spans.proofs.Fews.{those_back, few_more, few_room, few_zeros}
use Rattle.lines.specs.Lines.{most, chars, line_of, text_of, adding, Says}
use Rattle.lines.specs.Laws.{LineIsText}
use Rattle.lines.specs.declared.Line.{Line}

-- the text of a line is its first 160 characters
pub text_back : (text : List ℕ) → text_of (line_of text) ≡ take most text
unfolding line_of
text_back text = those_back most (take most text)

pub adding_line : (text more : List ℕ) → adding (line_of text) more ≡ line_of (text ++ more)
unfolding adding line_of
adding_line text more = ap (λ (f : Few most). record { text = f }) (few_more most text more)

-- one text after another
pub further : (l : Line) {m n : Line} (a b : List ℕ) → m ≡ adding l a → n ≡ adding m b → n ≡ adding l (a ++ b)
unfolding adding
further l {m} {n} a b e f =
    f ∙ ap (λ (k : Line). adding k b) e ∙ adding_line (text_of l ++ a) b ∙ ap line_of (append_assoc (text_of l) a b)

-- from an empty line on
pub from_start : {l m : Line} (a : List ℕ) → l ≡ line_of [] → m ≡ adding l a → m ≡ line_of a
from_start a e f = f ∙ ap (λ (k : Line). adding k a) e ∙ adding_line [] a

-- Words that a line has are words of its text, also where that is cut.

in_front : (k : ℕ) (t w : List ℕ) → take (length w) (take k t) ≡ w → take (length w) t ≡ w
in_front k t [] e = refl
in_front zero t (c ∷ w) e = let z : ◌≡◌ {A = ℕ} 0 (suc (length w)) = ap (λ (l : List ℕ). length l) e in absurd (omega arith)
in_front (suc k) [] (c ∷ w) e = e
in_front (suc k) (y ∷ t) (c ∷ w) e =
    ap₂ (λ (d : ℕ) (l : List ℕ). d ∷ l) (ap (λ (l : List ℕ). get_or l 0 0) e) (in_front k t w (ap (λ (l : List ℕ). drop 1 l) e))

after_front : (k : ℕ) (b t w : List ℕ) → take (length w) (drop (length b) (take k (b ++ t))) ≡ w → take (length w) t ≡ w
after_front k [] t w e = in_front k t w e
after_front zero (x ∷ b) t [] e = refl
after_front zero (x ∷ b) t (c ∷ w) e = let z : ◌≡◌ {A = ℕ} 0 (suc (length w)) = ap (λ (l : List ℕ). length l) e in absurd (omega arith)
after_front (suc k) (x ∷ b) t w e = after_front k b t w e

pub says_text : (b t : List ℕ) (words : String) → Says (line_of (b ++ t)) (length b) words → take (length (chars words)) t ≡ chars words
says_text b t words e =
    after_front most b t (chars words) (ap (λ (l : List ℕ). take (length (chars words)) (drop (length b) l)) (sym (text_back (b ++ t))) ∙ e)

-- and the first words of a text are those of its line
pub text_says_lem : (t : List ℕ) (words : String) → length (chars words) ≤ most → take (length (chars words)) t ≡ chars words → Says (line_of t) 0 words
text_says_lem t words few e =
    ap (λ (l : List ℕ). take (length (chars words)) l) (text_back t) ∙ take-take (length (chars words)) most t few ∙ e

-- the line of a text by its parts
pub line_text : LineIsText
unfolding line_of few
line_text text =
    record {
      text_is = text_back text;
      len_is = refl;
      room_is = few_room most (take most text) (rw length-take (omega arith));
      zeros_are = few_zeros most (take most text);
    }
