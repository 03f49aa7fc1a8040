-- A text beside the words that it is printed as: the worked lines of the crate above are a list of these. Assumes nothing.
use Rattle.std.specs.Prelude.{ℕ, Bool, true, ◌&&◌, List, [], ◌∷◌, ◌++◌}
use Prim.Native.String.{String}
use Rattle.laws.specs.Lists.{same}
use Rattle.lines.specs.Lines.{chars}
use Rattle.lines.specs.Numbers.{decimal}

pub record Sample : Type 0 where
  pub text : List ℕ
  pub words : List ℕ

abbrev pub sample : List ℕ → String → Sample
sample text words = record { text = text; words = chars words }

-- words around a number
abbrev pub sample_of : List ℕ → String → ℕ → String → Sample
sample_of text before n after = record { text = text; words = chars before ++ decimal n ++ chars after }

abbrev pub all_read : List Sample → Bool
all_read [] = true
all_read (s ∷ more) = same s.text s.words && all_read more
