-- A line that the night box prints (ours): up to 160 characters. Assumes nothing.
use Rattle.std.specs.Prelude.{ℕ, ◌≡◌, List, [], ◌∷◌, ◌++◌, length, take, drop}
use Prim.Native.Char.{code}
use Prim.Native.String.{String, [] as end, ◌∷◌ as ◌then◌}
use Rattle.spans.specs.Few.{few, those}
use Rattle.lines.specs.declared.Line.{Line}

abbrev pub most : ℕ
most = 160

-- the characters of a text as it is written here
abbrev pub chars : String → List ℕ
chars end = []
chars (c then more) = code c ∷ chars more

-- the line of a text: what is past 160 characters is cut
unfoldable pub line_of : List ℕ → Line
line_of text = record { text = few most (take most text) }

-- the text of a line, of any that a caller can make up
abbrev pub text_of : Line → List ℕ
text_of line = those line.text

-- a line with some more characters after it
unfoldable pub adding : Line → List ℕ → Line
adding line more = line_of (text_of line ++ more)

-- a line has these words after its first n characters
abbrev pub Says : Line → ℕ → String → Type 0
Says line n words = take (length (chars words)) (drop n (text_of line)) ≡ chars words
