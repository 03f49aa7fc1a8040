-- Laws of the unfinished frame as it is held: which states are allowed, and what is kept of the characters. Assumes nothing.
use mathlib.Core.Path.{◌≡◌, refl, sym, ap, ◌∙◌}
use mathlib.Core.Bool.{Bool, true, false, ◌&&◌, ◌||◌}
use mathlib.Core.List.{List, [], ◌++◌}
use Prim.Native.Nat.{ℕ, ◌≤◌, ◌<◌, min}
use native.Mathlib.Omega.{arith}
use borrow.Author.Tests.{leb-true, leb-false, eqb-true}
use lib.ListN.{length, take, length-take}
use lib.Seq.{take_all}
use lib.Dec.{leb, eqb}
use Rattle.laws.specs.Lists.{every}
use Rattle.laws.proofs.Bools.{and_left, and_right, both}
use Rattle.laws.proofs.Lists.{every_take}
use Rattle.spans.specs.Few.{few, those, tidy}
use Rattle.spans.specs.declared.Few.{Few}
use Rattle.spans.proofs.Fews.{those_back, few_room, few_tidy, tidy_few}
use Rattle.wire.specs.Parsing.{body_says, broken_says}
use Rattle.wire.proofs.Answers.{body_long, broken_long}
use Rattle.stream.specs.Stream.{Unfinished, outside, inside}
use Rattle.stream.specs.Calls.{allowed, stays, held_of, unfinished}
use Rattle.stream.specs.declared.Held.{Held}

-- what an allowed state has
module _ (h : Held) (ok : allowed h ≡ true) where
  pub allowed_tidy : tidy h.chars ≡ true
  unfolding allowed
  allowed_tidy = and_left _ (h.inside || eqb h.chars.len 0) (and_left _ (every stays (those h.chars)) ok)

  pub allowed_stays : every stays (those h.chars) ≡ true
  unfolding allowed
  allowed_stays = and_right (tidy h.chars && (h.inside || eqb h.chars.len 0)) _ ok

  pub allowed_empty : h.inside ≡ false → h.chars.len ≡ 0
  unfolding allowed
  allowed_empty e =
      let somewhere : (h.inside || eqb h.chars.len 0) ≡ true = and_right (tidy h.chars) _ (and_left _ (every stays (those h.chars)) ok) in
      eqb-true h.chars.len 0 (rw e at somewhere)

-- a state inside a frame
abbrev pub within : Few 74 → Held
within chars = record { inside = true; chars = chars }

-- more characters after those that are held, none of them past the 74th
pub held_more : (h : Held) (more : List ℕ) (chars : Few 74) → chars ≡ few 74 (take 74 (those h.chars ++ more)) → within chars ≡ held_of (inside (those h.chars ++ more))
unfolding held_of
held_more h more chars is = ap within is

-- What is dropped past the 74th character never shows: a frame over 73 is refused 1 whatever they are.

pub body_capped : (chars : List ℕ) → body_says (take 74 chars) ≡ body_says chars
body_capped chars = by (leb (length chars) 74) refl
  where
    by : (t : Bool) → leb (length chars) 74 ≡ t → body_says (take 74 chars) ≡ body_says chars
    by true e = ap body_says (take_all 74 chars (leb-true (length chars) 74 e))
    by false e =
        let many : 74 < length chars = leb-false (length chars) 74 e in
        body_long (take 74 chars) (rw length-take (omega arith)) ∙ sym (body_long chars (omega arith))

pub broken_capped : (count : ℕ) → broken_says (min 74 count) ≡ broken_says count
broken_capped count = by (leb count 74) refl
  where
    by : (t : Bool) → leb count 74 ≡ t → broken_says (min 74 count) ≡ broken_says count
    by true e = let few : count ≤ 74 = leb-true count 74 e in ap broken_says (omega arith)
    by false e =
        let many : 74 < count = leb-false count 74 e in
        broken_long (min 74 count) (omega arith) ∙ sym (broken_long count (omega arith))

-- the characters of a state are the first 74
pub held_chars : (chars : List ℕ) → those (few 74 (take 74 chars)) ≡ take 74 chars
held_chars chars = those_back 74 (take 74 chars)

-- a state that bytes leave holds at most 74 characters in an array of 74
pub held_long : (u : Unfinished) → length (held_of u).chars.bytes ≡ 74
unfolding held_of
held_long outside = few_room 74 _ (omega arith)
held_long (inside chars) = few_room 74 (take 74 chars) (rw length-take (omega arith))

-- What a state remembers.

pub unfinished_inside : (h : Held) → h.inside ≡ true → unfinished h ≡ inside (those h.chars)
unfolding unfinished
unfinished_inside h e = rw e

pub unfinished_outside : (h : Held) → h.inside ≡ false → unfinished h ≡ outside
unfolding unfinished
unfinished_outside h e = rw e

pub unfinished_held : (chars : List ℕ) → unfinished (held_of (inside chars)) ≡ inside (take 74 chars)
unfolding held_of
unfinished_held chars = unfinished_inside (held_of (inside chars)) refl ∙ ap inside (held_chars chars)

-- What is held of characters that stay in their frame is allowed.

pub allowed_inside : (chars : List ℕ) → every stays chars ≡ true → allowed (held_of (inside chars)) ≡ true
unfolding allowed held_of
allowed_inside chars e = simp (held_chars, every_take stays 74 chars e, few_tidy 74 (take 74 chars) (rw length-take (omega arith)))

outside_tidy : tidy (held_of outside).chars ≡ true
unfolding held_of
outside_tidy = few_tidy 74 _ (omega arith)

pub allowed_outside : allowed (held_of outside) ≡ true
unfolding allowed held_of few
allowed_outside = both _ _ (both _ _ outside_tidy refl) refl

-- There is one allowed state for each thing that there is to remember.

module _ (h : Held) (ok : allowed h ≡ true) (long : length h.chars.bytes ≡ 74) where
  own : few 74 (those h.chars) ≡ h.chars
  own = sym (tidy_few 74 h.chars long (allowed_tidy h ok))

  same_outside : h.inside ≡ false → held_of outside ≡ h
  unfolding held_of
  same_outside e =
      let none : those h.chars ≡ [] = rw (allowed_empty h ok e) in
      let is : few 74 [] ≡ h.chars = ap (few 74) (sym none) ∙ own in
      λ i. record { inside = sym e i; chars = is i }

  same_inside : h.inside ≡ true → held_of (inside (those h.chars)) ≡ h
  unfolding held_of
  same_inside e =
      let short : length (those h.chars) ≤ 74 = rw (length-take, long) (omega arith) in
      let is : few 74 (take 74 (those h.chars)) ≡ h.chars = ap (few 74) (take_all 74 (those h.chars) short) ∙ own in
      λ i. record { inside = sym e i; chars = is i }

  pub held_same : held_of (unfinished h) ≡ h
  held_same = by h.inside refl
    where
      by : (t : Bool) → h.inside ≡ t → held_of (unfinished h) ≡ h
      by true e = ap held_of (unfinished_inside h e) ∙ same_inside e
      by false e = ap held_of (unfinished_outside h e) ∙ same_outside e
