-- What the line of a yard says of its counts. Assumes nothing.
use mathlib.Core.Path.{◌≡◌, refl, sym, ap, ◌∙◌}
use mathlib.Core.Bool.{Bool, true, false}
use mathlib.Core.List.{List, [], ◌∷◌, ◌++◌, append_assoc}
use Prim.Native.Nat.{ℕ, zero, suc, ◌+◌, ◌/◌, ◌%◌, ◌≤◌, ◌<◌}
use native.Mathlib.Omega.{arith}
use borrow.Author.Tests.{ltb-true, ltb-false}
use lib.ListN.{length, get_or, take, drop, length-append, drop_of_length-le}
use lib.Seq.{take_all, drop-append_seam}
use lib.Dec.{ltb}
use Rattle.paper.specs.Numbers.{not_allowed}
use Rattle.tally.specs.Results.{tally_allowed}
use Rattle.tally.specs.declared.Tally.{Tally}
use Rattle.lines.specs.Lines.{most, chars, text_of, line_of}
use Rattle.lines.specs.Numbers.{last_digit, decimal_from, decimal}
use Rattle.lines.proofs.Digits.{one_digit, more_digits}
use Rattle.lines.proofs.Adding.{text_back, says_text, text_says_lem}
use Rattle.sentences.specs.Texts.{between_text, of_text, refused_text, counts_text, summed_text}
use Rattle.sentences.specs.Laws.{joined, SumsAreSaid, front_text, NoneLeft, WellIsWell, NoneReady, NoneIsNone, StrayTally}
use Rattle.sentences.proofs.Uncut.{yards_uncut}

-- after the first digit of a number comes a digit, if one comes after the number
second_digit : (k m d : ℕ) (rest : List ℕ) → 48 ≤ d → 48 ≤ get_or (decimal_from k m ++ d ∷ rest) 1 0
unfolding decimal_from
second_digit zero m d rest h = h
second_digit (suc k) m d rest h = by (ltb m 10) refl (second_digit k (m / 10) (48 + m % 10) (d ∷ rest) (omega arith))
  where
    by : (t : Bool) → ltb m 10 ≡ t → 48 ≤ get_or (decimal_from k (m / 10) ++ (48 + m % 10) ∷ d ∷ rest) 1 0 → 48 ≤ get_or (decimal_from (suc k) m ++ d ∷ rest) 1 0
    by true e less = rw e h
    by false e less = rw (e, append_assoc (decimal_from k (m / 10)) (last_digit m) (d ∷ rest)) less

-- and the first is one
pub first_digit : (k m : ℕ) (rest : List ℕ) → get_or (decimal_from k m ++ rest) 0 0 ≤ 57
unfolding decimal_from
first_digit zero m rest = omega arith
first_digit (suc k) m rest = by (ltb m 10) refl (first_digit k (m / 10) (last_digit m ++ rest))
  where
    by : (t : Bool) → ltb m 10 ≡ t → get_or (decimal_from k (m / 10) ++ (last_digit m ++ rest)) 0 0 ≤ 57 → get_or (decimal_from (suc k) m ++ rest) 0 0 ≤ 57
    by true e less = rw e (omega arith)
    by false e less = rw (e, append_assoc (decimal_from k (m / 10)) (last_digit m) rest) less

second_kept : (n : ℕ) (l : List ℕ) → get_or (take (suc (suc n)) l) 1 0 ≡ get_or l 1 0
second_kept n [] = refl
second_kept n (x ∷ []) = refl
second_kept n (x ∷ y ∷ l) = refl

-- a count that reads 0 and a space is 0
none_counted : (s n : ℕ) (rest w : List ℕ) → take (suc (suc n)) (decimal s ++ 32 ∷ rest) ≡ 48 ∷ 32 ∷ w → s ≡ 0
none_counted s n rest w e = by (ltb s 10) refl
  where
    by : (t : Bool) → ltb s 10 ≡ t → s ≡ 0
    by true h =
        let few : s < 10 = ltb-true s 10 h in
        let is : take (suc (suc n)) (last_digit s ++ 32 ∷ rest) ≡ 48 ∷ 32 ∷ w =
        ap (λ (l : List ℕ). take (suc (suc n)) (l ++ 32 ∷ rest)) (sym (one_digit 19 s few)) ∙ e in
        let first : 48 + s % 10 ≡ 48 = ap (λ (l : List ℕ). get_or l 0 0) is in
        omega arith
    by false h =
        let many : 10 ≤ s = ltb-false s 10 h in
        let is : decimal s ++ 32 ∷ rest ≡ decimal_from 18 (s / 10) ++ (48 + s % 10) ∷ 32 ∷ rest =
        ap (λ (l : List ℕ). l ++ 32 ∷ rest) (more_digits 19 s (λ z. absurd (omega arith)) many)
        ∙ append_assoc (decimal_from 18 (s / 10)) (last_digit s) (32 ∷ rest) in
        let second : get_or (decimal_from 18 (s / 10) ++ (48 + s % 10) ∷ 32 ∷ rest) 1 0 ≡ 32 =
        ap (λ (l : List ℕ). get_or l 1 0) (sym is) ∙ sym (second_kept n (decimal s ++ 32 ∷ rest)) ∙ ap (λ (l : List ℕ). get_or l 1 0) e in
        let digit : 48 ≤ get_or (decimal_from 18 (s / 10) ++ (48 + s % 10) ∷ 32 ∷ rest) 1 0 = second_digit 18 (s / 10) (48 + s % 10) (32 ∷ rest) (omega arith) in
        absurd (omega arith)

-- and what comes after it
after_none : (s n : ℕ) (rest w : List ℕ) → s ≡ 0 → take (suc (suc n)) (decimal s ++ 32 ∷ rest) ≡ 48 ∷ 32 ∷ w → take n rest ≡ w
after_none s n rest w z e =
    let is : decimal s ≡ 48 ∷ [] = ap decimal z ∙ one_digit 19 0 (omega arith) in
    ap (λ (l : List ℕ). drop 2 l) (ap (λ (l : List ℕ). take (suc (suc n)) (l ++ 32 ∷ rest)) (sym is) ∙ e)

-- the line after its first two counts
abbrev fourth : Tally → List ℕ
fourth t = of_text [] t.confirmed t.due (chars " settings confirmed")

abbrev third : Tally → List ℕ
third t = decimal t.unbegun ++ (chars " not begun; " ++ fourth t)

abbrev other : Tally → List ℕ
other t = decimal t.silent ++ (chars " silent, " ++ third t)

abbrev last : Tally → List ℕ
last t = chars " equal, " ++ (decimal t.stopped ++ (chars " stopped, " ++ other t))

regrouped : (a d b e q s p i o u n h : List ℕ)
    → a ++ d ++ b ++ (e ++ q) ++ (s ++ p) ++ (i ++ o) ++ (u ++ n) ++ h ≡ a ++ d ++ b ++ e ++ (q ++ (s ++ (p ++ (i ++ (o ++ (u ++ (n ++ h)))))))
regrouped a d b e q s p i o u n h = simp append_assoc

halves : (t : Tally) → counts_text t ≡ front_text t ++ last t
unfolding counts_text between_text front_text
halves t =
    regrouped (chars "yard: ") (decimal t.done) (chars " done, ") (decimal t.equal) (chars " equal, ") (decimal t.stopped) (chars " stopped, ")
    (decimal t.silent) (chars " silent, ") (decimal t.unbegun) (chars " not begun; ") (fourth t)

-- from its first count on
row : (t : Tally) → counts_text t ≡ chars "yard: " ++ (decimal t.done ++ (chars " done, " ++ (decimal t.equal ++ last t)))
unfolding front_text
row t = halves t ∙ in_row (chars "yard: ") (decimal t.done) (chars " done, ") (decimal t.equal) (last t)
  where
    in_row : (a d b e q : List ℕ) → (a ++ d ++ b ++ e) ++ q ≡ a ++ (d ++ (b ++ (e ++ q)))
    in_row a d b e q = simp append_assoc

module _ (t : Tally) where
  pub summed_good : tally_allowed t ≡ true → counts_text t ≡ summed_text t
  unfolding summed_text
  summed_good ok = rw ok

  sums_flat : fourth t ≡ joined (decimal t.confirmed ∷ chars " of " ∷ decimal t.due ∷ chars " settings confirmed" ∷ [])
  unfolding of_text
  sums_flat = in_row (decimal t.confirmed) (chars " of ") (decimal t.due) (chars " settings confirmed")
    where
      in_row : (a b c d : List ℕ) → a ++ b ++ c ++ d ≡ a ++ (b ++ (c ++ d))
      in_row a b c d = simp append_assoc

  pub summed_stray : tally_allowed t ≡ false → refused_text not_allowed ≡ summed_text t
  unfolding summed_text
  summed_stray ok = rw ok

  front_long : 10 ≤ length (front_text t)
  unfolding front_text
  front_long =
      rw (length-append (chars "yard: " ++ decimal t.done ++ chars " done, ") (decimal t.equal), length-append (chars "yard: " ++ decimal t.done) (chars " done, "), length-append (chars "yard: ") (decimal t.done)) (omega arith)

  -- a line that says so after the two counts is no refusal
  none_said : tally_allowed t ≡ false → take 42 (drop (length (front_text t)) (text_of (line_of (summed_text t)))) ≡ []
  unfolding refused_text between_text decimal_from
  none_said bad =
      ap (λ (l : List ℕ). take 42 (drop (length (front_text t)) l)) (text_back (summed_text t) ∙ ap (take most) (sym (summed_stray bad)))
      ∙ ap (take 42) (drop_of_length-le (chars "refused 12") {i = length (front_text t)} front_long)

  none_left : tally_allowed t ≡ true → take 42 (drop (length (front_text t)) (text_of (line_of (summed_text t)))) ≡ chars " equal, 0 stopped, 0 silent, 0 not begun; " → NoneLeft t
  none_left ok e =
      let words : List ℕ = chars " equal, 0 stopped, 0 silent, 0 not begun; " in
      let all : take 42 (last t) ≡ words =
      says_text (front_text t) (last t) " equal, 0 stopped, 0 silent, 0 not begun; "
      (ap (λ (l : List ℕ). take 42 (drop (length (front_text t)) (text_of (line_of l)))) (sym (halves t) ∙ summed_good ok) ∙ e) in
      let e1 : take 34 (decimal t.stopped ++ (chars " stopped, " ++ other t)) ≡ chars "0 stopped, 0 silent, 0 not begun; " = ap (λ (l : List ℕ). drop 8 l) all in
      let z1 : t.stopped ≡ 0 = none_counted t.stopped 32 (chars "stopped, " ++ other t) (chars "stopped, 0 silent, 0 not begun; ") e1 in
      let e2 : take 23 (other t) ≡ chars "0 silent, 0 not begun; " =
      ap (λ (l : List ℕ). drop 9 l) (after_none t.stopped 32 (chars "stopped, " ++ other t) (chars "stopped, 0 silent, 0 not begun; ") z1 e1) in
      let z2 : t.silent ≡ 0 = none_counted t.silent 21 (chars "silent, " ++ third t) (chars "silent, 0 not begun; ") e2 in
      let e3 : take 13 (third t) ≡ chars "0 not begun; " =
      ap (λ (l : List ℕ). drop 8 l) (after_none t.silent 21 (chars "silent, " ++ third t) (chars "silent, 0 not begun; ") z2 e2) in
      let z3 : t.unbegun ≡ 0 = none_counted t.unbegun 11 (chars "not begun; " ++ fourth t) (chars "not begun; ") e3 in
      record { is_allowed = ok; none_stopped = z1; none_silent = z2; none_unbegun = z3 }

  left_none : NoneLeft t → take 42 (drop (length (front_text t)) (text_of (line_of (summed_text t)))) ≡ chars " equal, 0 stopped, 0 silent, 0 not begun; "
  unfolding decimal_from
  left_none none =
      ap (λ (l : List ℕ). take 42 (drop (length (front_text t)) l))
      (text_back (summed_text t) ∙ take_all most (summed_text t) (yards_uncut t) ∙ sym (summed_good none.is_allowed) ∙ halves t)
      ∙ ap (take 42) (drop-append_seam (front_text t) (last t))
      ∙ rw (none.none_stopped, none.none_silent, none.none_unbegun) refl

pub well_said : WellIsWell
well_said t = (λ e. by (tally_allowed t) refl e, left_none t)
  where
    by : (b : Bool) → tally_allowed t ≡ b → take 42 (drop (length (front_text t)) (text_of (line_of (summed_text t)))) ≡ chars " equal, 0 stopped, 0 silent, 0 not begun; " → NoneLeft t
    by true ok e = none_left t ok e
    by false bad e = let z : ◌≡◌ {A = ℕ} 0 42 = ap (λ (l : List ℕ). length l) (sym (none_said t bad) ∙ e) in absurd (omega arith)

pub none_said_ready : NoneIsNone
unfolding refused_text between_text decimal_from
none_said_ready t = (
  λ e. by (tally_allowed t) refl (says_text [] (summed_text t) "yard: 0 done, 0 equal, " e),
  λ none. text_says_lem (summed_text t) "yard: 0 done, 0 equal, " (omega arith)
      (ap (take 23) (sym (summed_good t none.is_allowed) ∙ row t) ∙ rw (none.none_done, none.none_equal) refl),
)
  where
    by : (b : Bool) → tally_allowed t ≡ b → take 23 (summed_text t) ≡ chars "yard: 0 done, 0 equal, " → NoneReady t
    by true ok e =
        let after : List ℕ = decimal t.equal ++ last t in
        let all : take 23 (chars "yard: " ++ (decimal t.done ++ (chars " done, " ++ after))) ≡ chars "yard: 0 done, 0 equal, " =
        ap (take 23) (sym (row t) ∙ summed_good t ok) ∙ e in
        let e1 : take 17 (decimal t.done ++ (chars " done, " ++ after)) ≡ chars "0 done, 0 equal, " = ap (λ (l : List ℕ). drop 6 l) all in
        let z1 : t.done ≡ 0 = none_counted t.done 15 (chars "done, " ++ after) (chars "done, 0 equal, ") e1 in
        let e2 : take 9 after ≡ chars "0 equal, " = ap (λ (l : List ℕ). drop 6 l) (after_none t.done 15 (chars "done, " ++ after) (chars "done, 0 equal, ") z1 e1) in
        let z2 : t.equal ≡ 0 = none_counted t.equal 7 (chars "equal, " ++ drop 8 (last t)) (chars "equal, ") e2 in
        record { is_allowed = ok; none_done = z1; none_equal = z2 }
    by false bad e = let z : ◌≡◌ {A = ℕ} 0x72 0x79 = ap (λ (l : List ℕ). get_or l 0 0) (ap (take 23) (summed_stray t bad) ∙ e) in absurd (omega arith)

pub tally_stray : StrayTally
unfolding refused_text between_text decimal_from
tally_stray t = (
  λ e. by (tally_allowed t) refl (says_text [] (summed_text t) "refused 12" e),
  λ bad. text_says_lem (summed_text t) "refused 12" (omega arith) (ap (take 10) (sym (summed_stray t bad))),
)
  where
    by : (b : Bool) → tally_allowed t ≡ b → take 10 (summed_text t) ≡ chars "refused 12" → tally_allowed t ≡ false
    by true ok e = let z : ◌≡◌ {A = ℕ} 0x79 0x72 = ap (λ (l : List ℕ). get_or l 0 0) (ap (take 10) (sym (row t) ∙ summed_good t ok) ∙ e) in absurd (omega arith)
    by false bad e = bad

pub sums_said : SumsAreSaid
sums_said t ok =
    sym (summed_good t ok) ∙ row t
    ∙ ap
    (λ (rest : List ℕ). chars "yard: "
    ++ (decimal t.done
    ++ (chars " done, "
    ++ (decimal t.equal
    ++ (chars " equal, "
    ++ (decimal t.stopped ++ (chars " stopped, " ++ (decimal t.silent ++ (chars " silent, " ++ (decimal t.unbegun ++ (chars " not begun; " ++ rest)))))))))))
    (sums_flat t)
