-- The lines of a text, read one after another. Assumes nothing.
use mathlib.Core.Path.{◌≡◌, refl, sym, ap, ap₂, ◌∙◌}
use mathlib.Core.List.{List, [], ◌∷◌}
use Prim.Native.Nat.{ℕ, suc, ◌+◌, ◌-◌, ◌≤◌, ◌<◌}
use native.Mathlib.Omega.{arith}
use lib.ListN.{length, take, drop, length-append, drop_of_length-le}
use lib.Dec.{eqb}
use lib.Pointwise.{pointwise}
use Rattle.laws.proofs.Lists.{part_to_end}
use Rattle.settings.specs.Columns.{count, id_at}
use Rattle.tables.specs.Rules.{changed, factory}
use Rattle.tables.specs.declared.Table.{Table}
use Rattle.rows.specs.Row.{row_of}
use Rattle.rows.specs.Calls.{judging}
use Rattle.rows.specs.declared.Judged.{Judged}
use Rattle.rows.specs.Answers.{Judgement}
use Rattle.paper.specs.declared.Refusal.{Refusal}
use Rattle.std.proofs.Common.{Ok, Err, true}
use Rattle.rows.proofs.Judging.{numbered}
use Rattle.backup.specs.Text.{places, refused, end_says, following, lines_say, text_says}
use Rattle.backup.proofs.Places.{places_long, places_turn}
use Rattle.backup.proofs.Calls.{first, first_same}

-- no line is left, or one more
pub lines_end : (line : ℕ) (t : Table) (text : List ℕ) → lines_say [] line t text ≡ end_says t (length text)
unfolding lines_say
lines_end line t text = refl

pub lines_next : (k : ℕ) (ks : List ℕ) (line : ℕ) (t : Table) (text : List ℕ) (x : Judgement) → judging k text ≡ x
    → lines_say (k ∷ ks) line t text ≡ following (λ n len. lines_say ks (suc line) (changed t k n) (drop len text)) line x
unfolding lines_say
lines_next k ks line t text x e = rw e

-- the lines that are left to read
pub record Lined (text : List ℕ) (t : Table) (rest : List ℕ) (index : ℕ) : Type 0 where
  pub same : lines_say (drop index places) (index + 2) t rest ≡ text_says text

pub lined_start : (text : List ℕ) → pointwise eqb (take 12 text) first ≡ true → Lined text factory (drop 12 text) 0
lined_start text e = record { same = first_same text e }

module _ {text : List ℕ} {t : Table} {rest : List ℕ} {index : ℕ} (w : Lined text t rest index) (h : index < count) where
  next_is : (x : Judgement) → judging index rest ≡ x
      → following (λ n len. lines_say (drop (index + 1) places) (suc (index + 2)) (changed t index n) (drop len rest)) (index + 2) x ≡ text_says text
  next_is x e =
      sym (lines_next index (drop (index + 1) places) (index + 2) t rest x e)
      ∙ ap (λ (ks : List ℕ). lines_say ks (index + 2) t rest) (sym (places_turn index h)) ∙ w.same

  pub lined_wrong : (refusal : Refusal) → Err refusal ≡ judging index rest → refused refusal (index + 2) ≡ text_says text
  lined_wrong refusal e = next_is (Err refusal) (sym e)

  pub lined_turn : (row : Judged) → Ok row ≡ judging index rest → Lined text (changed t index row.number) (take (length rest - row.len) (drop row.len rest)) (index + 1)
  lined_turn row e =
      let line : index + 1 + 2 ≡ suc (index + 2) = omega arith in
      record {
        same =
            ap₂ (λ (m : ℕ) (l : List ℕ). lines_say (drop (index + 1) places) m (changed t index row.number) l) line (part_to_end rest (length rest) row.len refl)
            ∙ next_is (Ok row) (sym e);
      }

  -- a row that is good is no longer than its text
  pub lined_inside : (row : Judged) → Ok row ≡ judging index rest → row.len ≤ length rest
  lined_inside row e =
      let r = numbered index rest row.number row.len h (sym e) in
      let size : length rest ≡ length (row_of (id_at index) row.number) + length (drop row.len rest) = ap length r.0.text_is ∙ length-append (row_of (id_at index) row.number) (drop row.len rest) in
      omega (arith, r.1)

pub lined_end : {text : List ℕ} {t : Table} {rest : List ℕ} {index : ℕ} → Lined text t rest index → count ≤ index → end_says t (length rest) ≡ text_says text
lined_end {text} {t} {rest} {index} w h =
    let past : length places ≤ index = rw places_long h in
    sym (lines_end (index + 2) t rest) ∙ ap (λ (ks : List ℕ). lines_say ks (index + 2) t rest) (sym (drop_of_length-le places past)) ∙ w.same
