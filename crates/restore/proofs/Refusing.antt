-- What the calls tell, and what they refuse. Assumes nothing.
use mathlib.Core.Path.{◌≡◌, refl, sym, ap, ◌∙◌}
use mathlib.Core.Bool.{Bool, true, false, cond, not, ◌&&◌, ◌||◌}
use mathlib.Core.List.{List, [], ◌∷◌}
use Prim.Native.Nat.{ℕ, zero, suc}
use native.Mathlib.Omega.{arith}
use borrow.Author.Tests.{eq-eqb}
use lib.ListN.{length}
use lib.Dec.{ltb}
use Rattle.laws.proofs.Bools.{both}
use Rattle.laws.specs.Refusals.{row, first_of}
use Rattle.settings.specs.Columns.{count}
use Rattle.tables.specs.Rules.{allowed, number_at}
use Rattle.tables.specs.declared.Table.{Table}
use Rattle.requests.specs.declared.Wanted.{Wanted}
use Rattle.restore.specs.Order.{due_sets}
use Rattle.restore.specs.Calls.{frames_for, list_room, unlisted, listed_as, listing, sets_due, due_after, due_in}
use Rattle.restore.specs.Laws.{list_number, sets_number, due_number, ListGivenWhen, SetsGivenWhen, DueGivenWhen, ListIsGiven, SetsAreTold, left, differing, NoneWhereEqual}
use Rattle.std.specs.Prelude.{Ok, Err}
use Rattle.paper.specs.Numbers.{short_buffer, not_allowed}
use Rattle.paper.specs.declared.Refusal.{Refusal}
use Rattle.restore.specs.Answers.{Sets}
use Rattle.restore.proofs.Differing.{sets_differing}
use Rattle.restore.proofs.Restoring.{list_restores}
use Rattle.restore.proofs.Rows.{list_made}

pub list_given : ListIsGiven
list_given from to room enough ok fine =
    list_made from to room enough (both _ _ ok fine)
    ∙ ap (λ (sets : ℕ). record { answer = Ok (record { len = length (frames_for (due_sets from to)); sets = sets }); written = frames_for (due_sets from to) }) (sets_differing from to)

pub sets_told : SetsAreTold
unfolding sets_due
sets_told from to ok fine = rw (ok, fine) (ap Ok (sets_differing from to))

-- tables without a Set between them are the same, and a table differs from itself nowhere
none_left : (l : List Wanted) (from to : Table) → length l ≡ 0 → left from l ≡ to → from ≡ to
none_left [] from to none is = is
none_left (w ∷ l) from to none is = absurd (omega arith)

none_differs : (n : ℕ) (t : Table) → differing n t t ≡ 0
unfolding differing
none_differs zero t = refl
none_differs (suc n) t = rw (none_differs n t, eq-eqb (number_at t n) (number_at t n) refl)

sets_number_lem : (n m : ℕ) → ◌≡◌ {A = Sets} (Ok n) (Ok m) → n ≡ m
sets_number_lem n m e = cc

pub none_equal : NoneWhereEqual
none_equal from to two =
    let told = sets_told from to two.from_allowed two.to_allowed in (
      λ none. none_left (due_sets from to) from to (sets_differing from to ∙ sets_number_lem _ _ (sym told ∙ none)) (list_restores from to two).wanted_stands,
      λ same. told ∙ ap Ok (rw (sym same) (none_differs count from)),
    )

pub list_given_when : ListGivenWhen
unfolding listing
list_given_when from to room =
    record {
      number_is = numbers (ltb room list_room) (allowed from) (allowed to);
      none_written = bytes (ltb room list_room) (allowed from && allowed to);
    }
  where
    numbers : (a b c : Bool) → list_number (cond a (unlisted short_buffer) (cond (b && c) (listed_as (due_sets from to)) (unlisted not_allowed))).answer ≡ first_of (row 11 a ∷ row 12 (not b || not c) ∷ [])
    numbers true b c = refl
    numbers false true true = refl
    numbers false true false = refl
    numbers false false c = refl

    bytes : (a b : Bool) (r : Refusal) → (cond a (unlisted short_buffer) (cond b (listed_as (due_sets from to)) (unlisted not_allowed))).answer ≡ Err r
        → (cond a (unlisted short_buffer) (cond b (listed_as (due_sets from to)) (unlisted not_allowed))).written ≡ []
    bytes true b r e = refl
    bytes false true r e = cc
    bytes false false r e = refl

pub sets_given_when : SetsGivenWhen
unfolding sets_due
sets_given_when from to = by (allowed from) (allowed to)
  where
    by : (b c : Bool) → sets_number (cond (b && c) (Ok (length (due_sets from to))) (Err not_allowed)) ≡ first_of (row 12 (not b || not c) ∷ [])
    by true true = refl
    by true false = refl
    by false c = refl

-- what is due of a row of Sets is no refusal
none_refused : (l : List Wanted) (n : ℕ) → due_number (due_after l n) ≡ first_of []
none_refused [] n = refl
none_refused (w ∷ l) zero = refl
none_refused (w ∷ l) (suc n) = none_refused l n

pub due_given_when : DueGivenWhen
unfolding due_in
due_given_when from to n = by (allowed from) (allowed to)
  where
    by : (b c : Bool) → due_number (cond (b && c) (due_after (due_sets from to) n) (Err not_allowed)) ≡ first_of (row 12 (not b || not c) ∷ [])
    by true true = none_refused (due_sets from to) n
    by true false = refl
    by false c = refl
