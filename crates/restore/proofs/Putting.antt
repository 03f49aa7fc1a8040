-- The Sets put end to end, of which some are written and the others left. Assumes nothing.
use Rattle.std.proofs.Common.{arith, ◌≡◌, refl, sym, ap, ◌∙◌, ℕ, ◌+◌, ◌*◌, ◌-◌, ◌≤◌, ◌<◌, List, ◌++◌, length, length-append, zero-add, ap₂, Some, None}
use lib.Seq.{sets, length-sets}
use Rattle.laws.specs.Promise.{overlaid}
use Rattle.laws.proofs.Lists.{sets_append}
use Rattle.laws.proofs.Promise.{overlaid_sets}
use Rattle.settings.specs.Columns.{count}
use Rattle.tables.specs.declared.Table.{Table}
use Rattle.requests.specs.Requests.{set_request}
use Rattle.requests.specs.declared.Wanted.{Wanted}
use Rattle.restore.specs.declared.Size.{Size}
use Rattle.restore.specs.Order.{due_sets, set_at}
use Rattle.restore.specs.Calls.{frames_for, list_room}
use Rattle.restore.proofs.Rows.{sets_from, all_sets, no_sets, next_none, next_some, sets_few, frames_fit}
use Rattle.restore.proofs.Writing.{request_short}

module _ (from to : Table) where
  abbrev pub frames_from : ℕ → List ℕ
  frames_from k = frames_for (sets_from from to k)

  pub record Putting (out₀ out : List ℕ) (at sets_put k : ℕ) : Type 0 where
    pub room : at + 15 * (count - k) ≤ length out
    pub long : length out ≡ length out₀
    pub place : at + length (frames_from k) ≡ length (frames_for (due_sets from to))
    pub same : sets out at (frames_from k) ≡ sets out₀ 0 (frames_for (due_sets from to))
    pub counted : sets_put + length (sets_from from to k) ≡ length (due_sets from to)

  pub putting_start : (out : List ℕ) → list_room ≤ length out → Putting out out 0 0 0
  putting_start out h =
      let all = ap frames_for (all_sets from to) in
      record {
        room = omega arith;
        long = refl;
        place = zero-add _ ∙ ap length all;
        same = ap (sets out 0) all;
        counted = zero-add _ ∙ ap length (all_sets from to);
      }

  module _ {out₀ out : List ℕ} {at n k : ℕ} (h : k < count) (w : Putting out₀ out at n k) where
    pub putting_room : at + 15 ≤ length out
    putting_room = omega (arith, w.room)

    pub putting_none : set_at from to k ≡ None → Putting out₀ out at n (k + 1)
    putting_none e =
        let later = next_none from to k h e in
        let next = ap frames_for later in
        record { room = omega (arith, w.room); long = w.long; place = rw next at w.place; same = rw next at w.same; counted = rw later at w.counted }

    -- a number of Sets fits, as there are no more than settings
    pub putting_few : n ≤ count
    putting_few = omega (arith, w.counted, sets_few from to)

    pub putting_some : (set : Wanted) → set_at from to k ≡ Some set → set.setting.index < count → {out₁ : List ℕ} {at₁ : ℕ}
        → at₁ ≡ at + length (set_request set.setting.index set.number) → out₁ ≡ sets out at (set_request set.setting.index set.number)
        → Putting out₀ out₁ at₁ (n + 1) (k + 1)
    putting_some set e below {out₁} {at₁} place stores =
        let frame : List ℕ = set_request set.setting.index set.number in
        let rest : List ℕ = frames_from (k + 1) in
        let next : frames_from k ≡ frame ++ rest = ap frames_for (next_some from to k h set e) in
        let short : length frame ≤ 15 = request_short set.setting.index set.number below in
        let sum : length (frames_from k) ≡ length frame + length rest = ap length next ∙ length-append frame rest in
        let length-same : length out₁ ≡ length out = ap length stores ∙ length-sets out at frame in
        record {
          room = omega (arith, w.room);
          long = length-same ∙ w.long;
          place = omega (arith, w.place);
          same = ap₂ (λ (l : List ℕ) (j : ℕ). sets l j rest) stores place ∙ sym (sets_append out at frame rest) ∙ ap (sets out at) (sym next) ∙ w.same;
          counted = omega (arith, w.counted, ap length (next_some from to k h set e));
        }

  pub putting_end : {out₀ out : List ℕ} {at n k : ℕ} → count ≤ k → list_room ≤ length out₀ → Putting out₀ out at n k
      → ◌≡◌ {A = Size} (record { len = at; sets = n }) (record { len = length (frames_for (due_sets from to)); sets = length (due_sets from to) }) × (out ≡ overlaid (frames_for (due_sets from to)) out₀)
  putting_end {out₀} {out} {at} {n} {k} h room w =
      let none = ap frames_for (no_sets from to k h) in
      let fits : length (frames_for (due_sets from to)) ≤ length out₀ = omega (arith, frames_fit from to) in
      let len : at ≡ length (frames_for (due_sets from to)) = omega (arith, w.place, ap length none) in
      let sets_put : n ≡ length (due_sets from to) = omega (arith, w.counted, ap length (no_sets from to k h)) in
      (ap₂ (λ (a b : ℕ). record { len = a; sets = b }) len sets_put, ap (sets out at) (sym none) ∙ w.same ∙ overlaid_sets (frames_for (due_sets from to)) out₀ fits)
