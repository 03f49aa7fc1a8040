-- Every allowed viewer is reached: the ids answered well first, then the others not, then the silences. Assumes nothing.
use mathlib.Core.Path.{◌≡◌, refl, sym, ap, ap₂, ◌∙◌}
use mathlib.Core.Bool.{Bool, true, false}
use mathlib.Core.List.{List, [], ◌∷◌, ◌++◌}
use Prim.Native.Nat.{ℕ, zero, suc, ◌^◌, ◌≤◌, ◌<◌}
use native.Mathlib.Omega.{arith}
use borrow.Author.Tests.{leb-true, leb-false, ltb-true, ltb-false}
use lib.ListN.{get_or}
use lib.Dec.{ltb, leb}
use Rattle.paper.specs.Numbers.{get_code}
use Rattle.laws.proofs.Lists.{up_to_at}
use Rattle.who.specs.Parts.{serial_fits}
use Rattle.endian.specs.Numbers.{said}
use Rattle.std.specs.Prelude.{Some}
use Rattle.reply.specs.Replies.{flag_of}
use Rattle.reply.specs.Events.{Event, heard, no_answer}
use Rattle.reply.specs.declared.Status.{Status}
use Rattle.reply.proofs.Heeding.{said_heeded}
use Rattle.view.specs.Values.{count, id_at, product_fits, serial_reads, is_understood}
use Rattle.view.specs.Calls.{on_heeded, sight_of, moved, advanced, allowed, starting, viewing}
use Rattle.view.specs.Laws.{calls, AllowedIsReached}
use Rattle.view.specs.declared.Viewer.{Viewer}
use Rattle.view.specs.declared.Sight.{Sight}
use Rattle.view.specs.declared.Viewed.{Viewed}
use Rattle.view.proofs.Hearing.{heeded_is}
use Rattle.view.proofs.Counting.{state, is_within, few_answered, few_understood, some_left, is_allowed, waits, viewed, calls_allowed}

-- a value that is understood, for each id
abbrev values : List (List ℕ)
values =
    (0x00 ∷ 0x81 ∷ 0xA3 ∷ 0xFF ∷ []) ∷ (0 ∷ []) ∷ (0 ∷ 0 ∷ []) ∷ (0 ∷ 0 ∷ []) ∷ (0 ∷ 0 ∷ []) ∷ (0 ∷ 0 ∷ 0 ∷ 0 ∷ []) ∷ (0 ∷ 0 ∷ 0 ∷ 0 ∷ [])
    ∷ (0 ∷ 0 ∷ []) ∷ []

abbrev value_at : ℕ → List ℕ
value_at k = get_or values k []

understands : (k : ℕ) → k < count → is_understood (id_at k) (value_at k) ≡ true
unfolding is_understood product_fits serial_fits serial_reads
understands k h = up_to_at count (λ i. is_understood (id_at i) (value_at i)) refl k h

-- a reply to the Get of the id at a place, and what it comes to
abbrev bytes_at : ℕ → Status → List ℕ
bytes_at k status = said (id_at k) (flag_of status) (value_at k)

abbrev reply_at : ℕ → Status → Event
reply_at k status = heard get_code (bytes_at k status)

replied : (k u : ℕ) (status : Status) → k < count → sight_of (state k u 0) (reply_at k status) ≡ on_heeded (id_at k) (value_at k) (Some status)
unfolding sight_of
replied k u status h =
    let small : id_at k < 256 ^ 2 = ltb-true (id_at k) (256 ^ 2) (up_to_at count (λ i. ltb (id_at i) (256 ^ 2)) refl k h) in
    rw (waits (state k u 0) h (omega arith))
    (sym (heeded_is (id_at k) (value_at k) get_code (bytes_at k status) _ (said_heeded get_code (id_at k) small refl status (value_at k)) refl))

calls_append : (events : List Event) (last : Viewed) (e : Event) → calls last (events ++ e ∷ []) ≡ viewing (calls last events).viewer e
calls_append [] last e = refl
calls_append (g ∷ more) last e = calls_append more (viewing last.viewer g) e

pub record Reached (v : Viewer) : Type 0 where
  pub events : List Event
  pub arrives : (calls starting events).viewer ≡ v

-- one event more
reach_event : (v : Viewer) (e : Event) → allowed v ≡ true → Reached v → Reached (advanced v e)
reach_event v e ok r =
    record {
      events = r.events ++ e ∷ [];
      arrives = ap (λ (w : Viewed). w.viewer) (calls_append r.events starting e ∙ ap (λ (w : Viewer). viewing w e) r.arrives ∙ viewed v e ok);
    }

-- one id more answered
reach_next : (a u : ℕ) (status : Status) (v : Viewer) → u ≤ a → a < count → moved (state a u 0) (on_heeded (id_at a) (value_at a) (Some status)) ≡ v → Reached (state a u 0) → Reached v
unfolding advanced
reach_next a u status v h k e r =
    rw (← e, ← replied a u status k) (reach_event (state a u 0) (reply_at a status) (is_allowed a u h (omega arith)) r)

reach : (a u : ℕ) → u ≤ a → a ≤ count → Reached (state a u 0)
reach zero u h k = record { events = []; arrives = ap (λ (u : ℕ). state 0 u 0) (omega arith) }
reach (suc a) u h k = by (leb u a) refl (λ less. reach a u less (omega arith)) (reach a a (omega arith) (omega arith))
  where
    by : (t : Bool) → leb u a ≡ t → (u ≤ a → Reached (state a u 0)) → Reached (state a a 0) → Reached (state (suc a) u 0)
    by true e before all =
        let less : u ≤ a = leb-true u a e in
        let same : moved (state a u 0) (Sight.Strange (id_at a)) ≡ state (suc a) u 0 = ap₂ (λ (a u : ℕ). state a u 0) (omega arith) (omega arith) in
        reach_next a u Status.UnknownId (state (suc a) u 0) less (omega arith) same (before less)
    by false e before all =
        let over : a < u = leb-false u a e in
        let same : moved (state a a 0) (on_heeded (id_at a) (value_at a) (Some Status.Good)) ≡ state (suc a) u 0 = rw (understands a (omega arith)) (ap₂ (λ (a u : ℕ). state a u 0) (omega arith) (omega arith)) in
        reach_next a a Status.Good (state (suc a) u 0) (omega arith) (omega arith) same all

-- one silence more
reach_silence : (a u n : ℕ) → u ≤ a → a < count → n ≤ 3 → Reached (state a u 0) → Reached (state a u n)
unfolding advanced
reach_silence a u zero h k m r = r
reach_silence a u (suc n) h k m r =
    rw (waits (state a u n) k (omega arith)) at (reach_event (state a u n) no_answer (some_left a u n h k (omega arith)) (reach_silence a u n h k (omega arith) r))

reached : (v : Viewer) → allowed v ≡ true → Reached v
reached v ok = by (ltb v.answered count) refl (reach v.answered v.understood (few_understood v ok) (few_answered v ok))
  where
    by : (t : Bool) → ltb v.answered count ≡ t → Reached (state v.answered v.understood 0) → Reached v
    by true h r = reach_silence v.answered v.understood v.silences (few_understood v ok) (ltb-true v.answered count h) (is_within v ok).most r
    by false h r =
        let none : v.silences ≡ 0 = (is_within v ok).none (ltb-false v.answered count h) in
        record { events = r.events; arrives = r.arrives ∙ ap (state v.answered v.understood) (sym none) }

pub allowed_is_reached : AllowedIsReached
allowed_is_reached v = (
  λ ok. let r = reached v ok in (r.events, sym r.arrives),
  λ some. ap allowed some.1 ∙ calls_allowed some.0,
)
