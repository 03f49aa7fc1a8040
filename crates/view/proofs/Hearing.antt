-- What a frame says of the due id. Assumes nothing.
use mathlib.Core.Path.{◌≡◌, refl, sym, ap, ap₂, subst, ◌∙◌}
use mathlib.Core.Logic.{◌≢◌}
use mathlib.Core.Bool.{Bool, true, false, cond, false≢true}
use mathlib.Core.List.{List}
use Prim.Native.Nat.{ℕ, ◌≤◌}
use native.Mathlib.Omega.{arith}
use lib.ListN.{length, get_or}
use Rattle.paper.specs.Numbers.{get_code}
use Rattle.reply.specs.Replies.{flag_of, rest}
use Rattle.reply.specs.Calls.{heeding}
use Rattle.reply.specs.Events.{heard}
use Rattle.reply.specs.Laws.{Says, says_good, says_bad, says_nothing}
use Rattle.reply.specs.declared.Status.{Status}
use Rattle.std.specs.Prelude.{Some, None}
use Rattle.reply.specs.Answers.{Heeded}
use Rattle.reply.proofs.Theorems.{heed_is_said}
use Rattle.reply.proofs.Lengths.{status_long}
use Rattle.view.specs.Values.{id_at, is_understood}
use Rattle.view.specs.Calls.{on_heeded, sight_at, is_waiting, sight_of, advanced, allowed, told, stray, viewing}
use Rattle.view.specs.Laws.{Sees, sees_nothing, sees_value, sees_other, SightIsSeen}
use Rattle.view.specs.declared.Viewer.{Viewer}
use Rattle.view.specs.declared.Sight.{Sight}

-- what is seen, by what the frame says to the Get
pub heeded_is : (id : ℕ) (value : List ℕ) (command : ℕ) (bytes : List ℕ) (h : Heeded) → heeding get_code id command bytes ≡ h → value ≡ rest bytes → on_heeded id value h ≡ sight_at id command bytes
unfolding sight_at
heeded_is id value command bytes h is e = ap₂ (on_heeded id) e (sym is)

-- a value that is understood comes with flag 00
module _ (id : ℕ) (value : List ℕ) where
  record Good (h : Heeded) (due : ℕ) : Type 0 where
    pub same_id : id ≡ due
    pub is_good : h ≡ Some Status.Good
    pub has_value : is_understood id value ≡ true

  strange : (h : Heeded) (due : ℕ) → Sight.Strange id ≡ Sight.Understood due → Good h due
  strange h due e = cc

  good : (h : Heeded) (due : ℕ) → on_heeded id value h ≡ Sight.Understood due → Good h due
  good None due e = cc
  good (Some Status.Good) due e = by (is_understood id value) refl e
    where
      by : (u : Bool) → is_understood id value ≡ u → cond u (Sight.Understood id) (Sight.Strange id) ≡ Sight.Understood due → Good (Some Status.Good) due
      by true is e = record { same_id = cc; is_good = refl; has_value = is }
      by false is e = cc
  good (Some Status.UnknownId) due e = strange (Some Status.UnknownId) due e
  good (Some Status.NotSupported) due e = strange (Some Status.NotSupported) due e
  good (Some Status.ParameterError) due e = strange (Some Status.ParameterError) due e

-- another flag is not 00
only_good : (status : Status) → flag_of status ≡ 0 → status ≡ Status.Good
only_good Status.Good e = refl
only_good Status.UnknownId e = absurd (omega arith)
only_good Status.NotSupported e = absurd (omega arith)
only_good Status.ParameterError e = absurd (omega arith)

module _ (id command : ℕ) (bytes : List ℕ) where
  -- no value is understood under another flag
  bad_strange : (status : Status) → status ≢ Status.Good → on_heeded id (rest bytes) (Some status) ≡ Sight.Strange id
  bad_strange Status.Good other = absurd (other refl)
  bad_strange Status.UnknownId other = refl
  bad_strange Status.NotSupported other = refl
  bad_strange Status.ParameterError other = refl

  sees : (h : Heeded) → Says get_code id command bytes h → Sees id command bytes (on_heeded id (rest bytes) h)
  sees h (says_nothing none) = sees_nothing (λ status. none status refl)
  sees h (says_good stated is are) = by (is_understood id (rest bytes)) refl
    where
      by : (u : Bool) → is_understood id (rest bytes) ≡ u → Sees id command bytes (cond u (Sight.Understood id) (Sight.Strange id))
      by true has = sees_value (record { is_get = is; is_good = are; has_value = has })
      by false has = sees_other Status.Good is are (λ u. false≢true (sym has ∙ u.has_value))
  sees h (says_bad {status} other stated is are) =
      rw (bad_strange status other) (sees_other status is are (λ u. other (only_good status (ap (λ (l : List ℕ). get_or l 2 0) (sym are ∙ u.is_good)))))

  sees_one : (s t : Sight) → Sees id command bytes s → Sees id command bytes t → s ≡ t
  sees_one s t (sees_nothing none) (sees_nothing none') = refl
  sees_one s t (sees_nothing none) (sees_value u) = absurd (none Status.Good u.is_get u.is_good)
  sees_one s t (sees_nothing none) (sees_other status is are not) = absurd (none status is are)
  sees_one s t (sees_value u) (sees_nothing none) = absurd (none Status.Good u.is_get u.is_good)
  sees_one s t (sees_value u) (sees_value u') = refl
  sees_one s t (sees_value u) (sees_other status is are not) = absurd (not u)
  sees_one s t (sees_other status is are not) (sees_nothing none) = absurd (none status is are)
  sees_one s t (sees_other status is are not) (sees_value u) = absurd (not u)
  sees_one s t (sees_other status is are not) (sees_other status' is' are' not') = refl

pub sight_is_seen : SightIsSeen
unfolding sight_at
sight_is_seen id command bytes s room small =
    let seen = sees id command bytes (heeding get_code id command bytes) (heed_is_said get_code id command bytes room small) in
    (λ e. subst (Sees id command bytes) e seen, sees_one id command bytes (sight_at id command bytes) s seen)

-- a value that is understood is the rest of the data, after the first three bytes
pub record Valued (id : ℕ) (bytes : List ℕ) : Type 0 where
  pub is_long : 3 ≤ length bytes
  pub is_understood_lem : is_understood id (rest bytes) ≡ true

sight_valued : (due id command : ℕ) (bytes : List ℕ) → sight_at due command bytes ≡ Sight.Understood id → Valued id bytes
unfolding sight_at
sight_valued due id command bytes e =
    let g = good due (rest bytes) (heeding get_code due command bytes) id e in
    record { is_long = status_long get_code due command bytes Status.Good g.is_good; is_understood_lem = rw g.same_id at g.has_value }

pub understood_valued : (v : Viewer) (command : ℕ) (bytes : List ℕ) (id : ℕ) → (viewing v (heard command bytes)).sight ≡ Sight.Understood id → Valued id bytes
unfolding viewing sight_of
understood_valued v command bytes id e = by (allowed v) (is_waiting v) e
  where
    by : (a b : Bool) → (cond a (told (advanced v (heard command bytes)) (cond b (sight_at (id_at v.answered) command bytes) Sight.Nothing)) (stray v)).sight ≡ Sight.Understood id → Valued id bytes
    by true true e = sight_valued (id_at v.answered) id command bytes e
    by true false e = cc
    by false b e = cc
