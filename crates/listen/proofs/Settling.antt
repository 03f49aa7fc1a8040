-- The four ways that a read goes. Assumes nothing.
use mathlib.Core.Path.{◌≡◌, refl}
use mathlib.Core.Bool.{Bool, true, false}
use mathlib.Core.List.{List}
use Prim.Native.Nat.{ℕ, ◌≤◌, ◌<◌}
use borrow.Author.Tests.{lt-ltb, le-ltb, ltb-true, ltb-false}
use lib.Dec.{ltb}
use Rattle.laws.specs.Promise.{Given}
use Rattle.paper.specs.declared.Refusal.{Refusal}
use Rattle.paper.specs.Numbers.{short_buffer, not_allowed}
use Rattle.stream.specs.Calls.{allowed}
use Rattle.listen.specs.declared.Listener.{Listener}
use Rattle.listen.specs.declared.Listened.{Listened}
use Rattle.listen.specs.Hearing.{box_hearing}
use Rattle.listen.specs.Calls.{is_over, refusing, late, wordless, reporting, listening}

module _ (l : Listener) (piece : List ℕ) (time room : ℕ) where
  pub listening_short : room < 35 → listening l piece time room ≡ wordless (refusing l short_buffer)
  unfolding listening
  listening_short h = simp (lt-ltb room 35 h)

  module _ (enough : 35 ≤ room) where
    pub listening_stray : allowed l.held ≡ false → listening l piece time room ≡ wordless (refusing l not_allowed)
    unfolding listening
    listening_stray e = simp (le-ltb room 35 enough, e)

    pub listening_late : allowed l.held ≡ true → is_over l.begun l.asked time ≡ true → listening l piece time room ≡ wordless (late l)
    unfolding listening
    listening_late e f = simp (le-ltb room 35 enough, e, f)

    pub listening_heard : allowed l.held ≡ true → is_over l.begun l.asked time ≡ false → listening l piece time room ≡ reporting l (box_hearing l.held piece room)
    unfolding listening
    listening_heard e f = simp (le-ltb room 35 enough, e, f)

  -- what holds of each way holds of the read
  pub cases : (P : Given Listened → Type 0) → ((r : Refusal) → P (wordless (refusing l r)))
      → (35 ≤ room → allowed l.held ≡ true → is_over l.begun l.asked time ≡ true → P (wordless (late l)))
      → (35 ≤ room → allowed l.held ≡ true → is_over l.begun l.asked time ≡ false → P (reporting l (box_hearing l.held piece room)))
      → P (listening l piece time room)
  cases P refuses ends hears = by _ _ _ refl refl refl
    where
      by : (a b c : Bool) → ltb room 35 ≡ a → allowed l.held ≡ b → is_over l.begun l.asked time ≡ c → P (listening l piece time room)
      by true b c p q r = rw (listening_short (ltb-true room 35 p)) (refuses short_buffer)
      by false false c p q r = rw (listening_stray (ltb-false room 35 p) q) (refuses not_allowed)
      by false true true p q r = rw (listening_late (ltb-false room 35 p) q r) (ends (ltb-false room 35 p) q r)
      by false true false p q r = rw (listening_heard (ltb-false room 35 p) q r) (hears (ltb-false room 35 p) q r)
