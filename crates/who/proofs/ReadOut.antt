-- Read-only values: they are bytes, and few enough for a reply. Assumes nothing.
use mathlib.Core.Path.{◌≡◌, refl, sym, ap, subst, ◌∙◌}
use mathlib.Core.Bool.{Bool, true, false, cond, not, ◌||◌}
use mathlib.Core.List.{List, [], ◌∷◌, ◌++◌, append-nil}
use mathlib.Core.Option.{Option, none, some}
use Prim.Native.Nat.{ℕ, ◌+◌, ◌≤◌, ◌<◌}
use native.Mathlib.Omega.{arith}
use borrow.Author.Tests.{lt-ltb, le-ltb, ltb-true, ltb-false, leb-true, eqb-true}
use lib.Dec.{leb, ltb, eqb}
use lib.ListN.{length, take, length-append, length-take}
use Rattle.laws.specs.Lists.{every, byte}
use Rattle.laws.proofs.Bools.{and_left, and_right, both, pick}
use Rattle.laws.proofs.Lists.{every_append}
use Rattle.laws.proofs.Fronts.{front_is}
use Rattle.endian.specs.Numbers.{little}
use Rattle.endian.proofs.Little.{length_little, bytes_little}
use Rattle.spans.specs.Few.{few}
use Rattle.who.specs.Parts.{printed, serial_of, identity_allowed}
use Rattle.who.specs.Values.{product_value, serial_value, read_only, read_only_ids, among}
use Rattle.paper.specs.Numbers.{not_allowed}
use Rattle.who.specs.Calls.{looked_of, reading_out}
use Rattle.who.specs.Laws.{Small, small_none, small_some, ValuesFit, NothingReadsZero, product, serial_under, serial_full, version, voltage, current, fine, consumed, charge, HeldIsReadOut, Holds, ReadOutIsHeld, is_some, EightAreReadOut, refusal_of, ReadOnlyGivenWhen, value_given, RefusedHasNoValue, ReadOnlyAnswersHeld}
use Rattle.who.specs.declared.Identity.{Identity}
use Rattle.who.specs.declared.Readings.{Readings}
use Rattle.std.proofs.Common.{Ok, Err}
use Rattle.who.specs.Answers.{Value}
use Rattle.who.proofs.Serials.{serial_within, serial_printed}

small_little : (width n : ℕ) → width ≤ 32 → Small (some (little width n))
small_little width n h = small_some {v = little width n} (rw (length_little width n) h) (bytes_little width n)

pub looked_short : (o : Option (List ℕ)) → Small o → (value : Value) → looked_of o ≡ Ok value → value.len ≤ 32
unfolding looked_of few
looked_short none small_none value e = let z : ◌≡◌ {A = ℕ} 0 1 = cc in absurd (omega arith)
looked_short (some v) (small_some short bytes) value e = let is : few 32 v ≡ value = cc in subst (λ (w : Value). w.len ≤ 32) is short

-- the call, by whether the identity is allowed
module _ (identity : Identity) (readings : Readings) (id : ℕ) where
  pub read_refused : identity_allowed identity ≡ false → Err not_allowed ≡ reading_out identity readings id
  unfolding reading_out
  read_refused e = rw e

  pub read_given : identity_allowed identity ≡ true → looked_of (read_only identity readings id) ≡ reading_out identity readings id
  unfolding reading_out
  read_given e = rw e

printed_bytes_lem : (l : List ℕ) → every printed l ≡ true → every byte l ≡ true
printed_bytes_lem [] e = refl
printed_bytes_lem (b ∷ bs) e =
    let most = leb-true b _ (and_right (leb 0x20 b) _ (and_left (printed b) (every printed bs) e)) in
    let less : b < 256 = omega arith in
    both _ _ (lt-ltb b 256 less) (printed_bytes_lem bs (and_right (printed b) _ e))

take_short : (n : ℕ) (l : List ℕ) → length (take n l) ≤ n
take_short n l = rw (length-take n l) (omega arith)

small_product : (identity : Identity) → Small (some (product_value identity))
small_product identity =
    small_some (leb-true 4 32 refl)
    (every_append byte (little 2 identity.product) (0xFF ∷ []) ∙ both _ _ (bytes_little 2 identity.product) refl)

module _ (identity : Identity) (ok : identity_allowed identity ≡ true) where
  serial_short : length (serial_of identity) ≤ identity.serial.len
  unfolding serial_of
  serial_short = take_short identity.serial.len identity.serial.bytes

  serial_bytes : every byte (serial_of identity) ≡ true
  unfolding identity_allowed
  serial_bytes = printed_bytes_lem (serial_of identity) (serial_printed identity ok)

  -- the serial, and a zero byte after it where there is room for one
  small_behind : (rest : List ℕ) → length rest + identity.serial.len ≤ 32 → every byte rest ≡ true → Small (some (serial_of identity ++ rest))
  small_behind rest h bytes =
      let short : length (serial_of identity) ≤ identity.serial.len = serial_short in
      small_some {v = serial_of identity ++ rest} (rw (length-append (serial_of identity) rest) (omega arith))
      (every_append byte (serial_of identity) rest ∙ both _ _ serial_bytes bytes)

  small_serial : Small (some (serial_value identity))
  unfolding serial_value
  small_serial = by (ltb identity.serial.len 32) refl
    where
      by : (b : Bool) → ltb identity.serial.len 32 ≡ b → Small (some (serial_of identity ++ cond b (0 ∷ []) []))
      by true h = let less : identity.serial.len < 32 = ltb-true _ _ h in small_behind (0 ∷ []) (omega arith) refl
      by false h = let most : identity.serial.len ≤ 32 = serial_within identity ok in small_behind [] (omega arith) refl

  small_read : (readings : Readings) (id : ℕ) → Small (read_only identity readings id)
  unfolding read_only
  small_read readings id =
      let two : (n : ℕ) → Small (some (little 2 n)) = λ n. small_little 2 n (leb-true 2 32 refl) in
      let four : (n : ℕ) → Small (some (little 4 n)) = λ n. small_little 4 n (leb-true 4 32 refl) in
      pick Small (eqb id 0x0100) (small_product identity)
      (pick Small (eqb id 0x010A) small_serial
      (pick Small (eqb id 0xEEF9) (two _)
      (pick Small (eqb id 0xED8D) (two _)
      (pick Small (eqb id 0xED8F) (two _)
      (pick Small (eqb id 0xED8C) (four _)
      (pick Small (eqb id 0xEEFF) (four _)
      (pick Small (eqb id 0x0FFF) (two _) small_none)))))))

pub values_small : ValuesFit
values_small identity readings id ok = small_read identity ok readings id

-- a board that has measured nothing reads out zeros
pub nothing_zero : NothingReadsZero
unfolding read_only
nothing_zero identity = (refl, refl, refl, refl, refl)

-- id by id
pub held_out : HeldIsReadOut
unfolding read_only serial_value
held_out identity readings id value product = refl
held_out identity readings id value (serial_under h) = rw (lt-ltb identity.serial.len 32 h)
held_out identity readings id value (serial_full e) = rw (le-ltb identity.serial.len 32 (omega arith)) (ap some (append-nil (serial_of identity)))
held_out identity readings id value version = refl
held_out identity readings id value voltage = refl
held_out identity readings id value current = refl
held_out identity readings id value fine = refl
held_out identity readings id value consumed = refl
held_out identity readings id value charge = refl

module _ (identity : Identity) (readings : Readings) (id : ℕ) where
  -- what is found is held, where the first that is found is and so is what is found after it
  abbrev Finds : Option (List ℕ) → Type 0
  Finds o = (value : List ℕ) → o ≡ some value → Holds identity readings id value

  one_held : (at : ℕ) (v : List ℕ) (o : Option (List ℕ)) → Holds identity readings at v → Finds o → Finds (cond (eqb id at) (some v) o)
  one_held at v o held later = by (eqb id at) refl
    where
      by : (b : Bool) → eqb id at ≡ b → Finds (cond b (some v) o)
      by true e value found =
          let is : v ≡ value = cc in
          subst (λ (l : List ℕ). Holds identity readings id l) is (subst (λ (i : ℕ). Holds identity readings i v) (sym (eqb-true id at e)) held)
      by false e value found = later value found

  serial_held : identity_allowed identity ≡ true → Holds identity readings 0x010A (serial_value identity)
  unfolding serial_value
  serial_held ok = by (ltb identity.serial.len 32) refl
    where
      by : (b : Bool) → ltb identity.serial.len 32 ≡ b → Holds identity readings 0x010A (serial_of identity ++ cond b (0 ∷ []) [])
      by true e = serial_under (ltb-true identity.serial.len 32 e)
      by false e =
          let most : identity.serial.len ≤ 32 = serial_within identity ok in
          let least : 32 ≤ identity.serial.len = ltb-false identity.serial.len 32 e in
          rw (append-nil (serial_of identity)) (serial_full (omega arith))

  finds : identity_allowed identity ≡ true → Finds (read_only identity readings id)
  unfolding read_only
  finds ok =
      one_held 0x0100 _ _ product (one_held 0x010A _ _ (serial_held ok) (one_held 0xEEF9 _ _ version (one_held 0xED8D _ _ voltage (one_held 0xED8F _ _ current
      (one_held 0xED8C _ _ fine (one_held 0xEEFF _ _ consumed (one_held 0x0FFF _ none charge (λ value e. let z : ◌≡◌ {A = ℕ} 0 1 = cc in absurd (omega arith)))))))))

pub out_held : ReadOutIsHeld
out_held identity readings id value ok e = finds identity readings id ok value e

found_or : (b : Bool) (v : List ℕ) (o : Option (List ℕ)) {rest : Bool} → is_some o ≡ rest → is_some (cond b (some v) o) ≡ (b || rest)
found_or true v o e = refl
found_or false v o e = e

pub eight_out : EightAreReadOut
unfolding read_only
eight_out identity readings id =
    found_or (eqb id 0x0100) _ _ (found_or (eqb id 0x010A) _ _ (found_or (eqb id 0xEEF9) _ _ (found_or (eqb id 0xED8D) _ _ (found_or (eqb id 0xED8F) _ _
    (found_or (eqb id 0xED8C) _ _ (found_or (eqb id 0xEEFF) _ _ (found_or (eqb id 0x0FFF) _ none refl)))))))

-- the call's refusals
found_refusal : (o : Option (List ℕ)) → refusal_of (looked_of o) ≡ cond (not (is_some o)) (some 7) none
unfolding looked_of
found_refusal none = refl
found_refusal (some v) = refl

pub read_only_given : ReadOnlyGivenWhen
unfolding reading_out
read_only_given identity readings id = by (identity_allowed identity)
  where
    by : (ok : Bool)
        → refusal_of (cond ok (looked_of (read_only identity readings id)) (Err not_allowed))
        ≡ cond (not ok) (some 12) (cond (not (among id read_only_ids)) (some 7) none)
    by false = refl
    by true = found_refusal (read_only identity readings id) ∙ ap (λ (b : Bool). cond (not b) (some 7) none) (eight_out identity readings id)

none_given : (o : Option (List ℕ)) → is_some o ≡ false → value_given (looked_of o) ≡ none
unfolding looked_of
none_given none e = refl
none_given (some v) e = let impossible : ⊥ = cc in absurd impossible

pub refused_silent : RefusedHasNoValue
unfolding reading_out
refused_silent identity readings id = by (identity_allowed identity) (among id read_only_ids) (eight_out identity readings id)
  where
    by : (ok here : Bool) → is_some (read_only identity readings id) ≡ here → (not ok || not here) ≡ true
        → value_given (cond ok (looked_of (read_only identity readings id)) (Err not_allowed)) ≡ none
    by false here f e = refl
    by true false f e = none_given (read_only identity readings id) f
    by true true f e = let impossible : ⊥ = cc in absurd impossible

-- and its answer
pub read_only_held : ReadOnlyAnswersHeld
unfolding looked_of few
read_only_held identity readings id value ok holds =
    sym (read_given identity readings id ok)
    ∙ ap looked_of (held_out identity readings id value holds)
    ∙ ap (λ (bytes : List ℕ). Ok (record { len = length value; bytes = bytes })) (front_is 32 value)
