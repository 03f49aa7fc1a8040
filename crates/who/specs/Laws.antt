-- What is proved of the definitions, as statements to compare with the papers. Each is proved under its name in proofs/Theorems.antt.
-- Assumes nothing.
use Rattle.std.specs.Prelude.{ℕ, ◌-◌, ◌/◌, ◌%◌, ◌≤◌, ◌<◌, ◌≡◌, ◌↔◌, Bool, true, false, not, ◌&&◌, ◌||◌, List, [], ◌∷◌, ◌++◌, length, replicate, leb, Result, Ok, Err}
use Rattle.std.proofs.Math.Option.{Option, none, some}
use Rattle.paper.specs.Numbers as paper
use Rattle.laws.specs.Lists.{every, byte}
use Rattle.laws.specs.Refusals.{row, first_of}
use Rattle.paper.specs.Numbers.{most_serial}
use Rattle.who.specs.Parts.{identity_of, serial_of, identity_allowed, no_readings}
use Rattle.endian.specs.Numbers.{little, complement}
use Rattle.who.specs.Values.{read_only, read_only_ids, among}
use Rattle.who.specs.Calls.{naming, reading_out}
use Rattle.who.specs.declared.Identity.{Identity}
use Rattle.who.specs.declared.Readings.{Readings}
use Rattle.who.specs.Answers.{Value, Looked}
use Rattle.paper.specs.declared.Refusal.{Refusal}

-- 1. Every identity that is named is allowed, an accepted and a refused one; the serial of an accepted one is the one that was given.
abbrev pub NamedIsAllowed : Type 0
NamedIsAllowed = (product version : ℕ) (serial : List ℕ) → identity_allowed (naming product version serial).identity ≡ true

abbrev pub SerialIsKept : Type 0
SerialIsKept = (product version : ℕ) (serial : List ℕ) → serial_of (identity_of product version serial) ≡ serial

-- 12 is given exactly where the serial is not "0 to 32 bytes of 0x20..0x7E".
abbrev pub is_serial : List ℕ → Bool
is_serial serial = leb (length serial) 32 && every (λ b. leb 0x20 b && leb b 0x7E) serial

abbrev pub refusal_of : {A : Type 0} → Result A Refusal → Option ℕ
refusal_of (Ok given) = none
refusal_of (Err refusal) = some (paper.number_of refusal)

abbrev pub NamedGivenWhen : Type 0
NamedGivenWhen = (product version : ℕ) (serial : List ℕ) → refusal_of (naming product version serial).verdict ≡ first_of (row 12 (not (is_serial serial)) ∷ [])

-- What was given is held where it is accepted; else "product and version 0, an empty serial".
pub record Names (product version : ℕ) (serial : List ℕ) (identity : Identity) : Type 0 where
  pub product_is : identity.product ≡ product
  pub version_is : identity.version ≡ version
  pub serial_is : serial_of identity ≡ serial

pub record NamedHoldsIt : Type 0 where
  pub accepted : (product version : ℕ) (serial : List ℕ) → is_serial serial ≡ true → Names product version serial (naming product version serial).identity
  pub refused : (product version : ℕ) (serial : List ℕ) → is_serial serial ≡ false → Names 0 0 [] (naming product version serial).identity

-- An identity is allowed exactly where it is one that is accepted with such a serial. (The array has 32 bytes in every value of the type.)
abbrev pub AllowedIsNamed : Type 0
AllowedIsNamed =
    (identity : Identity) → length identity.serial.bytes ≡ 32
    → (identity_allowed identity ≡ true)
    ↔ ((serial : List ℕ) × (is_serial serial ≡ true) × ((naming identity.product identity.version serial).identity ≡ identity))

-- 2. Every read-only value has at most 32 bytes.
pub data Small : Option (List ℕ) → Type 0 where
  small_none : Small none
  small_some : {v : List ℕ} → length v ≤ most_serial → every byte v ≡ true → Small (some v)

abbrev pub ValuesFit : Type 0
ValuesFit = (identity : Identity) (readings : Readings) (id : ℕ) → identity_allowed identity ≡ true → Small (read_only identity readings id)

-- 3. A board that has measured nothing reads out zeros, each reading in its width.
abbrev pub NothingReadsZero : Type 0
NothingReadsZero =
    (identity : Identity)
    → (read_only identity no_readings paper.voltage_id ≡ some (replicate 2 0))
    × (read_only identity no_readings paper.current_id ≡ some (replicate 2 0))
    × (read_only identity no_readings paper.fine_id ≡ some (replicate 4 0))
    × (read_only identity no_readings paper.consumed_id ≡ some (replicate 4 0))
    × (read_only identity no_readings paper.charge_id ≡ some (replicate 2 0))

-- 4. Document 01, "Read-only values", id by id: what each of the eight holds, as bytes, and that it is what is read out; and no other id is
-- read out.
pub data Holds (identity : Identity) (readings : Readings) : ℕ → List ℕ → Type 0 where
  -- "0100: four bytes 00, product low, product high, FF"
  product : Holds identity readings 0x0100 (0x00 ∷ (identity.product % 256) ∷ (identity.product / 256 % 256) ∷ 0xFF ∷ [])
  -- "010A: serial, 0 to 32 bytes [..], one zero byte after it if under 32"
  serial_under : identity.serial.len < 32 → Holds identity readings 0x010A (serial_of identity ++ 0 ∷ [])
  serial_full : identity.serial.len ≡ 32 → Holds identity readings 0x010A (serial_of identity)
  -- "EEF9: version, 2 bytes"
  version : Holds identity readings 0xEEF9 (little 2 identity.version)
  -- "ED8D signed 16, 0.01 V; ED8F signed 16, 0.1 A; ED8C signed 32, 0.001 A; EEFF signed 32, 0.1 Ah; 0FFF unsigned 16, 0.01 %"; "Negative
  -- ones go out in two's complement."
  voltage : Holds identity readings 0xED8D (little 2 (complement 2 readings.voltage))
  current : Holds identity readings 0xED8F (little 2 (complement 2 readings.current))
  fine : Holds identity readings 0xED8C (little 4 (complement 4 readings.fine))
  consumed : Holds identity readings 0xEEFF (little 4 (complement 4 readings.consumed))
  charge : Holds identity readings 0x0FFF (little 2 readings.charge)

abbrev pub HeldIsReadOut : Type 0
HeldIsReadOut =
    (identity : Identity) (readings : Readings) (id : ℕ) (value : List ℕ) → Holds identity readings id value → read_only identity readings id ≡ some value

abbrev pub ReadOutIsHeld : Type 0
ReadOutIsHeld =
    (identity : Identity) (readings : Readings) (id : ℕ) (value : List ℕ) → identity_allowed identity ≡ true
    → read_only identity readings id ≡ some value → Holds identity readings id value

abbrev pub is_some : Option (List ℕ) → Bool
is_some none = false
is_some (some value) = true

abbrev pub EightAreReadOut : Type 0
EightAreReadOut = (identity : Identity) (readings : Readings) (id : ℕ) → is_some (read_only identity readings id) ≡ among id read_only_ids

-- 5. The call: 12 for an identity that is not allowed, then 7 for an id that is none of the eight. "Where no other result of a refusal is
-- stated, it is the number alone": there is no value then.
abbrev pub ReadOnlyGivenWhen : Type 0
ReadOnlyGivenWhen =
    (identity : Identity) (readings : Readings) (id : ℕ)
    → refusal_of (reading_out identity readings id)
    ≡ first_of (row 12 (not (identity_allowed identity)) ∷ row 7 (not (among id read_only_ids)) ∷ [])

abbrev pub value_given : Looked → Option Value
value_given (Ok value) = some value
value_given (Err refusal) = none

abbrev pub RefusedHasNoValue : Type 0
RefusedHasNoValue =
    (identity : Identity) (readings : Readings) (id : ℕ) → (not (identity_allowed identity) || not (among id read_only_ids)) ≡ true
    → value_given (reading_out identity readings id) ≡ none

-- Otherwise the value is what document 01 says that the id holds, at the front of the array, with zeros after it.
abbrev pub holding : List ℕ → Looked
holding value = Ok (record { len = length value; bytes = value ++ replicate (32 - length value) 0 })

abbrev pub ReadOnlyAnswersHeld : Type 0
ReadOnlyAnswersHeld =
    (identity : Identity) (readings : Readings) (id : ℕ) (value : List ℕ) → identity_allowed identity ≡ true → Holds identity readings id value
    → reading_out identity readings id ≡ holding value
