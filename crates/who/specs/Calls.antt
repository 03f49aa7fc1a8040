-- What each public call answers, for every input. Assumes nothing.
use Rattle.std.specs.Prelude.{ℕ, cond, List, Ok, Err}
use Rattle.std.proofs.Math.Option.{Option, none, some}
use Rattle.paper.specs.Numbers.{most_serial, unknown_id, not_allowed}
use Rattle.spans.specs.Few.{few}
use Rattle.who.specs.Parts.{serial_fits, identity_of, no_identity, identity_allowed}
use Rattle.who.specs.Values.{read_only}
use Rattle.who.specs.declared.Identity.{Identity}
use Rattle.who.specs.declared.Readings.{Readings}
use Rattle.who.specs.declared.Named.{Named}
use Rattle.who.specs.Answers.{Looked}

-- "A refused start (12) returns product and version 0, an empty serial"
unfoldable pub naming : ℕ → ℕ → List ℕ → Named
naming product version serial =
    cond (serial_fits serial)
    (record { identity = identity_of product version serial; verdict = Ok tt })
    (record { identity = no_identity; verdict = Err not_allowed })

-- The value of a read-only id: 12 for an identity that is not allowed, then 7 for an id that is not read-only.
unfoldable pub looked_of : Option (List ℕ) → Looked
looked_of (some bytes) = Ok (few most_serial bytes)
looked_of none = Err unknown_id

unfoldable pub reading_out : Identity → Readings → ℕ → Looked
reading_out identity readings id = cond (identity_allowed identity) (looked_of (read_only identity readings id)) (Err not_allowed)
