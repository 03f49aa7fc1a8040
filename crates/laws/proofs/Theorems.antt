-- The statements of specs/Laws.antt, proved. Assumes nothing.
use mathlib.Core.Path.{◌∙◌}
use native.Mathlib.Omega.{arith}
use lib.ListN.{length, drop, length-append, length-drop}
use lib.Seq.{drop-append_seam}
use Rattle.laws.specs.Promise.{overlaid}
use Rattle.laws.specs.Laws.{OverlaidIs}
use Rattle.laws.proofs.Promise.{overlaid_front}

pub overlaid_is : OverlaidIs
unfolding overlaid
overlaid_is written buffer =
    record {
      front_is = overlaid_front written buffer;
      rest_is = drop-append_seam written (drop (length written) buffer);
      length_is = λ fits. length-append written (drop (length written) buffer) ∙ rw length-drop (omega arith);
    }
