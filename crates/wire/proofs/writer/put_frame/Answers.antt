-- `wire::writer::put_frame` meets its contract. Assumes nothing.
use native.Mathlib.Omega.{arith}
use Rattle.wire.proofs.Frames.{length_frame, frame_stores}
use Rattle.wire.proofs.writer.put_frame.Goals as goal

pub returns : goal.returns
returns c = (
  rw length_frame (omega arith),
  rw (c.put_byte.ensures, c.check_of.ensures, c.put_bytes.ensures, c.digit_of.ensures)
      (frame_stores _ _ _ (omega arith)),
)
