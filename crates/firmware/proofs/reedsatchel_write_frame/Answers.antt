-- `firmware::reedsatchel_write_frame` meets its contract. Assumes nothing.
use Rattle.std.proofs.Common.{refl, arith}
use Rattle.firmware.proofs.Packing.{frame_short}
use Rattle.firmware.proofs.reedsatchel_write_frame.Goals as goal

pub overflow_cast-result : goal.overflow_cast-result
overflow_cast-result c = record { fits = omega (arith, frame_short _ _ _ c.in-Ok.ensures refl) }
