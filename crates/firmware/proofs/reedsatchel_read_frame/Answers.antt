-- `firmware::reedsatchel_read_frame` meets its contract. Assumes nothing.
use Rattle.std.proofs.Common.{refl, arith}
use Rattle.firmware.proofs.Packing.{frame_small}
use Rattle.firmware.proofs.reedsatchel_read_frame.Goals as goal

pub overflow_cast-result-in-Ok : goal.overflow_cast-result-in-Ok
overflow_cast-result-in-Ok c = let small = frame_small _ _ c.in-Ok.ensures refl in record { fits = omega arith }

pub overflow_add-result : goal.overflow_add-result
overflow_add-result c = let small = frame_small _ _ c.in-Ok.ensures refl in record { fits = omega arith }
