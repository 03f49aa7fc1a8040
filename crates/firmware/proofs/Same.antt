-- Two answers that meet a call's own contract are the same, and so are the buffers that they leave. `Post` is what the call ensures, as
-- its source states it. Assumes nothing.
use mathlib.Core.Path.{◌≡◌}
use mathlib.Core.List.{List}
use Prim.Native.Nat.{ℕ}
use denote.Ref.{Bor}
use denote.MutBor.{MutBor}
use contract.Lifetimes.{Lfts}
use Rattle.laws.proofs.Promise.{gives_same, equal_same}
use Rattle.firmware.proofs.reedsatchel_write_frame.Reads as write-frame
use Rattle.firmware.proofs.reedsatchel_read_frame.Reads as read_frame
use Rattle.firmware.proofs.reedsatchel_nearest.Reads as nearest

module _ (κs : Lfts 2) (bytes : Bor (List ℕ)) (buffer left left' : MutBor (List ℕ)) (r r' : ℕ) where
  pub write_frame_same : (command : ℕ)
      → write-frame.Post κs (command, (bytes, (buffer, tt))) r (command, (bytes, (left, tt)))
      → write-frame.Post κs (command, (bytes, (buffer, tt))) r' (command, (bytes, (left', tt))) → (r ≡ r') × (left.now ≡ left'.now)
  write_frame_same command met met' = gives_same met met'

  pub read_frame_same :
      read_frame.Post κs (bytes, (buffer, tt)) r (bytes, (left, tt)) → read_frame.Post κs (bytes, (buffer, tt)) r' (bytes, (left', tt))
      → (r ≡ r') × (left.now ≡ left'.now)
  read_frame_same met met' = gives_same met met'

pub nearest_same : (id wished partner r r' : ℕ)
    → nearest.Post tt (id, (wished, (partner, tt))) r (id, (wished, (partner, tt)))
    → nearest.Post tt (id, (wished, (partner, tt))) r' (id, (wished, (partner, tt))) → r ≡ r'
nearest_same id wished partner r r' met met' = equal_same met met'
