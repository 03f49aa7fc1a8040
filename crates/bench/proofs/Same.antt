-- Two answers that meet a call's own contract are the same, and so are the buffers that they leave. `Post` is what the call ensures, as
-- its source states it. Assumes nothing.
use mathlib.Core.Path.{◌≡◌, sym, ◌∙◌}
use mathlib.Core.List.{List}
use Prim.Native.Nat.{ℕ}
use lib.IntN.{ℤ}
use denote.Ref.{Bor}
use denote.MutBor.{MutBor}
use contract.Lifetimes.{Lfts}
use Rattle.laws.proofs.Promise.{gives_same}
use Rattle.bench.proofs.reedsatchel_bench_stream.Reads as stream
use Rattle.bench.proofs.reedsatchel_bench_board.Reads as board

pub stream_same : (κs : Lfts 3) (bytes sizes : Bor (List ℕ)) (into left left' : MutBor (List ℕ)) (r r' : ℕ)
    → stream.Post κs (bytes, (sizes, (into, tt))) r (bytes, (sizes, (left, tt)))
    → stream.Post κs (bytes, (sizes, (into, tt))) r' (bytes, (sizes, (left', tt))) → (r ≡ r') × (left.now ≡ left'.now)
stream_same κs bytes sizes into left left' r r' met met' = (met.counted ∙ sym met'.counted, met.left ∙ sym met'.left)

module _ (κs : Lfts 4) (product version : ℕ) (serial : Bor (List ℕ)) (voltage current fine consumed charge : ℤ) (bytes sizes : Bor (List ℕ)) (out left left' : MutBor (List ℕ)) where
  pub board_same : (r r' : ℕ)
      → board.Post κs (product, (version, (serial, (voltage, (current, (fine, (consumed, (charge, (bytes, (sizes, (out, tt))))))))))) r
      (product, (version, (serial, (voltage, (current, (fine, (consumed, (charge, (bytes, (sizes, (left, tt)))))))))))
      → board.Post κs (product, (version, (serial, (voltage, (current, (fine, (consumed, (charge, (bytes, (sizes, (out, tt))))))))))) r'
      (product, (version, (serial, (voltage, (current, (fine, (consumed, (charge, (bytes, (sizes, (left', tt)))))))))))
      → (r ≡ r') × (left.now ≡ left'.now)
  board_same r r' met met' = gives_same met met'
