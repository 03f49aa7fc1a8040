-- Two answers that meet a call's own contract are the same. `Post` is what the call ensures, as its source states it. Assumes nothing.
use mathlib.Core.Path.{◌≡◌}
use mathlib.Core.List.{List}
use Prim.Native.Nat.{ℕ}
use denote.Ref.{Bor}
use contract.Lifetimes.{Lfts}
use Rattle.laws.proofs.Promise.{equal_same}
use Rattle.reply.specs.Answers.{Parsed, Heeded, Showed}
use Rattle.reply.proofs.read.Reads as read
use Rattle.reply.proofs.heed.Reads as heed
use Rattle.reply.proofs.show.Reads as show

pub read_same : (κs : Lfts 1) (command : ℕ) (bytes : Bor (List ℕ)) (r r' : Parsed) → read.Post κs (command, (bytes, tt)) r (command, (bytes, tt))
    → read.Post κs (command, (bytes, tt)) r' (command, (bytes, tt)) → r ≡ r'
read_same κs command bytes r r' met met' = equal_same met met'

pub heed_same : (κs : Lfts 1) (code id command : ℕ) (bytes : Bor (List ℕ)) (r r' : Heeded)
    → heed.Post κs (code, (id, (command, (bytes, tt)))) r (code, (id, (command, (bytes, tt))))
    → heed.Post κs (code, (id, (command, (bytes, tt)))) r' (code, (id, (command, (bytes, tt)))) → r ≡ r'
heed_same κs code id command bytes r r' met met' = equal_same met met'

pub show_same : (κs : Lfts 1) (id : ℕ) (value : Bor (List ℕ)) (r r' : Showed) → show.Post κs (id, (value, tt)) r (id, (value, tt))
    → show.Post κs (id, (value, tt)) r' (id, (value, tt)) → r ≡ r'
show_same κs id value r r' met met' = equal_same met met'
