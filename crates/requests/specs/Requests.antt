-- What is asked of a board about a setting, as bytes on the serial line: an id, flags that are 0, and the value in the setting's width.
-- Assumes nothing.
use Rattle.std.specs.Prelude.{ℕ, List, []}
use Rattle.wire.specs.Frame.{frame}
use Rattle.endian.specs.Numbers.{little, said}
use Rattle.settings.specs.Columns.{id_at, width_at}
use Rattle.paper.specs.Numbers.{get_code, set_code}

-- a Get of an id
abbrev pub get_request : ℕ → List ℕ
get_request id = frame get_code (said id 0 [])

-- a Set of the setting at place k to a number
abbrev pub set_data : ℕ → ℕ → List ℕ
set_data k n = said (id_at k) 0 (little (width_at k) n)

abbrev pub set_request : ℕ → ℕ → List ℕ
set_request k n = frame set_code (set_data k n)
