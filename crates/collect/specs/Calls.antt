-- What each public call answers, for every input. Assumes nothing.
use Rattle.std.specs.Prelude.{ℕ, Bool, cond, List, ltb}
use Rattle.tables.specs.Rules.{factory}
use Rattle.paper.specs.Numbers.{not_allowed}
use Rattle.settings.specs.Columns.{count}
use Rattle.settings.specs.Calls.{setting_at}
use Rattle.tables.specs.declared.Table.{Table}
use Rattle.reply.specs.Events.{Event}
use Rattle.collect.specs.Collecting.{advanced, begun, allowed}
use Rattle.collect.specs.declared.Collector.{Collector}
use Rattle.collect.specs.declared.Stage.{Stage}
use Rattle.collect.specs.declared.Collected.{Collected}

-- how far it is: every setting was answered, or one is due, or was when it stopped
abbrev pub stage_of : ℕ → Bool → Stage
stage_of len stopped =
    cond (ltb len count) (cond stopped (Stage.Stopped (setting_at len)) (Stage.Waiting (setting_at len))) Stage.Done

-- the table is given only when every setting was answered
abbrev pub table_of : ℕ → List ℕ → Table
table_of len numbers = cond (ltb len count) factory (record { numbers = numbers })

-- the collector, how far it is, and what it holds
unfoldable pub good : Collector → Collected
good c = record { collector = c; stage = stage_of c.len c.stopped; answered = c.len; table = table_of c.len c.numbers }

-- 12: "a state handed in comes back as it was, with counts and lengths 0"
unfoldable pub stray : Collector → Collected
stray c = record { collector = c; stage = Stage.Refused not_allowed; answered = 0; table = factory }

unfoldable pub told : Collector → Collected
told c = cond (allowed c) (good c) (stray c)

unfoldable pub starting : Collected
starting = good begun

-- a frame read, a frame refused and no answer alike
unfoldable pub collecting : Collector → Event → Collected
collecting c e = cond (allowed c) (good (advanced c e)) (stray c)
