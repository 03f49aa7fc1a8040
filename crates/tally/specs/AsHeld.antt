-- What the program asks of a tally, in words that its functions cite. Assumes nothing.
use Rattle.std.specs.Prelude.{◌≤◌}
use Rattle.tally.specs.Results.{most}
use Rattle.tally.specs.declared.Tally.{Tally}

-- no count is over a million
pub record Within (t : Tally) : Type 0 where
  pub done_few : t.done ≤ most
  pub equal_few : t.equal ≤ most
  pub stopped_few : t.stopped ≤ most
  pub silent_few : t.silent ≤ most
  pub unbegun_few : t.unbegun ≤ most
  pub confirmed_few : t.confirmed ≤ most
  pub due_few : t.due ≤ most
