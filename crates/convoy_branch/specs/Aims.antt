-- Seeking from above: no promise rests on how it is done.
use Rattle.std.specs.Prelude.{◌≡◌, ◌≤◌}
use Rattle.convoy_branch.specs.declared.above.Above.{Above}

-- its best record is one of its scenario
pub record IsAbove (above : Above) : Type 0 where
  pub of_scenario : above.best.scenario ≡ above.origin.now

-- it still seeks in the scenario, and its best record is no lower
pub record HasRisen (old new : Above) : Type 0 where
  pub origin_is : new.origin.now ≡ old.origin.now
  pub above : IsAbove new
  pub rises : old.best.latency ≤ new.best.latency
