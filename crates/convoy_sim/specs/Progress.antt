-- How far messages have come at groups when a run is over.
use Rattle.std.specs.Prelude.{◌≡◌, ℕ, ◌<◌, nat_lt, List, length, slice_index, slice_index_or, Some, None, if◌then◌else◌}
use Rattle.convoy_draft.specs.declared.limits.TheConstants.{MOST_GROUPS}
use Rattle.convoy_scenario.specs.Scenario.{Scenario}
use Rattle.convoy_packets.specs.Assignment.{Schedule}
use Rattle.convoy_sim.specs.declared.progress.Progress.{Progress}
use Rattle.convoy_packets.specs.Order.{place}
use Rattle.convoy_sim.specs.Times.{arrive, settle}
use Rattle.convoy_sim.specs.Stamps.{local_stamp}
use Rattle.convoy_sim.specs.Delivery.{deliver}
use Rattle.convoy_scenario.specs.Scenario.{GoesTo}
use Rattle.convoy_sim.specs.StampTables.{StampTable}
use Rattle.convoy_sim.specs.Deliveries.{TellsAhead}

-- nothing has come
abbrev pub no_progress : Progress
no_progress = record { came = None; stamp = 0; committed = None; delivered = None }

-- how far message m has come at group g
abbrev pub progress_at : List Progress → ℕ → ℕ → Progress
progress_at progress m g = slice_index_or progress (place m g) no_progress

-- the tables have the stamps of a whole run: where a message goes and nowhere else
pub record TellsAll (scenario : Scenario) (schedule : Schedule) (table : StampTable) : Type 0 where
  pub goes : (m g : ℕ) → m < length scenario.multicasts → g < MOST_GROUPS → 0 < slice_index table.times (place m g) → GoesTo scenario m g
  pub times : (m g : ℕ) → GoesTo scenario m g → slice_index table.times (place m g) ≡ (local_stamp scenario schedule m g).time
  pub given : (m g : ℕ) → GoesTo scenario m g → 0 < slice_index table.times (place m g)
  pub ahead : (m g : ℕ) → GoesTo scenario m g → TellsAhead scenario schedule m g table

-- what these tables tell of message m at group g
abbrev pub progress_told : Scenario → Schedule → StampTable → ℕ → ℕ → Progress
progress_told scenario schedule table m g =
    let time = slice_index table.times (place m g) in
    if nat_lt 0 time
    then record {
      came = Some (arrive scenario schedule m g);
      stamp = time;
      committed = Some (settle scenario schedule m g);
      delivered = Some (deliver scenario schedule m g);
    }
    else no_progress
