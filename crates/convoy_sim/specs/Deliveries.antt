-- What tables of stamps tell of a delivery.
use Rattle.std.specs.Prelude.{◌≡◌, ℕ, ◌<◌, ◌&&◌, length, slice_index_or}
use Rattle.convoy_scenario.specs.Scenario.{Scenario, message_at, is_addressed}
use Rattle.convoy_packets.specs.Assignment.{Schedule}
use Rattle.convoy_sim.specs.Stamps.{no_stamp, is_less, local_stamp, final_stamp}
use Rattle.convoy_sim.specs.StampTables.{StampTable, is_ahead}

-- the tables have the final stamp of message m, and tell which messages are ahead of it at group g
pub record TellsAhead (scenario : Scenario) (schedule : Schedule) (m g : ℕ) (table : StampTable) : Type 0 where
  pub final : slice_index_or table.finals m no_stamp ≡ final_stamp scenario schedule m
  pub ahead : (n : ℕ) → n < length scenario.multicasts
      → is_ahead table g (final_stamp scenario schedule m) n
      ≡ (is_addressed (message_at scenario n) g && is_less (local_stamp scenario schedule n g) (final_stamp scenario schedule m))
