-- A scenario with another target is well formed.
use Rattle.std.proofs.Common.{◌<◌, ℕ, length}
use Rattle.convoy_scenario.specs.Room.{HasRoom}
use Rattle.convoy_scenario.specs.Scenario.{GoesTo, Scenario}
use Rattle.convoy_scenario.specs.Targets.{with_target}
use Rattle.convoy_scenario.specs.WellFormed.{IsScenario}

pub with_target_formed : (scenario : Scenario) (m g : ℕ) → IsScenario scenario → m < length scenario.multicasts → GoesTo scenario m g → HasRoom (with_target scenario m g) →
    IsScenario (with_target scenario m g)
with_target_formed scenario m g is known addressed room = record {
  delay_low = is.delay_low;
  delay_high = is.delay_high;
  delay_whole = is.delay_whole;
  tick = is.tick;
  groups_low = is.groups_low;
  groups_high = is.groups_high;
  places_high = is.places_high;
  multicasts_low = is.multicasts_low;
  multicasts_high = is.multicasts_high;
  group_names = is.group_names;
  group_names_differ = is.group_names_differ;
  place_names = is.place_names;
  place_names_differ = is.place_names_differ;
  places_apart = is.places_apart;
  message_names_differ = is.message_names_differ;
  links = is.links;
  ascending = is.ascending;
  messages = is.messages;
  target = known;
  addressed = addressed;
  room = room;
}
