-- Which messages and groups pairs are of: those of the scenario.
use Rattle.std.proofs.Common.{◌<◌, length}
use Rattle.convoy_scenario.specs.Scenario.{Scenario, message_at, no_message}
use Rattle.convoy_scenario.specs.WellFormed.{IsScenario}
use Rattle.convoy_sim.proofs.Membership.{all-in}
use Rattle.convoy_sim.proofs.Addressed.{in_of_goes, number_of_goes}
use Rattle.convoy_stamps.specs.declared.pair.Pair.{Pair}
use Rattle.convoy_stamps.specs.Reach.{pair_of, IsPair}

pub message_known : (scenario : Scenario) (pair : Pair) → IsPair scenario pair → pair.message < length scenario.multicasts
message_known scenario pair goes = number_of_goes scenario pair.message pair.group goes

pub group_known : (scenario : Scenario) → IsScenario scenario → (pair : Pair) → IsPair scenario pair → pair.group < length scenario.groups
group_known scenario well pair goes =
    all-in (λ k. k < length scenario.groups) pair.group (message_at scenario pair.message).destinations
    (well.messages pair.message no_message (message_known scenario pair goes)).known (in_of_goes scenario pair.message pair.group goes)

pub target_known : (scenario : Scenario) → IsScenario scenario → scenario.target_group < length scenario.groups
target_known scenario well = group_known scenario well (pair_of scenario.target_message scenario.target_group) well.addressed
