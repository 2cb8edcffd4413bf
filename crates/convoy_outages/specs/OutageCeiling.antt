-- The ceiling through outages: a number that no latency exceeds in traffic that keeps the links but for outages.
use Rattle.std.specs.Prelude.{ℕ, ◌+◌, ◌*◌, ◌≤◌, map, Option, option_map, IfSome}
use Rattle.convoy_scenario.specs.Scenario.{Scenario, GoesTo, message_at}
use Rattle.convoy_packets.specs.Assignment.{Schedule}
use Rattle.convoy_sim.specs.Times.{greatest, issue}
use Rattle.convoy_sim.specs.Delivery.{addressed_to, deliver, latency_at}
use Rattle.convoy_ceiling.specs.Ceiling.{IsOfKind, longest_to_commit}
use Rattle.convoy_outages.specs.Outages.{KeepsLinksBut, Outages, silent_ticks}

-- the longest from the issue of any message that goes to group g to its commit there
abbrev pub slowest_to_commit : Scenario → ℕ → ℕ
slowest_to_commit scenario g = greatest (map (λ n. longest_to_commit scenario n g) (addressed_to scenario g))

-- the most ticks of work from the issue of message m to its delivery at group g: the longest to its commit there, and then that of a message which was issued by then
unfoldable pub worked_ceiling_at : Scenario → ℕ → ℕ → ℕ
worked_ceiling_at scenario m g = longest_to_commit scenario m g + slowest_to_commit scenario g

-- the ceiling of message m at group g through outages of so many ticks in all
abbrev pub outage_ceiling_at : Scenario → ℕ → ℕ → ℕ → ℕ
outage_ceiling_at scenario span m g = worked_ceiling_at scenario m g + span

-- where outages last so many ticks in all from the issue of a message of the kind of n to its delivery at group g, it has no greater latency there, in any traffic of the scenario's kinds that keeps the links but for them, and in ticks however fine
abbrev pub IsUpperThrough : ℕ → Scenario → ℕ → ℕ → ℕ → Type 0
IsUpperThrough span scenario n g latency =
    (down : Outages) (times : ℕ) (traffic : Scenario) (schedule : Schedule) → KeepsLinksBut down times scenario traffic schedule
    → (m : ℕ) → IsOfKind (message_at scenario n) (message_at traffic m) → GoesTo traffic m g
    → silent_ticks down (issue traffic schedule m) (deliver traffic schedule m g) ≤ times * span
    → latency_at traffic schedule m g ≤ times * latency

-- the ceiling through outages, where these are asked for
abbrev pub ceiling_through : Option ℕ → Scenario → ℕ → ℕ → Option ℕ
ceiling_through span scenario m g = option_map (λ ticks. outage_ceiling_at scenario ticks m g) span

-- it is one through outages of that length
abbrev pub IsCeilingThrough : Option ℕ → Scenario → ℕ → ℕ → Type 0
IsCeilingThrough span scenario m g = IfSome span (λ ticks. IsUpperThrough ticks scenario m g (outage_ceiling_at scenario ticks m g))
