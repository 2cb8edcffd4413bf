-- What is proved of shares of runs. Each is the one clause of the function of its name in the crate's module `outside_laws`.
use Rattle.std.specs.Prelude.{◌≡◌, ℕ, ◌*◌, ◌≤◌, nat_le, nat_lt, Bool, ◌&&◌, not, List, length, count_by, slice_index, All}
use Rattle.std.specs.List.{enumerate_from, list_any}
use Rattle.convoy_draft.specs.declared.time.Time.TheVariants.{Real}
use Rattle.convoy_scenario.specs.Scenario.{Scenario}
use Rattle.convoy_scenario.specs.WellFormed.{IsScenario}
use Rattle.convoy_packets.specs.declared.packet.Packet.{Packet}
use Rattle.convoy_packets.specs.Assignment.{Schedule, range_of}
use Rattle.convoy_packets.specs.Order.{IsOrder}
use Rattle.convoy_packets.specs.Packets.{packets_of}
use Rattle.convoy_sim.specs.Delivery.{latency_of}
use Rattle.convoy_sim.specs.Greatest.{IsUpper}
use Rattle.convoy_laws.specs.FinerTicks.{IsFiner}
use Rattle.convoy_toml.specs.declared.share.TheConstants.{WHOLE_SHARE}
use Rattle.convoy_toml.specs.Outside.{LinkShare}
use Rattle.convoy_outside.specs.Sums.{outside_of, share_of}

-- at most so many billionths of the runs pass the test
abbrev pub IsShareOf : {R : Type 0} → ℕ → (R → Bool) → List R → Type 0
IsShareOf billionths test runs = WHOLE_SHARE * count_by test runs ≤ billionths * length runs

-- Of these runs, each of which tells of each packet whether it leaves its range, no packet of the scenario does so in more than its share.
abbrev pub KeepShares : List LinkShare → Scenario → List (Packet → Bool) → Type 0
KeepShares shares scenario runs =
    All (λ packet. IsShareOf (share_of shares scenario packet) (λ leaves. leaves packet) runs) (packets_of scenario)

-- Shares add up: in no more than the sum does any packet leave its range, however the packets depend on each other.
abbrev pub SharesAddUp : Type 0
SharesAddUp =
    (shares : List LinkShare) (scenario : Scenario) (runs : List (Packet → Bool)) → KeepShares shares scenario runs
    → IsShareOf (outside_of shares scenario) (λ leaves. list_any leaves (packets_of scenario)) runs

-- the delay is not in the range
abbrev pub is_outside : ℕ × ℕ → ℕ → Bool
is_outside range delay = not (nat_le range.0 delay && nat_le delay range.1)

-- a run of the scenario's messages in which packets may take any times: it has one delay for each packet, and an order of the scenario's ties
pub record IsRun (scenario : Scenario) (run : Schedule) : Type 0 where
  pub delays : length run.delays ≡ length (packets_of scenario)
  pub order : IsOrder scenario run.order

-- in no more of these runs than its share does a packet of the scenario, told with its place in the list, leave its range
abbrev pub IsKeptBy : List LinkShare → Scenario → List Schedule → ℕ × Packet → Type 0
IsKeptBy shares scenario runs placed =
    IsShareOf (share_of shares scenario placed.1) (λ run. is_outside (range_of scenario placed.1) (slice_index run.delays placed.0)) runs

-- Runs of the scenario in which packets may take any times, where no packet leaves its range in more of them than its share.
pub record AreRuns (shares : List LinkShare) (scenario : Scenario) (runs : List Schedule) : Type 0 where
  pub all : All (IsRun scenario) runs
  pub kept : All (IsKeptBy shares scenario runs) (enumerate_from 0 (packets_of scenario))

-- THE HEADLINE. A latency above which no run is in which packets keep their ranges is exceeded in no more of such runs than the sum of the shares.
abbrev pub LateRunsAreFew : Type 0
LateRunsAreFew =
    (shares : List LinkShare) (scenario : Scenario) (upper : ℕ) (runs : List Schedule) → IsUpper scenario upper → AreRuns shares scenario runs
    → IsShareOf (outside_of shares scenario) (λ run. nat_lt upper (latency_of scenario run)) runs

-- The same in real time of runs in ticks that are any number of times as fine.
abbrev pub LateFinerRunsAreFew : Type 0
LateFinerRunsAreFew =
    (times : ℕ) (shares : List LinkShare) (scenario finer : Scenario) (upper : ℕ) (runs : List Schedule)
    → IsScenario scenario → scenario.time ≡ Real → IsFiner times scenario finer → finer.groups ≡ scenario.groups → finer.places ≡ scenario.places
    → IsUpper scenario upper → AreRuns shares finer runs
    → IsShareOf (outside_of shares scenario) (λ run. nat_lt (times * upper) (latency_of finer run)) runs
