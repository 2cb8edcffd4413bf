-- Runs of a scenario through outages, and numbers that no latency exceeds in them.
use Rattle.std.specs.Prelude.{◌≡◌, ℕ, ◌*◌, ◌≤◌, length, IsFalse, IsTrue}
use Rattle.std.specs.List.{AllZip}
use Rattle.convoy_scenario.specs.Scenario.{HaveSameHomes, Scenario, message_at}
use Rattle.convoy_packets.specs.declared.packet.Packet.{Packet}
use Rattle.convoy_packets.specs.declared.packet.Packet.TheVariants.{Wait}
use Rattle.convoy_packets.specs.Packets.{is_wait}
use Rattle.convoy_packets.specs.Order.{IsOrder}
use Rattle.convoy_packets.specs.Assignment.{Schedule, delay_of, range_of}
use Rattle.convoy_packets.specs.ScheduleLaws.{is_sent}
use Rattle.convoy_sim.specs.Times.{Tick}
use Rattle.convoy_sim.specs.Delivery.{latency_of}
use Rattle.convoy_laws.specs.FinerTicks.{IsFinerMessage}
use Rattle.convoy_outages.specs.Outages.{Outages, silent_ticks, worked_of}

-- a run of the scenario through outages, told in ticks so many times as fine: each message is issued in its window, and a packet is on its way for the least delay of its range or longer and, beside outages, for no longer than the greatest
pub record IsRunThrough (down : Outages) (times : ℕ) (scenario told : Scenario) (schedule : Schedule) : Type 0 where
  pub some : 1 ≤ times
  pub time : told.time ≡ scenario.time
  pub groups : length told.groups ≡ length scenario.groups
  pub messages : AllZip (IsFinerMessage times) scenario.multicasts told.multicasts
  pub homes : HaveSameHomes scenario told
  pub target_message : told.target_message ≡ scenario.target_message
  pub target_group : told.target_group ≡ scenario.target_group
  pub waits : (m : ℕ) → delay_of told schedule (Wait m) ≤ (message_at told m).longest_wait
  pub least : (packet : Packet) → IsTrue (is_sent scenario packet) → IsFalse (is_wait packet)
      → times * (range_of scenario packet).0 ≤ delay_of told schedule packet
  pub most : (packet : Packet) → IsTrue (is_sent scenario packet) → IsFalse (is_wait packet)
      → worked_of down told schedule packet ≤ times * (range_of scenario packet).1
  pub order : IsOrder told schedule.order

-- outages last so many ticks in all
abbrev pub LastInAll : ℕ → Outages → Type 0
LastInAll span down = (from to : Tick) → silent_ticks down from to ≤ span

-- the target has no greater latency in any run through outages that last so many ticks in all, in ticks however fine
abbrev pub IsUpperOfRuns : ℕ → Scenario → ℕ → Type 0
IsUpperOfRuns span scenario latency =
    (down : Outages) (times : ℕ) (told : Scenario) (schedule : Schedule) → IsRunThrough down times scenario told schedule
    → LastInAll (times * span) down
    → latency_of told schedule ≤ times * latency
