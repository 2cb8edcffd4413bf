-- The laws of the protocol on what a run tells: of its proposals, commits, deliveries and final stamps, and of nothing else.
use Rattle.std.specs.Prelude.{◌≡◌, ◌⊎◌, ℕ, ◌+◌, ◌*◌, ◌≤◌, Some, is_some, IsTrue}
use Rattle.convoy_scenario.specs.Scenario.{Scenario, message_at, is_addressed}
use Rattle.convoy_scenario.specs.WellFormed.{IsScenario}
use Rattle.convoy_packets.specs.Assignment.{Schedule, IsAssignment}
use Rattle.convoy_sim.specs.declared.run.Proposal.{Proposal}
use Rattle.convoy_sim.specs.declared.timestamp.Timestamp.{Timestamp}
use Rattle.convoy_sim.specs.Stamps.{is_less}
use Rattle.convoy_sim.specs.Run.{Run, IsRunOf, proposed_of, committed_of, delivered_of, final_stamp_of}
use Rattle.convoy_sim.specs.Times.{Tick, issue}

-- the final stamp of message m is less than that of message n
abbrev pub IsStampedBefore : Run → ℕ → ℕ → Type 0
IsStampedBefore run m n =
    (mine : Timestamp) × (other : Timestamp) × (final_stamp_of run m ≡ Some mine) × (final_stamp_of run n ≡ Some other) × IsTrue (is_less mine other)

-- message n is ahead of message m at group g: the stamp that the group proposed for n is less than the final stamp of m
abbrev pub IsAhead : Run → ℕ → ℕ → ℕ → Type 0
IsAhead run n m g =
    (proposal : Proposal) × (final : Timestamp) × (proposed_of run n g ≡ Some proposal) × (final_stamp_of run m ≡ Some final) × IsTrue (is_less proposal.stamp final)

-- message n is message m, or is ahead of it at group g
abbrev pub IsAwaited : Run → ℕ → ℕ → ℕ → Type 0
IsAwaited run n m g = (n ≡ m) ⊎ IsAhead run n m g

-- the tick is that of the last commit at group g of message m and of all that are ahead of it there
pub record IsLastAwaited (run : Run) (m g : ℕ) (tick : Tick) : Type 0 where
  pub none_later : (n : ℕ) (commit : Tick) → IsAwaited run n m g → committed_of run n g ≡ Some commit → commit ≤ tick
  pub one_then : (n : ℕ) × IsAwaited run n m g × (committed_of run n g ≡ Some tick)

-- no message but m is delivered at group g
abbrev pub IsAloneAt : Run → ℕ → ℕ → Type 0
IsAloneAt run m g = (n : ℕ) (tick : Tick) → delivered_of run n g ≡ Some tick → n ≡ m

-- The run of a schedule keeps the laws of the protocol: a message is delivered at its destinations and nowhere else (everywhere), as it and all that are ahead of it are committed there (delivery); no two messages have one final stamp (stamps), and in the order of these all groups deliver (order); no delivery is later than 4 D after the issue (four_delays), or 2 D where the group delivers nothing else (two_delays); and the latency is the time from the target's issue to its delivery (latency).
pub record KeepsLaws (scenario : Scenario) (schedule : Schedule) (run : Run) : Type 0 where
  pub everywhere : (m g : ℕ) → is_some (delivered_of run m g) ≡ is_addressed (message_at scenario m) g
  pub delivery : (m g : ℕ) (tick : Tick) → delivered_of run m g ≡ Some tick → IsLastAwaited run m g tick
  pub stamps : (m n : ℕ) (stamp : Timestamp) → final_stamp_of run m ≡ Some stamp → final_stamp_of run n ≡ Some stamp → m ≡ n
  pub order : (m n g : ℕ) (mine other : Tick) → IsStampedBefore run m n → delivered_of run m g ≡ Some mine → delivered_of run n g ≡ Some other → mine ≤ other
  pub four_delays : (m g : ℕ) (tick : Tick) → delivered_of run m g ≡ Some tick → tick ≤ issue scenario schedule m + 4 * scenario.delay
  pub two_delays : (m g : ℕ) (tick : Tick) → IsAloneAt run m g → delivered_of run m g ≡ Some tick → tick ≤ issue scenario schedule m + 2 * scenario.delay
  pub latency : delivered_of run scenario.target_message scenario.target_group ≡ Some (issue scenario schedule scenario.target_message + run.latency)

-- Every run of a scenario under an assignment keeps the laws.
abbrev pub RunsKeepTheLaws : Type 0
RunsKeepTheLaws =
    (scenario : Scenario) (schedule : Schedule) (run : Run) → IsScenario scenario → IsAssignment scenario schedule → IsRunOf scenario schedule run
    → KeepsLaws scenario schedule run
