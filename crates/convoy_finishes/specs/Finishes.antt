-- Messages that are finished at the target's group, so that it may deliver them, only some time after they are committed there: once a majority of each of their groups has answered. Stamps and commits are those of a run without that.
use Rattle.std.specs.Prelude.{ℕ, ◌+◌, ◌-◌, ◌≤◌, max, nat_le, nat_lt, Bool, ◌&&◌, not, List, ◌∷◌, map, slice_index_or, IsTrue}
use Rattle.std.specs.List.{list_any}
use Rattle.convoy_scenario.specs.Scenario.{Scenario, GoesTo, is_addressed, message_at}
use Rattle.convoy_packets.specs.Order.{place}
use Rattle.convoy_packets.specs.Assignment.{Schedule, IsAssignment}
use Rattle.convoy_sim.specs.Times.{Tick, greatest, issue, arrive, settle}
use Rattle.convoy_sim.specs.Stamps.{is_less, local_stamp, final_stamp}
use Rattle.convoy_sim.specs.Delivery.{addressed_to}
use Rattle.convoy_sim.specs.ProtocolLaws.{ahead_of}

-- the ways by which answers come, in ticks: how long it takes at most from when message n comes to group k until the target's group has the answers that wait for that
abbrev pub way_at : List ℕ → ℕ → ℕ → ℕ
way_at ways n k = slice_index_or ways (place n k) 0

-- the last tick at which message n is finished at the target's group: no earlier than it is committed there, and no later than its answers come
abbrev pub finish_by : Scenario → Schedule → List ℕ → ℕ → Tick
finish_by scenario schedule ways n =
    max (settle scenario schedule n scenario.target_group)
    (greatest (map (λ k. arrive scenario schedule n k + way_at ways n k) (message_at scenario n).destinations))

-- message n is ahead of the target at its group: it goes there, and has a stamp there that is less than the final one of the target
abbrev pub is_ahead : Scenario → Schedule → ℕ → Bool
is_ahead scenario schedule n =
    is_addressed (message_at scenario n) scenario.target_group
    && is_less (local_stamp scenario schedule n scenario.target_group) (final_stamp scenario schedule scenario.target_message)

-- ticks at which messages may be finished at the target's group: from when they are committed there to the last one
pub record IsFinishing (scenario : Scenario) (schedule : Schedule) (ways : List ℕ) (finished : ℕ → Tick) : Type 0 where
  pub committed : (n : ℕ) → GoesTo scenario n scenario.target_group → settle scenario schedule n scenario.target_group ≤ finished n
  pub last : (n : ℕ) → GoesTo scenario n scenario.target_group → finished n ≤ finish_by scenario schedule ways n

-- at that tick message n holds the target back: it has arrived at its group with a stamp less than the target's final one, and is not finished there
abbrev pub is_unfinished : Scenario → Schedule → (ℕ → Tick) → Tick → ℕ → Bool
is_unfinished scenario schedule finished tick n =
    nat_le (arrive scenario schedule n scenario.target_group) tick
    && is_less (local_stamp scenario schedule n scenario.target_group) (final_stamp scenario schedule scenario.target_message)
    && nat_lt tick (finished n)

-- at that tick no message holds the target back
abbrev pub is_free_at : Scenario → Schedule → (ℕ → Tick) → Tick → Bool
is_free_at scenario schedule finished tick =
    not (list_any (is_unfinished scenario schedule finished tick) (addressed_to scenario scenario.target_group))

-- the target is delivered at that tick: the least from its finish on at which no message holds it back
pub record IsDeliveredOnce (scenario : Scenario) (schedule : Schedule) (finished : ℕ → Tick) (tick : Tick) : Type 0 where
  pub finish : finished scenario.target_message ≤ tick
  pub free : IsTrue (is_free_at scenario schedule finished tick)
  pub least : (sooner : Tick) → finished scenario.target_message ≤ sooner → IsTrue (is_free_at scenario schedule finished sooner) → tick ≤ sooner

-- the finish latency under a schedule: from the target's issue to the last finish of it and of all that are ahead of it
unfoldable pub finish_latency : Scenario → List ℕ → Schedule → ℕ
finish_latency scenario ways schedule =
    greatest (map (finish_by scenario schedule ways)
    (scenario.target_message ∷ ahead_of scenario schedule scenario.target_message scenario.target_group))
    - issue scenario schedule scenario.target_message

-- under the schedule the target may be delivered so many ticks after its issue
abbrev pub IsReachedUnder : Scenario → Schedule → List ℕ → ℕ → Type 0
IsReachedUnder scenario schedule ways latency =
    (finished : ℕ → Tick) × IsFinishing scenario schedule ways finished
    × IsDeliveredOnce scenario schedule finished (issue scenario schedule scenario.target_message + latency)

-- under the schedule it is never delivered more ticks after its issue
abbrev pub IsUpperUnder : Scenario → Schedule → List ℕ → ℕ → Type 0
IsUpperUnder scenario schedule ways latency =
    (finished : ℕ → Tick) (tick : Tick) → IsFinishing scenario schedule ways finished → IsDeliveredOnce scenario schedule finished tick
    → tick ≤ issue scenario schedule scenario.target_message + latency

-- under some assignment the target may be delivered so many ticks after its issue
abbrev pub IsFinishReached : Scenario → List ℕ → ℕ → Type 0
IsFinishReached scenario ways latency =
    (schedule : Schedule) × IsAssignment scenario schedule × IsReachedUnder scenario schedule ways latency

-- under no assignment it is delivered more ticks after its issue
abbrev pub IsUpperOfFinishes : Scenario → List ℕ → ℕ → Type 0
IsUpperOfFinishes scenario ways latency =
    (schedule : Schedule) → IsAssignment scenario schedule → IsUpperUnder scenario schedule ways latency

-- the greatest latency where messages are finished some time after their commit
pub record IsGreatestFinish (scenario : Scenario) (ways : List ℕ) (latency : ℕ) : Type 0 where
  pub reached : IsFinishReached scenario ways latency
  pub upper : IsUpperOfFinishes scenario ways latency
