-- When a message is delivered, and the latency that is asked for.
use Rattle.std.specs.Prelude.{ℕ, ◌+◌, ◌-◌, zero, suc, nat_lt, nat_le, Bool, ◌&&◌, not, List, map, if◌then◌else◌}
use Rattle.std.specs.List.{filter, list_any}
use Rattle.convoy_scenario.specs.Scenario.{Scenario, message_at, message_numbers, is_addressed}
use Rattle.convoy_packets.specs.Assignment.{Schedule}
use Rattle.convoy_sim.specs.Times.{Tick, greatest, issue, arrive, settle}
use Rattle.convoy_sim.specs.Stamps.{is_less, local_stamp, final_stamp}

-- the messages that go to group g
abbrev pub addressed_to : Scenario → ℕ → List ℕ
addressed_to scenario g = filter (λ n. is_addressed (message_at scenario n) g) (message_numbers scenario)

-- at that tick message n holds message m back at group g: it has arrived there with a stamp less than the final one of m, and is not committed there
unfoldable pub holds_back : Scenario → Schedule → ℕ → ℕ → Tick → ℕ → Bool
holds_back scenario schedule m g tick n =
    nat_le (arrive scenario schedule n g) tick
    && is_less (local_stamp scenario schedule n g) (final_stamp scenario schedule m)
    && nat_lt tick (settle scenario schedule n g)

-- at that tick no message holds message m back at group g
abbrev pub is_free : Scenario → Schedule → ℕ → ℕ → Tick → Bool
is_free scenario schedule m g tick = not (list_any (holds_back scenario schedule m g tick) (addressed_to scenario g))

-- the first of the ticks from `tick` on that passes the test, or else the one after so many that fail
abbrev pub first_tick : (Tick → Bool) → ℕ → Tick → Tick
first_tick test zero tick = tick
first_tick test (suc more) tick = if test tick then tick else first_tick test more (tick + 1)

-- the tick of the last commit of some messages at group g
abbrev pub last_commit : Scenario → Schedule → ℕ → List ℕ → Tick
last_commit scenario schedule g messages = greatest (map (λ n. settle scenario schedule n g) messages)

-- Delivery: the first tick from the commit of message m at group g on at which no message holds it back. At the last commit there none does, so the look-out ends there.
unfoldable pub deliver : Scenario → Schedule → ℕ → ℕ → Tick
deliver scenario schedule m g =
    let settled = settle scenario schedule m g in
    first_tick (is_free scenario schedule m g) (last_commit scenario schedule g (addressed_to scenario g) - settled) settled

-- the latency of a message at a group: from its issue to its delivery there
unfoldable pub latency_at : Scenario → Schedule → ℕ → ℕ → ℕ
latency_at scenario schedule m g = deliver scenario schedule m g - issue scenario schedule m

-- the latency that the scenario asks for, that of its target
unfoldable pub latency_of : Scenario → Schedule → ℕ
latency_of scenario schedule = latency_at scenario schedule scenario.target_message scenario.target_group
