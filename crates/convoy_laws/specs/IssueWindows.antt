-- One scenario with two choices of when its messages may be issued: what a window says of each time in it.
use Rattle.std.specs.Prelude.{◌≡◌, ℕ, ◌+◌, ◌≤◌, List, slice_set}
use Rattle.std.specs.List.{AllZip}
use Rattle.convoy_scenario.specs.Scenario.{Message, Scenario, message_at, window_of}
use Rattle.convoy_packets.specs.Assignment.{Schedule, IsAssignment, IsWithin}
use Rattle.convoy_sim.specs.Times.{issue}
use Rattle.convoy_sim.specs.Delivery.{latency_at}
use Rattle.convoy_sim.specs.Greatest.{IsReached, IsUpper}

-- the scenario with other messages
abbrev pub with_messages : List Message → Scenario → Scenario
with_messages messages scenario = record scenario { multicasts = messages }

-- both have one sender and the same destinations
pub record AreAlike (message other : Message) : Type 0 where
  pub sender : other.sender ≡ message.sender
  pub destinations : other.destinations ≡ message.destinations

-- the second is the first, but may be issued at none but some of its times
pub record IsNarrowerMessage (message narrow : Message) : Type 0 where
  pub alike : AreAlike message narrow
  pub first : message.at ≤ narrow.at
  pub last : narrow.at + narrow.longest_wait ≤ message.at + message.longest_wait

-- the message, issued at that very tick
abbrev pub at_tick : ℕ → Message → Message
at_tick tick message = record message { at = tick; longest_wait = 0 }

-- the scenario with message m issued at that very tick
abbrev pub issued_at : ℕ → ℕ → Scenario → Scenario
issued_at m tick scenario = with_messages (slice_set scenario.multicasts m (at_tick tick (message_at scenario m))) scenario

-- What a run does is done in a run of another choice, if each message may be issued there when it is issued in the run: then each is as late at each group.
abbrev pub RunsFitOtherWindows : Type 0
RunsFitOtherWindows =
    (scenario : Scenario) (messages : List Message) (schedule : Schedule)
    → AllZip AreAlike scenario.multicasts messages → IsAssignment scenario schedule
    → ((m : ℕ) → IsWithin (window_of (message_at (with_messages messages scenario) m)) (issue scenario schedule m))
    → (run : Schedule) × IsAssignment (with_messages messages scenario) run
    × ((m g : ℕ) → latency_at (with_messages messages scenario) run m g ≡ latency_at scenario schedule m g)

-- Narrower windows are no slower: a latency that the target never exceeds is not exceeded with them. So wider windows never lower the greatest latency.
abbrev pub NarrowerWindowsAreNoSlower : Type 0
NarrowerWindowsAreNoSlower =
    (scenario : Scenario) (messages : List Message) (latency : ℕ)
    → AllZip IsNarrowerMessage scenario.multicasts messages → IsUpper scenario latency
    → IsUpper (with_messages messages scenario) latency

-- A latency that the target never exceeds with a window of a message is not exceeded with the message issued at any one time in the window.
abbrev pub TimesInWindowAreNoSlower : Type 0
TimesInWindowAreNoSlower =
    (scenario : Scenario) (m tick latency : ℕ)
    → IsWithin (window_of (message_at scenario m)) tick → IsUpper scenario latency
    → IsUpper (issued_at m tick scenario) latency

-- A latency that the target has with a window of a message it has with the message issued at some time in the window. So the greatest latency with a window is the greatest of those with the single times in it.
abbrev pub SomeTimeInWindowIsAsLate : Type 0
SomeTimeInWindowIsAsLate =
    (scenario : Scenario) (m latency : ℕ)
    → IsReached scenario latency
    → (tick : ℕ) × IsWithin (window_of (message_at scenario m)) tick × IsReached (issued_at m tick scenario) latency
