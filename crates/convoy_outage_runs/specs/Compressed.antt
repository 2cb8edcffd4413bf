-- The compressed scenario, of which each run through outages is a run where their ticks are made shorter.
use Rattle.std.specs.Prelude.{ℕ, ◌+◌, ◌-◌, ◌/◌, max, min, nat_le, Bool, ◌&&◌, not, map, filter, fold, Option, Some, None, if◌then◌else◌}
use Rattle.std.specs.Int.{div_ceil}
use Rattle.std.specs.List.{list_all}
use Rattle.convoy_draft.specs.declared.limits.TheConstants.{GREATEST_DELAY, LONGEST_WAIT}
use Rattle.convoy_scenario.specs.Room.{has_room}
use Rattle.convoy_scenario.specs.Scenario.{Link, Message, Scenario, message_at, window_of}
use Rattle.convoy_packets.specs.Packets.{is_wait, packets_of}
use Rattle.convoy_packets.specs.Assignment.{range_of}

-- how many ticks outages are where each tick of theirs is only so great a part of one, one that has begun counted whole
abbrev pub compressed_span : ℕ → ℕ → ℕ
compressed_span factor span = div_ceil span factor

-- how many of their ticks are saved so
abbrev pub saved_ticks : ℕ → ℕ → ℕ
saved_ticks factor span = span - span / factor

-- the first tick at which a message may be issued where ticks between it and the target are saved, so many at most: one after the target comes nearer to it
abbrev pub first_tick_saved : ℕ → Message → Message → ℕ
first_tick_saved saved target message = max (min message.at target.at) (message.at - saved)

-- the last one: one before the target comes nearer to it
abbrev pub last_tick_saved : ℕ → Message → Message → ℕ
last_tick_saved saved target message = min (max (window_of message).1 (window_of target).1) ((window_of message).1 + saved)

-- a message that may be issued between these
abbrev pub message_saved : ℕ → Message → Message → Message
message_saved saved target message = record message {
  at = first_tick_saved saved target message;
  longest_wait = last_tick_saved saved target message - first_tick_saved saved target message;
}

-- a link where outages are compressed: a packet may be on its way for so great a part of the least delay, and for the greatest and a compressed outage
abbrev pub compressed_link : ℕ → ℕ → Link → Link
compressed_link factor span link = record link { least = max 1 (link.least / factor); most = link.most + compressed_span factor span }

-- the compressed scenario: D grows as the links do, and by one tick more where least delays fall, so that no link says what holds without it
unfoldable pub compressed : ℕ → ℕ → Scenario → Scenario
compressed factor span scenario = record scenario {
  delay = scenario.delay + compressed_span factor span + min (factor - 1) 1;
  links = map (compressed_link factor span) scenario.links;
  multicasts = map (message_saved (saved_ticks factor span) (message_at scenario scenario.target_message)) scenario.multicasts;
}

-- it is within the limits of scenarios
abbrev pub is_within_limits : Scenario → Bool
is_within_limits scenario =
    nat_le scenario.delay GREATEST_DELAY && list_all (λ message. nat_le message.longest_wait LONGEST_WAIT) scenario.multicasts && has_room scenario

-- the compressed scenario, where it is within the limits
abbrev pub compressed_within : ℕ → ℕ → Scenario → Option Scenario
compressed_within factor span scenario =
    if is_within_limits (compressed factor span scenario) then Some (compressed factor span scenario) else None

-- the least delay of all packets that travel
unfoldable pub shortest_travel : Scenario → ℕ
shortest_travel scenario = fold min GREATEST_DELAY (map (λ packet. (range_of scenario packet).0) (filter (λ packet. not (is_wait packet)) (packets_of scenario)))
