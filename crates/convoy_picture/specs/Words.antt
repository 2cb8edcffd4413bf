-- What is told of a picture in words: the answer and its reason, each packet on its way, and what happens at each group.
use Rattle.std.specs.Prelude.{ℕ, ◌-◌, ◌==◌, if◌then◌else◌, List, [], ◌∷◌, ◌++◌, Option, None, Some, codes, decimal}
use Rattle.convoy_scenario.specs.Scenario.{Scenario, group_name_at, message_at}
use Rattle.convoy_packets.specs.Assignment.{receiver_of}
use Rattle.convoy_packets.specs.declared.packet.Packet.{Packet}
use Rattle.convoy_packets.specs.declared.packet.Packet.TheVariants.{Wait, Multicast, Propose as Proposal}
use Rattle.convoy_times.specs.declared.measure.Measure.{Measure}
use Rattle.convoy_timeline.specs.declared.entry.Entry.{Entry}
use Rattle.convoy_timeline.specs.declared.entry.EntryKind.{EntryKind}
use Rattle.convoy_timeline.specs.declared.entry.EntryKind.TheVariants.{Propose, Commit, Deliver}
use Rattle.convoy_timeline.specs.Explanations.{message_name_at, sender_text, stamp_text, ticks_text}
use Rattle.convoy_timeline.specs.declared.explanation.Explanation.{Explanation}
use Rattle.convoy_timeline.specs.declared.explanation.Holder.{Holder}
use Rattle.convoy_picture.specs.declared.flight.Flight.{Flight}
use Rattle.convoy_picture.specs.Pictures.{Picture, issued_at}

-- the time from the issue of message x to the delivery of the target, in ticks: its latency, where x is the target itself
abbrev pub time_since : Scenario → Picture → ℕ → ℕ
time_since scenario picture x =
    if x == scenario.target_message then picture.why.latency else (picture.why.delivered - issued_at picture x)

-- from whose issue time counts, where that is not the target itself
abbrev pub since_text : Scenario → ℕ → List ℕ
since_text scenario x =
    if x == scenario.target_message then [] else (codes ", from the issue of " ++ message_name_at scenario x)

-- how late the target is at worst from the issue of message x, in ticks and as a time where there is a measure
unfoldable pub answer_text : Option Measure → Scenario → Picture → ℕ → List ℕ
answer_text measure scenario picture x =
    message_name_at scenario scenario.target_message
    ++ (codes " at " ++ (group_name_at scenario scenario.target_group
    ++ (codes ": at worst " ++ (ticks_text measure (time_since scenario picture x) ++ since_text scenario x))))

-- when the target is committed and delivered, and what it waits for between the two
abbrev pub outcome_text : Scenario → Explanation → Option Holder → List ℕ
outcome_text scenario why None = codes "; it is delivered as it is committed, at tick " ++ decimal why.delivered
outcome_text scenario why (Some holder) =
    codes "; committed at tick " ++ (decimal why.committed
    ++ (codes ", it waits for " ++ (message_name_at scenario holder.message
    ++ (codes ", and is delivered at tick " ++ decimal why.delivered))))

-- why the target is so late: who issues it and when, so many ticks before its delivery, and what becomes of it
unfoldable pub reason_text : Scenario → Explanation → List ℕ
reason_text scenario why =
    let target = message_at scenario scenario.target_message in
    sender_text scenario target.sender
    ++ (codes " issues " ++ (target.name
    ++ (codes " at tick " ++ (decimal (why.delivered - why.latency) ++ outcome_text scenario why why.holder))))

-- what a packet brings
abbrev pub load_text : Scenario → Packet → List ℕ
load_text scenario (Wait m) = codes "wait of " ++ message_name_at scenario m
load_text scenario (Multicast m g) = message_name_at scenario m
load_text scenario (Proposal m h g) = codes "proposal of " ++ message_name_at scenario m

-- what a packet brings, and from where to where
unfoldable pub way_text : Scenario → Flight → List ℕ
way_text scenario flight =
    load_text scenario flight.packet
    ++ (codes " from " ++ (sender_text scenario flight.from
    ++ (codes " to " ++ group_name_at scenario (receiver_of flight.packet))))

-- a packet on its way: its number, what it brings, from where to where, and when
unfoldable pub flight_text : Scenario → Flight → List ℕ
flight_text scenario flight =
    codes "packet " ++ (decimal flight.number
    ++ (codes ": " ++ (way_text scenario flight
    ++ (codes ", sent at tick " ++ (decimal flight.sent
    ++ (codes ", there at tick " ++ decimal flight.arrival))))))

-- what becomes of a message
abbrev pub doing_text : EntryKind → List ℕ
doing_text Propose = codes "arrives"
doing_text Commit = codes "is committed"
doing_text Deliver = codes "is delivered"

-- what happens to a message at a group, when and with which stamp
unfoldable pub entry_text : Scenario → Entry → List ℕ
entry_text scenario entry =
    message_name_at scenario entry.message
    ++ 32 ∷ (doing_text entry.kind
    ++ (codes " at " ++ (group_name_at scenario entry.group
    ++ (codes " at tick " ++ (decimal entry.tick
    ++ (codes " with stamp " ++ stamp_text scenario entry.stamp))))))
