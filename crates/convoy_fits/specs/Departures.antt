-- When a trace departs from a scenario, and where.
use Rattle.std.specs.Prelude.{◌≡◌, ◌⊎◌, ℕ, ◌+◌, ◌*◌, ◌<◌, ◌≤◌, Bool, true, false, if◌then◌else◌, Some, None, IsTrue, All, Contains}
use Rattle.convoy_scenario.specs.Scenario.{GoesTo, Scenario, message_at, window_of}
use Rattle.convoy_packets.specs.declared.packet.Packet.{Packet}
use Rattle.convoy_packets.specs.declared.packet.Packet.TheVariants.{Wait, Multicast, Propose}
use Rattle.convoy_packets.specs.Assignment.{Schedule, range_of}
use Rattle.convoy_packets.specs.ScheduleLaws.{is_sent}
use Rattle.convoy_sim.specs.Delivery.{deliver}
use Rattle.convoy_traces.specs.declared.told.Event.{Event}
use Rattle.convoy_traces.specs.declared.told.Event.TheVariants.{Issue, Arrival, Proposal, Commit, Delivery}
use Rattle.convoy_traces.specs.declared.told.Told.{Told}
use Rattle.convoy_traces.specs.Traces.{Trace}
use Rattle.convoy_fits.specs.declared.departure.Departure.{Departure}
use Rattle.convoy_fits.specs.declared.departure.Departure.TheVariants as departures
use Rattle.convoy_fits.specs.Runs.{IsRealRun, agrees, moment_of, stamp_of}
use Rattle.convoy_fits.specs.Fits.{end_of, time_told}
use Rattle.convoy_fits.specs.Skews.{IsSkewed, is_same_teller, teller_of}

-- a range in fine ticks
abbrev pub in_fine_ticks : ℕ → ℕ × ℕ → ℕ × ℕ
in_fine_ticks factor range = (factor * range.0, factor * range.1)

-- what a packet may take, in fine ticks; what a group sends itself takes no time, unless it has a link to itself that is for it
abbrev pub fine_range : ℕ → Scenario → Packet → ℕ × ℕ
fine_range factor scenario packet = if is_sent scenario packet then in_fine_ticks factor (range_of scenario packet) else (0, 0)

-- the event with which a packet is sent, and the one with which it comes
abbrev pub sent_by : Packet → Event
sent_by (Wait m) = Issue
sent_by (Multicast m g) = Issue
sent_by (Propose m h g) = Arrival h

abbrev pub comes_as : Packet → Event
comes_as (Wait m) = Issue
comes_as (Multicast m g) = Arrival g
comes_as (Propose m h g) = Proposal g h

abbrev pub message_of : Packet → ℕ
message_of (Wait m) = m
message_of (Multicast m g) = m
message_of (Propose m h g) = m

-- how much of what a packet takes clocks may explain that are right within the skew: nothing where one clock tells both of its ends
abbrev pub explained : ℕ → Scenario → Packet → ℕ
explained skew scenario packet =
    if is_same_teller (teller_of scenario (message_of packet) (sent_by packet)) (teller_of scenario (message_of packet) (comes_as packet)) then 0 else 2 * skew

-- it is within a range, or out of it by no more than that
abbrev pub IsNearly : ℕ → ℕ × ℕ → ℕ → Type 0
IsNearly slack range time = (range.0 ≤ time + slack) × (time ≤ range.1 + slack)

-- it is so many fine ticks after a moment, within a range or out of it by no more than that
abbrev pub IsNearlyAfter : ℕ → ℕ → ℕ × ℕ → ℕ → Type 0
IsNearlyAfter slack sent range came = IsNearly slack (sent + range.0, sent + range.1) came

-- What the trace tells is outside of a window or of a range by more than clocks explain that are right within the skew: of an issue the time, of a packet when it was sent and when it came.
abbrev pub IsOutside : ℕ → Scenario → Trace → Departure → Type 0
IsOutside skew scenario trace (departures.Window m time first last) =
    (time_told trace.told m Issue ≡ Some time)
    × ((first, last) ≡ in_fine_ticks trace.factor (window_of (message_at scenario m)))
    × (IsNearly skew (first, last) time → ⊥)
IsOutside skew scenario trace (departures.Packet packet sent came least most) =
    (time_told trace.told (message_of packet) (sent_by packet) ≡ Some sent)
    × (time_told trace.told (message_of packet) (comes_as packet) ≡ Some came)
    × ((least, most) ≡ fine_range trace.factor scenario packet)
    × (IsNearlyAfter (explained skew scenario packet) sent (least, most) came → ⊥)
IsOutside skew scenario trace (departures.Moment one moment) = ⊥
IsOutside skew scenario trace (departures.Stamp one stamp) = ⊥
IsOutside skew scenario trace (departures.Missing m g tick) = ⊥

-- the event is one of the network: an issue, or the arrival of a packet
abbrev pub is_network : Event → Bool
is_network Issue = true
is_network (Arrival g) = true
is_network (Proposal g h) = true
is_network (Commit g) = false
is_network (Delivery g) = false

-- in the run each message is issued and each packet arrives when it is told
abbrev pub IsAsTold : Scenario → Schedule → Trace → Type 0
IsAsTold finer schedule trace = All (λ one. IsTrue (is_network one.event) → moment_of finer schedule one.message one.event ≡ one.time) trace.told

-- the same of all that is told to be before a time
abbrev pub IsAsToldBefore : ℕ → Scenario → Schedule → Trace → Type 0
IsAsToldBefore time finer schedule trace =
    All (λ one. IsTrue (is_network one.event) → one.time < time → moment_of finer schedule one.message one.event ≡ one.time) trace.told

-- what the network does up to an event is told: all that it does, or where the event itself is one of the network, all that it is told to do before
abbrev pub IsLedThere : Scenario → Schedule → Trace → Told → Type 0
IsLedThere finer schedule trace one = (IsTrue (is_network one.event) × IsAsToldBefore one.time finer schedule trace) ⊎ IsAsTold finer schedule trace

-- The run does otherwise than the trace tells, though the network does there what is told.
abbrev pub IsOtherwise : Scenario → Schedule → Trace → Departure → Type 0
IsOtherwise finer schedule trace (departures.Window m time first last) = ⊥
IsOtherwise finer schedule trace (departures.Packet packet sent came least most) = ⊥
IsOtherwise finer schedule trace (departures.Moment one moment) =
    Contains trace.told one
    × (moment_of finer schedule one.message one.event ≡ moment)
    × (moment ≡ one.time → ⊥)
    × IsLedThere finer schedule trace one
IsOtherwise finer schedule trace (departures.Stamp one stamp) =
    Contains trace.told one
    × (stamp_of finer schedule one.message one.event ≡ Some stamp)
    × (IsTrue (agrees one.stamp (Some stamp)) → ⊥)
    × IsLedThere finer schedule trace one
IsOtherwise finer schedule trace (departures.Missing m g tick) =
    GoesTo finer m g
    × (time_told trace.told m (Delivery g) ≡ None)
    × (deliver finer schedule m g ≡ tick)
    × (tick < end_of trace.told)
    × IsAsTold finer schedule trace

-- a real run of the scenario that does otherwise than the trace tells
pub record IsInRun (scenario : Scenario) (trace : Trace) (departure : Departure) : Type 0 where
  pub finer : Scenario
  pub schedule : Schedule
  pub run : IsRealRun trace.factor scenario finer schedule
  pub otherwise : IsOtherwise finer schedule trace departure

-- The trace departs from the scenario: from a range or a window, so that no run can have done what it tells, or from what the run does in which all packets arrive when it tells.
abbrev pub IsDeparture : Scenario → Trace → Departure → Type 0
IsDeparture scenario trace departure = IsOutside 0 scenario trace departure ⊎ IsInRun scenario trace departure

-- the trace departs so by clocks that are right, in the one way or the other in which those may be that are right within the skew
pub record DepartsWithin (skew : ℕ) (scenario : Scenario) (trace : Trace) (departure : Departure) : Type 0 where
  pub other : Trace
  pub skewed : IsSkewed skew scenario trace other
  pub departs : IsDeparture scenario other departure
