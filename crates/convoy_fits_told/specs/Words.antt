-- The words of a verdict on a trace.
use Rattle.std.specs.Prelude.{ℕ, ◌-◌, ◌==◌, min, nat_lt, Bool, true, false, if◌then◌else◌, List, [], ◌∷◌, ◌++◌, codes, count_by, decimal, length, sum_by, Option, Some, None}
use Rattle.convoy_scenario.specs.Scenario.{Scenario, group_name_at, message_at, window_of}
use Rattle.convoy_packets.specs.declared.packet.Packet.{Packet}
use Rattle.convoy_timeline.specs.Explanations.{stamp_text}
use Rattle.convoy_timeline.specs.PacketLists.{packet_text}
use Rattle.convoy_traces.specs.declared.told.Event.{Event}
use Rattle.convoy_traces.specs.declared.told.Event.TheVariants.{Issue, Arrival, Proposal, Commit, Delivery}
use Rattle.convoy_traces.specs.Traces.{Trace}
use Rattle.convoy_fits.specs.Departures.{explained}
use Rattle.convoy_fits.specs.declared.departure.Departure.{Departure}
use Rattle.convoy_fits.specs.declared.departure.Departure.TheVariants as departures
use Rattle.convoy_fits.specs.declared.departure.Verdict.{Verdict}
use Rattle.convoy_fits.specs.declared.departure.Verdict.TheVariants as verdicts
use Rattle.convoy_fits_told.specs.declared.scale.Scale.{Scale}
use Rattle.convoy_fits_told.specs.Scales.{told_in_fine_ticks, told_in_ticks}

-- the event is a delivery
abbrev pub is_delivery : Event → Bool
is_delivery Issue = false
is_delivery (Arrival g) = false
is_delivery (Proposal g h) = false
is_delivery (Commit g) = false
is_delivery (Delivery g) = true

-- a number of fine ticks as it is told: none that are told are greater than that
abbrev pub told_by : ℕ → ℕ
told_by ticks = min ticks 4294967295

-- what a message does at a group
unfoldable pub at_text : Scenario → ℕ → List ℕ → ℕ → List ℕ
at_text scenario m words g = (message_at scenario m).name ++ (words ++ group_name_at scenario g)

-- what happens
unfoldable pub event_text : Scenario → ℕ → Event → List ℕ
event_text scenario m Issue = (message_at scenario m).name ++ codes " is issued"
event_text scenario m (Arrival g) = at_text scenario m (codes " arrives at ") g
event_text scenario m (Proposal g h) =
    codes "the proposal of " ++ (group_name_at scenario h ++ (codes " for " ++ at_text scenario m (codes " comes to ") g))
event_text scenario m (Commit g) = at_text scenario m (codes " is committed at ") g
event_text scenario m (Delivery g) = at_text scenario m (codes " is delivered at ") g

-- from the first time to the last
unfoldable pub span_text : Scale → ℕ × ℕ → List ℕ
span_text scale span = codes "from " ++ (told_in_ticks scale span.0 ++ (codes " to " ++ told_in_ticks scale span.1))

-- a message that is issued at no time at which it may be
unfoldable pub window_text : Scale → Scenario → ℕ → ℕ → List ℕ
window_text scale scenario m time =
    event_text scenario m Issue ++ (codes " at " ++ (told_in_fine_ticks scale time ++ (codes ": it may be " ++ span_text scale (window_of (message_at scenario m)))))

-- how long a packet may take, in fine ticks: what a group sends to itself takes no time, unless it has a link to itself that is for it
unfoldable pub range_text : Scale → ℕ → ℕ → List ℕ
range_text scale least most =
    if most == 0 then codes "it takes no time"
    else codes "it may take from " ++ (told_in_fine_ticks scale (told_by least) ++ (codes " to " ++ told_in_fine_ticks scale (told_by most)))

-- a packet that comes before it is sent
unfoldable pub early_text : Scale → Scenario → Packet → ℕ → ℕ → List ℕ
early_text scale scenario packet sent came =
    packet_text scenario packet ++ (codes " is sent at " ++ (told_in_fine_ticks scale sent ++ (codes " and comes at " ++ told_in_fine_ticks scale came)))

-- a packet that takes longer than it may, or less long
unfoldable pub taken_text : Scale → Scenario → Packet → ℕ → ℕ → ℕ → List ℕ
taken_text scale scenario packet time least most =
    packet_text scenario packet ++ (codes " takes " ++ (told_in_fine_ticks scale time ++ (codes ": " ++ range_text scale least most)))

-- what happens at another time
unfoldable pub moment_text : Scale → Scenario → ℕ → Event → ℕ → ℕ → List ℕ
moment_text scale scenario m event time moment =
    event_text scenario m event
    ++ (codes " at " ++ (told_in_fine_ticks scale time ++ (codes ": by the protocol at " ++ told_in_fine_ticks scale (told_by moment))))

-- what happens with another stamp
unfoldable pub other_stamp_text : Scale → Scenario → ℕ → Event → ℕ → List ℕ → List ℕ
other_stamp_text scale scenario m event time stamp =
    event_text scenario m event ++ (codes " at " ++ (told_in_fine_ticks scale time ++ (codes " with another stamp: by the protocol it is " ++ stamp)))

-- what does not happen
unfoldable pub missing_text : Scale → Scenario → ℕ → ℕ → ℕ → List ℕ
missing_text scale scenario m g tick =
    at_text scenario m (codes " is not delivered at ") g ++ (codes ": by the protocol at " ++ told_in_fine_ticks scale tick)

-- in what a trace departs
abbrev pub departure_text : Scale → Scenario → Departure → List ℕ
departure_text scale scenario (departures.Window m time first last) = window_text scale scenario m time
departure_text scale scenario (departures.Packet packet sent came least most) =
    if nat_lt came sent then early_text scale scenario packet sent came else taken_text scale scenario packet (came - sent) least most
departure_text scale scenario (departures.Moment one moment) = moment_text scale scenario one.message one.event one.time moment
departure_text scale scenario (departures.Stamp one stamp) = other_stamp_text scale scenario one.message one.event one.time (stamp_text scenario stamp)
departure_text scale scenario (departures.Missing m g tick) = missing_text scale scenario m g tick

-- how many deliveries a trace tells, each once
abbrev pub deliveries_told : Trace → ℕ
deliveries_told trace = count_by (λ one. is_delivery one.event) trace.told

-- how many there are in a run: one of each message at each group that it goes to
abbrev pub deliveries_of : Scenario → ℕ
deliveries_of scenario = sum_by (λ message. length message.destinations) scenario.multicasts

-- that a trace fits, and by which clocks
unfoldable pub fits_text : Scale → ℕ → List ℕ
fits_text scale skew = if skew == 0 then codes "fits\n" else codes "fits, with clocks within " ++ (told_in_fine_ticks scale skew ++ 10 ∷ [])

-- that a trace does not tell all deliveries
unfoldable pub unfinished_text : ℕ → ℕ → List ℕ
unfinished_text told all =
    if nat_lt told all then codes "unfinished: " ++ (decimal told ++ (codes " of " ++ (decimal all ++ codes " deliveries are told\n"))) else []

-- the latency of the target, where it is known
unfoldable pub latency_text : Scale → Option ℕ → List ℕ
latency_text scale None = []
latency_text scale (Some latency) = codes "latency " ++ (told_in_fine_ticks scale latency ++ 10 ∷ [])

-- how much of what departs clocks may explain
abbrev pub explained_of : ℕ → Scenario → Departure → ℕ
explained_of skew scenario (departures.Window m time first last) = skew
explained_of skew scenario (departures.Packet packet sent came least most) = explained skew scenario packet
explained_of skew scenario (departures.Moment one moment) = 0
explained_of skew scenario (departures.Stamp one stamp) = 0
explained_of skew scenario (departures.Missing m g tick) = 0

-- what clocks may explain of a departure that they do not explain
unfoldable pub explained_text : Scale → ℕ → ℕ → List ℕ
explained_text scale skew part =
    if skew == 0 then []
    else codes ", and clocks within " ++ (told_in_fine_ticks scale skew ++ (codes " explain " ++ (told_in_fine_ticks scale (told_by part) ++ codes " of it")))

-- that a trace departs once its clocks are corrected
unfoldable pub corrected_text : Scale → ℕ → List ℕ
corrected_text scale skew = if skew == 0 then [] else codes ", with clocks corrected by at most " ++ told_in_fine_ticks scale skew

-- the lines of a verdict by clocks that are right within a skew
abbrev pub verdict_text : Scale → Scenario → Trace → ℕ → Verdict → List ℕ
verdict_text scale scenario trace skew (verdicts.Fits latency) =
    fits_text scale skew ++ (unfinished_text (deliveries_told trace) (deliveries_of scenario) ++ latency_text scale latency)
verdict_text scale scenario trace skew (verdicts.Outside departure) =
    codes "departs: " ++ (departure_text scale scenario departure ++ (explained_text scale skew (explained_of skew scenario departure) ++ 10 ∷ []))
verdict_text scale scenario trace skew (verdicts.Departs departure) =
    codes "departs: " ++ (departure_text scale scenario departure ++ (corrected_text scale skew ++ 10 ∷ []))
