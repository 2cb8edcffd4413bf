-- What is compared with a trace of what a run tells.
use Rattle.std.specs.Prelude.{ℕ, zero, suc, ◌+◌, ◌*◌, ◌==◌, min, nat_le, nat_lt, Bool, true, false, ◌&&◌, ◌||◌, if◌then◌else◌, List, [], ◌∷◌, Option, Some, None, is_some, unwrap_or, option_map, length}
use Rattle.std.specs.Option.{option_map_or}
use Rattle.convoy_scenario.specs.Scenario.{Scenario, message_at}
use Rattle.convoy_packets.specs.declared.packet.Packet.TheVariants.{Propose}
use Rattle.convoy_packets.specs.Assignment.{Schedule, delay_of}
use Rattle.convoy_sim.specs.declared.timestamp.Timestamp.{Timestamp}
use Rattle.convoy_sim.specs.Run.{Run, committed_of, delivered_of, final_stamp_of, proposed_of}
use Rattle.convoy_sim.specs.Times.{issue}
use Rattle.convoy_traces.specs.declared.told.Event.{Event}
use Rattle.convoy_traces.specs.declared.told.Event.TheVariants.{Issue, Arrival, Proposal, Commit, Delivery}
use Rattle.convoy_traces.specs.declared.told.Told.{Told}
use Rattle.convoy_fits.specs.declared.departure.Departure.{Departure}
use Rattle.convoy_fits.specs.declared.departure.Departure.TheVariants as departures
use Rattle.convoy_fits.specs.Runs.{agrees}
use Rattle.convoy_fits.specs.Fits.{end_of, time_told}
use Rattle.convoy_fits.specs.Departures.{is_network}
use Rattle.convoy_fits.specs.Skews.{is_since, teller_of}
use Rattle.convoy_fits.specs.declared.teller.Teller.{Teller}
use Rattle.convoy_fits.specs.declared.teller.Teller.TheVariants as tellers
use Rattle.convoy_traces.specs.declared.fault.TheConstants.{LAST_TIME}
use Rattle.std.proofs.Common.{get_or}

-- the moment of an event as a run tells it
abbrev pub moment_in : Scenario → Schedule → Run → ℕ → Event → ℕ
moment_in scenario schedule run m Issue = issue scenario schedule m
moment_in scenario schedule run m (Arrival g) = option_map_or (λ p. p.tick) (proposed_of run m g) 0
moment_in scenario schedule run m (Proposal g h) = option_map_or (λ p. p.tick) (proposed_of run m h) 0 + delay_of scenario schedule (Propose m h g)
moment_in scenario schedule run m (Commit g) = unwrap_or (committed_of run m g) 0
moment_in scenario schedule run m (Delivery g) = unwrap_or (delivered_of run m g) 0

-- the stamp that stands with it
abbrev pub stamp_in : Run → ℕ → Event → Option Timestamp
stamp_in run m Issue = None
stamp_in run m (Arrival g) = option_map (λ p. p.stamp) (proposed_of run m g)
stamp_in run m (Proposal g h) = option_map (λ p. p.stamp) (proposed_of run m h)
stamp_in run m (Commit g) = final_stamp_of run m
stamp_in run m (Delivery g) = final_stamp_of run m

-- the departure from a stamp, if it is one
abbrev pub stamp_departure : Told → Option Timestamp → Option Departure
stamp_departure one None = None
stamp_departure one (Some stamp) = if agrees one.stamp (Some stamp) then None else Some (departures.Stamp one stamp)

-- the departure of a run from what is told, if it is one
abbrev pub departure_at : Scenario → Schedule → Run → Told → Option Departure
departure_at scenario schedule run one =
    let moment = moment_in scenario schedule run one.message one.event in
    if moment == one.time then stamp_departure one (stamp_in run one.message one.event) else Some (departures.Moment one moment)

-- when a departure is met
abbrev pub time_of : Departure → ℕ
time_of (departures.Window m time first last) = time
time_of (departures.Packet packet sent came least most) = came
time_of (departures.Moment one moment) = one.time
time_of (departures.Stamp one stamp) = one.time
time_of (departures.Missing m g tick) = tick

-- the one that is met first
abbrev pub earlier : Option Departure → Option Departure → Option Departure
earlier None other = other
earlier (Some first) None = Some first
earlier (Some first) (Some other) = if nat_lt (time_of other) (time_of first) then Some other else Some first

-- the departure from what is told of an event of that kind
abbrev pub departure_of_kind : Scenario → Schedule → Run → Bool → Told → Option Departure
departure_of_kind scenario schedule run true one = if is_network one.event then departure_at scenario schedule run one else None
departure_of_kind scenario schedule run false one = if is_network one.event then None else departure_at scenario schedule run one

-- the first departure, or one that is known
abbrev pub first_departure : Scenario → Schedule → Run → Bool → Option Departure → List Told → Option Departure
first_departure scenario schedule run network known [] = known
first_departure scenario schedule run network known (one ∷ told) =
    first_departure scenario schedule run network (earlier known (departure_of_kind scenario schedule run network one)) told

-- the delivery of a message at a group, where it is missing
abbrev pub missing_at : Run → List Told → ℕ → ℕ → Option Departure
missing_at run told m g =
    let tick = unwrap_or (delivered_of run m g) 0 in
    if is_some (time_told told m (Delivery g)) || nat_le (end_of told) tick then None else Some (departures.Missing m g tick)

-- the first missing delivery of a message at these groups, or a departure that is known
abbrev pub first_missing : Run → List Told → ℕ → Option Departure → List ℕ → Option Departure
first_missing run told m known [] = known
first_missing run told m known (g ∷ groups) = first_missing run told m (earlier known (missing_at run told m g)) groups

-- the same of so many messages from m on
abbrev pub first_missing_from : Scenario → Run → List Told → Option Departure → ℕ → ℕ → Option Departure
first_missing_from scenario run told known zero m = known
first_missing_from scenario run told known (suc more) m =
    first_missing_from scenario run told (first_missing run told m known (message_at scenario m).destinations) more (m + 1)

-- the one departure, or else the other
abbrev pub or_else : Option Departure → Option Departure → Option Departure
or_else None other = other
or_else (Some first) other = Some first

-- the first departure of a run from a trace: of the network, or else of the protocol
abbrev pub departure_in : Scenario → Schedule → Run → List Told → Option Departure
departure_in scenario schedule run told =
    or_else (first_departure scenario schedule run true None told)
    (first_missing_from scenario run told (first_departure scenario schedule run false None told) (length scenario.multicasts) 0)

-- lags of clocks: of groups, and of clients by the messages that they issue
pub record LagLists : Type 0 where
  pub skew : ℕ
  pub groups : List ℕ
  pub clients : List ℕ

-- the lag of a clock; none is more than the skew allows
abbrev pub lag_by : LagLists → Teller → ℕ
lag_by lags (tellers.Group g) = min (get_or lags.groups g 0) (2 * lags.skew)
lag_by lags (tellers.Client m) = min (get_or lags.clients m 0) (2 * lags.skew)

-- what is told is, by a clock that is right, within the times that may be told
abbrev pub is_kept : ℕ → (Teller → ℕ) → Scenario → Told → Bool
is_kept skew lag scenario one = is_since skew lag scenario one && nat_le (one.time + lag (teller_of scenario one.message one.event)) (skew + LAST_TIME)
