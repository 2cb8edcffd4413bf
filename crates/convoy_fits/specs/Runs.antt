-- Real runs of a scenario, and what they tell of each event that a trace may tell.
use Rattle.std.specs.Prelude.{◌≡◌, ℕ, ◌==◌, nat_lt, Bool, true, ◌&&◌, Option, Some, None, length, IsTrue}
use Rattle.convoy_draft.specs.declared.time.Time.TheVariants.{Real}
use Rattle.convoy_laws.specs.FinerTicks.{IsFiner}
use Rattle.convoy_scenario.specs.Scenario.{Scenario, is_addressed, message_at}
use Rattle.convoy_scenario.specs.WellFormed.{IsScenario}
use Rattle.convoy_packets.specs.Assignment.{Schedule, IsAssignment}
use Rattle.convoy_sim.specs.declared.timestamp.Timestamp.{Timestamp}
use Rattle.convoy_sim.specs.Times.{arrive, issue, propose_arrive, settle}
use Rattle.convoy_sim.specs.Stamps.{final_stamp, local_stamp}
use Rattle.convoy_sim.specs.Delivery.{deliver}
use Rattle.convoy_traces.specs.declared.told.Event.{Event}
use Rattle.convoy_traces.specs.declared.told.Event.TheVariants.{Issue, Arrival, Proposal, Commit, Delivery}
use Rattle.convoy_traces.specs.declared.told.Stamp.{Stamp}
use Rattle.convoy_traces.specs.declared.told.Told.{Told}

-- A real run of a scenario, in fine ticks of which a tick has so many: a schedule in real time of the scenario in these, within the ranges and the windows that it has in ticks. Whether the scenario counts whole ticks itself is not asked.
pub record IsRealRun (factor : ℕ) (scenario finer : Scenario) (schedule : Schedule) : Type 0 where
  pub told_finer : IsFiner factor scenario finer
  pub well_formed : IsScenario finer
  pub real : finer.time ≡ Real
  pub assignment : IsAssignment finer schedule

-- the moment of an event in a run
abbrev pub moment_of : Scenario → Schedule → ℕ → Event → ℕ
moment_of scenario schedule m Issue = issue scenario schedule m
moment_of scenario schedule m (Arrival g) = arrive scenario schedule m g
moment_of scenario schedule m (Proposal g h) = propose_arrive scenario schedule m g h
moment_of scenario schedule m (Commit g) = settle scenario schedule m g
moment_of scenario schedule m (Delivery g) = deliver scenario schedule m g

-- the stamp that stands with an event in a run; none with an issue
abbrev pub stamp_of : Scenario → Schedule → ℕ → Event → Option Timestamp
stamp_of scenario schedule m Issue = None
stamp_of scenario schedule m (Arrival g) = Some (local_stamp scenario schedule m g)
stamp_of scenario schedule m (Proposal g h) = Some (local_stamp scenario schedule m h)
stamp_of scenario schedule m (Commit g) = Some (final_stamp scenario schedule m)
stamp_of scenario schedule m (Delivery g) = Some (final_stamp scenario schedule m)

-- the stamp that is told is that of the run; one that is not told is not judged, nor one with an issue
abbrev pub agrees : Option Stamp → Option Timestamp → Bool
agrees None stamp = true
agrees (Some told) None = true
agrees (Some told) (Some stamp) = (told.time == stamp.time) && (told.group == stamp.group)

-- the run does what is told, then and with that stamp
pub record IsDone (scenario : Scenario) (schedule : Schedule) (one : Told) : Type 0 where
  pub moment : moment_of scenario schedule one.message one.event ≡ one.time
  pub stamp : IsTrue (agrees one.stamp (stamp_of scenario schedule one.message one.event))

-- the message goes to the groups of the event
abbrev pub goes_there : Scenario → ℕ → Event → Bool
goes_there scenario m Issue = true
goes_there scenario m (Arrival g) = is_addressed (message_at scenario m) g
goes_there scenario m (Proposal g h) = is_addressed (message_at scenario m) g && is_addressed (message_at scenario m) h
goes_there scenario m (Commit g) = is_addressed (message_at scenario m) g
goes_there scenario m (Delivery g) = is_addressed (message_at scenario m) g

-- what is told is of a message of the scenario, at groups that it goes to
abbrev pub is_there : Scenario → Told → Bool
is_there scenario one = nat_lt one.message (length scenario.multicasts) && goes_there scenario one.message one.event
