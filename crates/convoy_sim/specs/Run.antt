-- What a run tells, and when that is what the definitions say.
use Rattle.std.specs.Prelude.{◌≡◌, ℕ, nat_lt, ◌<◌, ◌≤◌, ◌*◌, Option, Some, None, IsFalse, List, length, slice_get, if◌then◌else◌}
use Rattle.std.specs.Option.{option_map}
use Rattle.convoy_draft.specs.declared.limits.TheConstants.{MOST_GROUPS, MOST_MULTICASTS}
use Rattle.convoy_scenario.specs.Scenario.{Scenario, GoesTo, message_at, is_addressed}
use Rattle.convoy_packets.specs.Assignment.{Schedule}
use Rattle.convoy_sim.specs.declared.timestamp.Timestamp.{Timestamp}
use Rattle.convoy_sim.specs.declared.run.Proposal.{Proposal}
use Rattle.convoy_sim.specs.declared.progress.Progress.{Progress}
use Rattle.convoy_sim.specs.Times.{Tick, arrive, settle}
use Rattle.convoy_sim.specs.Stamps.{local_stamp, final_stamp}
use Rattle.convoy_sim.specs.Delivery.{deliver, latency_of}
use Rattle.convoy_sim.specs.Progress.{no_progress, progress_at}

-- there are no more messages than a scenario has, and an entry for each at each group
pub record IsTabled (finals : List Timestamp) (progress : List Progress) : Type 0 where
  pub messages : length finals ≤ MOST_MULTICASTS
  pub entries : length progress ≡ length finals * MOST_GROUPS

-- the final stamp of each message, how far each message has come at each group, and the latency of the target, in ticks
pub record Run : Type 0 where
  pub finals : List Timestamp
  pub progress : List Progress
  pub latency : ℕ

-- how far message m has come at group g
abbrev pub progress_of : Run → ℕ → ℕ → Progress
progress_of run m g = if nat_lt g MOST_GROUPS then progress_at run.progress m g else no_progress

-- what group g proposed for message m, and when
abbrev pub proposed_of : Run → ℕ → ℕ → Option Proposal
proposed_of run m g =
    option_map (λ tick. record { tick = tick; stamp = record { time = (progress_of run m g).stamp; group = g } }) (progress_of run m g).came

-- the tick at which message m was committed at group g
abbrev pub committed_of : Run → ℕ → ℕ → Option Tick
committed_of run m g = (progress_of run m g).committed

-- the tick at which message m was delivered at group g
abbrev pub delivered_of : Run → ℕ → ℕ → Option Tick
delivered_of run m g = (progress_of run m g).delivered

-- the final stamp of message m
abbrev pub final_stamp_of : Run → ℕ → Option Timestamp
final_stamp_of run m = slice_get run.finals m

-- nothing is told of message m at group g
pub record IsSilent (run : Run) (m g : ℕ) : Type 0 where
  pub proposed : proposed_of run m g ≡ None
  pub committed : committed_of run m g ≡ None
  pub delivered : delivered_of run m g ≡ None

-- all that the run tells is what the definitions say of the scenario under those delays
pub record IsRunOf (scenario : Scenario) (schedule : Schedule) (run : Run) : Type 0 where
  pub proposed : (m g : ℕ) → GoesTo scenario m g
      → proposed_of run m g ≡ Some (record { tick = arrive scenario schedule m g; stamp = local_stamp scenario schedule m g })
  pub committed : (m g : ℕ) → GoesTo scenario m g → committed_of run m g ≡ Some (settle scenario schedule m g)
  pub delivered : (m g : ℕ) → GoesTo scenario m g → delivered_of run m g ≡ Some (deliver scenario schedule m g)
  pub final_stamps : (m : ℕ) → m < length scenario.multicasts → final_stamp_of run m ≡ Some (final_stamp scenario schedule m)
  pub elsewhere : (m g : ℕ) → IsFalse (is_addressed (message_at scenario m) g) → IsSilent run m g
  pub message_count : length run.finals ≡ length scenario.multicasts
  pub latency : run.latency ≡ latency_of scenario schedule
