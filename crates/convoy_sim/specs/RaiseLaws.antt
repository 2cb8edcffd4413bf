-- What a group's clock was raised by before a message arrives there, and what the times of stamps rise from.
use Rattle.std.specs.Prelude.{◌≡◌, ◌≢◌, ◌⊎◌, ℕ, ◌+◌, ◌<◌, ◌≤◌, IsTrue}
use Rattle.convoy_scenario.specs.Scenario.{Scenario, GoesTo}
use Rattle.convoy_scenario.specs.WellFormed.{IsScenario}
use Rattle.convoy_packets.specs.Assignment.{Schedule}
use Rattle.convoy_sim.specs.Times.{Tick, arrive, settle}
use Rattle.convoy_sim.specs.Moments.{is_before, arrival_of, commit_of, next_arrival}
use Rattle.convoy_sim.specs.Stamps.{local_stamp, final_stamp}

-- message c is committed at group h before message q arrives there, with a final stamp of that time, which its local stamp at another group f has; from `since` on a message may arrive there after it
pub record IsRaise (scenario : Scenario) (schedule : Schedule) (q h c f time : ℕ) (since : Tick) : Type 0 where
  pub goes : GoesTo scenario c h
  pub from : GoesTo scenario c f
  pub elsewhere : f ≢ h
  pub first : IsTrue (is_before (commit_of scenario schedule c h) (arrival_of scenario schedule q h))
  pub stamp : (local_stamp scenario schedule c f).time ≡ time
  pub final : (final_stamp scenario schedule c).time ≡ time
  pub next : since ≡ next_arrival scenario.time (settle scenario schedule c h)

-- message z arrives at group h at that tick or later, before message q does, and its local stamp there has that time
pub record IsCounted (scenario : Scenario) (schedule : Schedule) (q h : ℕ) (since : Tick) (time z : ℕ) : Type 0 where
  pub goes : GoesTo scenario z h
  pub late : since ≤ arrive scenario schedule z h
  pub first : IsTrue (is_before (arrival_of scenario schedule z h) (arrival_of scenario schedule q h))
  pub stamp : (local_stamp scenario schedule z h).time ≡ time

-- before message q arrives at group h a commit raised the clock there last, to that time, or none ever did; each time from there to that of the stamp of q was given to a message that arrived since
pub record IsLastRaise (scenario : Scenario) (schedule : Schedule) (q h time : ℕ) (since : Tick) : Type 0 where
  pub by : ((time ≡ 0) × (since ≡ 0)) ⊎ ((c : ℕ) × (f : ℕ) × IsRaise scenario schedule q h c f time since)
  pub below : time < (local_stamp scenario schedule q h).time
  pub counted : (u : ℕ) → time < u → u < (local_stamp scenario schedule q h).time → (z : ℕ) × IsCounted scenario schedule q h since u z

-- Before a message arrives at a group, the clock there was raised last to some time by a commit, or never.
abbrev pub LastRaise : Type 0
LastRaise =
    (scenario : Scenario) (schedule : Schedule) → IsScenario scenario → (q h : ℕ) → GoesTo scenario q h
    → (time : ℕ) × (since : Tick) × IsLastRaise scenario schedule q h time since

-- the stamp of message n at group k is the next one after that of another message p, which arrives there no later
pub record FollowsArrival (scenario : Scenario) (schedule : Schedule) (n k p : ℕ) : Type 0 where
  pub goes : GoesTo scenario p k
  pub other : p ≢ n
  pub no_later : arrive scenario schedule p k ≤ arrive scenario schedule n k
  pub next : (local_stamp scenario schedule n k).time ≡ (local_stamp scenario schedule p k).time + 1

-- the stamp of message n at group k has the next time after that of another message p at its group h, which is committed at k before n arrives there
pub record FollowsCommit (scenario : Scenario) (schedule : Schedule) (n k p h : ℕ) : Type 0 where
  pub goes : GoesTo scenario p k
  pub from : GoesTo scenario p h
  pub other : p ≢ n
  pub before : next_arrival scenario.time (settle scenario schedule p k) ≤ arrive scenario schedule n k
  pub next : (local_stamp scenario schedule n k).time ≡ (local_stamp scenario schedule p h).time + 1

-- The time of a local stamp is 1, or one more than that of another message that arrives there no later, or one more than that of a local stamp, at any of its groups, of another message that is committed there before.
abbrev pub StampsHaveSteps : Type 0
StampsHaveSteps =
    (scenario : Scenario) (schedule : Schedule) → IsScenario scenario → (n k : ℕ) → GoesTo scenario n k
    → ((local_stamp scenario schedule n k).time ≡ 1)
    ⊎ ((p : ℕ) × FollowsArrival scenario schedule n k p)
    ⊎ ((p : ℕ) × (h : ℕ) × FollowsCommit scenario schedule n k p h)
