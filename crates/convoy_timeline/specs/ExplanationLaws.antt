-- What is proved of the words of an explanation: none of their defaults is ever told, and what is told to raise a clock does. Each is the one clause of the function of its name in the crate's module `explanation_laws`.
use Rattle.std.specs.Prelude.{◌≡◌, ◌⊎◌, ℕ, ◌+◌, ◌<◌, List, [], ◌∷◌, length, Option, Some, None, IsTrue}
use Rattle.convoy_scenario.specs.Scenario.{Scenario, GoesTo}
use Rattle.convoy_scenario.specs.WellFormed.{IsScenario}
use Rattle.convoy_packets.specs.Assignment.{Schedule}
use Rattle.convoy_sim.specs.Moments.{is_before, arrival_of, commit_of}
use Rattle.convoy_sim.specs.Times.{settle, propose_arrive}
use Rattle.convoy_sim.specs.Stamps.{is_less, local_stamp, final_stamp}
use Rattle.convoy_sim.specs.Delivery.{deliver}
use Rattle.convoy_timeline.specs.Causes.{holder_of, last_proposer, rises_of, stamped_at}
use Rattle.convoy_timeline.specs.declared.explanation.Rise.{Rise}

-- message n holds message m back at group g up to its delivery: it goes there, its stamp there is less than the final one of m, and it is committed there after m, as m is delivered
pub record HoldsLast (scenario : Scenario) (schedule : Schedule) (m g n : ℕ) : Type 0 where
  pub goes : GoesTo scenario n g
  pub ahead : IsTrue (is_less (local_stamp scenario schedule n g) (final_stamp scenario schedule m))
  pub later : settle scenario schedule m g < settle scenario schedule n g
  pub last : settle scenario schedule n g ≡ deliver scenario schedule m g

-- what an explanation says of the message that holds message m back: it does, or where there is none m is delivered as it is committed
abbrev pub IsRightHolder : Scenario → Schedule → ℕ → ℕ → Option ℕ → Type 0
IsRightHolder scenario schedule m g (Some n) = HoldsLast scenario schedule m g n
IsRightHolder scenario schedule m g None = settle scenario schedule m g ≡ deliver scenario schedule m g

-- The message that is told to hold another back does so up to the delivery; where none is told, none does.
abbrev pub HoldersHold : Type 0
HoldersHold =
    (scenario : Scenario) (schedule : Schedule) → IsScenario scenario → (m g : ℕ) → GoesTo scenario m g
    → IsRightHolder scenario schedule m g (holder_of scenario schedule m g)

-- The proposal that is told to come last is that of a destination, and comes to the group in the tick of the commit there.
abbrev pub LastProposalsCommit : Type 0
LastProposalsCommit =
    (scenario : Scenario) (schedule : Schedule) → IsScenario scenario → (n g : ℕ) → GoesTo scenario n g
    → GoesTo scenario n (last_proposer scenario schedule n g)
    × (propose_arrive scenario schedule n g (last_proposer scenario schedule n g) ≡ settle scenario schedule n g)

-- the rise is the last of the clock of group k before it gave message n a stamp, whose time is the next: it is by a moment there before that one, and each moment there before it has a stamp of less time
pub record IsRiseBefore (scenario : Scenario) (schedule : Schedule) (n k : ℕ) (rise : Rise) : Type 0 where
  pub goes : GoesTo scenario rise.moment.message k
  pub moment : (rise.moment ≡ arrival_of scenario schedule rise.moment.message k) ⊎ (rise.moment ≡ commit_of scenario schedule rise.moment.message k)
  pub stamped : rise.stamped ≡ stamped_at scenario schedule rise.moment.kind rise.moment.message k
  pub before : IsTrue (is_before rise.moment (arrival_of scenario schedule n k))
  pub next : (local_stamp scenario schedule n k).time ≡ rise.stamped.stamp.time + 1
  pub arrivals_below : (m : ℕ) → GoesTo scenario m k → IsTrue (is_before (arrival_of scenario schedule m k) rise.moment)
      → (local_stamp scenario schedule m k).time < rise.stamped.stamp.time
  pub commits_below : (m : ℕ) → GoesTo scenario m k → IsTrue (is_before (commit_of scenario schedule m k) rise.moment)
      → (final_stamp scenario schedule m).time < rise.stamped.stamp.time

-- each of the rises is the last before the stamp of the one above it, the first before that of message n at group k, and the last has a stamp of time 1
abbrev pub AreRisesBefore : Scenario → Schedule → ℕ → ℕ → List Rise → Type 0
AreRisesBefore scenario schedule n k [] = (local_stamp scenario schedule n k).time ≡ 1
AreRisesBefore scenario schedule n k (rise ∷ rises) =
    IsRiseBefore scenario schedule n k rise × AreRisesBefore scenario schedule rise.moment.message rise.stamped.stamp.group rises

-- What is told to raise clocks to the time of a final stamp does so.
abbrev pub RisesRaise : Type 0
RisesRaise =
    (scenario : Scenario) (schedule : Schedule) → IsScenario scenario → (m : ℕ) → m < length scenario.multicasts
    → AreRisesBefore scenario schedule m (final_stamp scenario schedule m).group (rises_of scenario schedule m)
