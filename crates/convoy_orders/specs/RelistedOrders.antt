-- The law of the listed order, said of drafts.
use Rattle.std.specs.Prelude.{◌≡◌, ℕ, ◌+◌, ◌<◌, ◌≤◌, List, length, Contains}
use Rattle.convoy_draft.specs.Draft.{Draft}
use Rattle.convoy_scenario.specs.Scenario.{Scenario, GoesTo}
use Rattle.convoy_sim.specs.Greatest.{IsUpper, IsGreatest}
use Rattle.convoy_ceiling.specs.Ceiling.{ceiling_of}
use Rattle.convoy_orders.specs.GreatestAt.{IsLate}
use Rattle.convoy_orders.specs.Relisted.{AreOfOneDraft, number_in}

-- the target's group stands behind all others
abbrev pub IsTargetLast : Scenario → Type 0
IsTargetLast scenario = scenario.target_group + 1 ≡ length scenario.groups

-- A latency that a scenario never exceeds is not exceeded with the target's group listed last.
abbrev pub TargetListedLastIsBest : Type 0
TargetListedLastIsBest =
    (draft : Draft) (names : List (List ℕ)) (scenario last : Scenario) (latency : ℕ) → AreOfOneDraft draft names scenario last → IsTargetLast last
    → IsUpper scenario latency
    → IsUpper last latency

-- The greatest latency with the target's group listed last is the least of those in all orders of the groups.
abbrev pub TargetListedLastIsLeast : Type 0
TargetListedLastIsLeast =
    (draft : Draft) (names : List (List ℕ)) (scenario last : Scenario) (latency least : ℕ) → AreOfOneDraft draft names scenario last → IsTargetLast last
    → IsGreatest scenario latency → IsGreatest last least
    → least ≤ latency

-- The ceiling of a draft is the same with its groups listed in any other order.
abbrev pub CeilingOfDraftIsSame : Type 0
CeilingOfDraftIsSame = (draft : Draft) (names : List (List ℕ)) (scenario other : Scenario) → AreOfOneDraft draft names scenario other → ceiling_of other ≡ ceiling_of scenario

-- with its groups listed by these names, message m is so late at group g, and all destinations of m that stand behind g are among these groups
pub record IsHeldUpIn (draft : Draft) (scenario : Scenario) (names : List (List ℕ)) (groups : List ℕ) (m g latency : ℕ) : Type 0 where
  pub listed : Scenario
  pub of_draft : AreOfOneDraft draft names scenario listed
  pub goes : GoesTo scenario m g
  pub behind : (h : ℕ) → GoesTo scenario m h → number_in names draft.groups g < number_in names draft.groups h → Contains groups h
  pub run : IsLate listed m (number_in names draft.groups g) latency

-- Where each of some groups of a draft has a message that is so late there in some order, with none of the message's destinations but some of these groups behind it, one of these messages is so late at its group in every order.
abbrev pub NoOrderOfDraftIsBelow : Type 0
NoOrderOfDraftIsBelow =
    (draft : Draft) (names : List (List ℕ)) (scenario other : Scenario) (groups : List ℕ) (order : ℕ → List (List ℕ)) (message latency : ℕ → ℕ)
    → AreOfOneDraft draft names scenario other → 0 < length groups
    → ((g : ℕ) → Contains groups g → IsHeldUpIn draft scenario (order g) groups (message g) g (latency g))
    → (g : ℕ) × Contains groups g × IsLate other (message g) (number_in names draft.groups g) (latency g)
