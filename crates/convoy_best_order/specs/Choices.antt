-- Which group is listed next: of those that are left the one of which the greatest excess is the least, where all others that are left stand behind it.
use Rattle.std.specs.Prelude.{◌≡◌, ◌⊎◌, ℕ, ◌<◌, not, List, ◌∷◌, ◌++◌, length, filter, map, slice_index_or, Option, Some, None, All, Contains, if◌then◌else◌}
use Rattle.std.specs.List.{remove}
use Rattle.convoy_scenario.specs.Scenario.{Scenario}
use Rattle.convoy_branch.specs.Options.{Settings}
use Rattle.convoy_best_order.specs.declared.best.Reason.{Reason}
use Rattle.convoy_best_order.specs.declared.costs.Dearest.{Dearest}
use Rattle.convoy_best_order.specs.declared.excess.Excess.{Excess}
use Rattle.convoy_best_order.specs.declared.spread.Spread.{Spread}
use Rattle.convoy_best_order.specs.declared.target.Target.{Target}
use Rattle.convoy_best_order.specs.Best.{excess_of_reason}
use Rattle.convoy_best_order.specs.Excesses.{IsAtMost, IsLess, greater, is_less}
use Rattle.convoy_best_order.specs.OrderLaws.{IsKeptIn}
use Rattle.convoy_best_order.specs.Orders.{group_numbers}
use Rattle.convoy_best_order.specs.Spreads.{IsSpreadIn, MayStayOpen, least_excess, most_excess}
use Rattle.convoy_best_order.specs.Targets.{has_target}

-- those groups at which no target is, which are listed first, and the others
abbrev pub groups_without : List Target → Scenario → List ℕ
groups_without targets scenario = filter (λ g. not (has_target targets g)) (group_numbers scenario)

abbrev pub groups_with : List Target → Scenario → List ℕ
groups_with targets scenario = filter (has_target targets) (group_numbers scenario)

-- the groups that stand ahead, then that one of the rest which has this place, and then the others of the rest
abbrev pub with_next : List ℕ → List ℕ → ℕ → List ℕ
with_next ahead left place = ahead ++ slice_index_or left place 0 ∷ remove left place

-- of the targets so far and one more the one with the greater excess at least; the greatest excess at most is kept beside it
abbrev pub dearer : Option Dearest → Target → Spread → Dearest
dearer None target spread = record { target = target; spread = spread; most = most_excess target spread }
dearer (Some dearest) target spread =
    if is_less (least_excess dearest.target dearest.spread) (least_excess target spread)
    then record { target = target; spread = spread; most = greater dearest.most (most_excess target spread) }
    else record { target = dearest.target; spread = dearest.spread; most = greater dearest.most (most_excess target spread) }

-- It is one of these targets, at this group, and so late with the groups in that order. It exceeds its limit at least by as much as is told at most, unless some search may stay open.
pub record IsDearest (settings : Settings) (span : Option ℕ) (scenario : Scenario) (targets : List Target) (order : List ℕ) (g : ℕ) (dearest : Dearest) : Type 0 where
  pub of_target : Contains targets dearest.target
  pub at : dearest.target.group ≡ g
  pub found : IsSpreadIn settings span scenario order dearest.target dearest.spread
  pub exact : IsAtMost dearest.most (least_excess dearest.target dearest.spread) ⊎ MayStayOpen settings span scenario targets

-- each of these targets that is at this group keeps that with the groups in that order
abbrev pub AreKept : Option ℕ → Scenario → List ℕ → ℕ → Excess → List Target → Type 0
AreKept span scenario order g most targets = All (λ target. target.group ≡ g → IsKeptIn span scenario order most target) targets

-- each of them keeps the most of the dearest; where there is no dearest none of them is at the group
abbrev pub AreKeptBy : Option ℕ → Scenario → List ℕ → ℕ → Option Dearest → List Target → Type 0
AreKeptBy span scenario order g None targets = All (λ target. target.group ≡ g → ⊥) targets
AreKeptBy span scenario order g (Some dearest) targets = AreKept span scenario order g dearest.most targets

-- what reasons cost
abbrev pub costs_of : List Reason → List Excess
costs_of reasons = map (λ reason. reason.cost) reasons

abbrev pub cost_at : List Excess → ℕ → Excess
cost_at costs place = slice_index_or costs place (record { latency = 0; limit = 0 })

-- Of the first costs, so many of them, that at this place is the least, and those before it are greater.
pub record IsCheapest (costs : List Excess) (count place : ℕ) : Type 0 where
  pub known : place < count
  pub least : (other : ℕ) → other < count → IsAtMost (cost_at costs place) (cost_at costs other)
  pub first : (other : ℕ) → other < place → IsLess (cost_at costs place) (cost_at costs other)

-- where one of the groups that are left is listed next, each target at it keeps what that costs
abbrev pub AreCosts : Option ℕ → Scenario → List Target → List ℕ → List ℕ → List Excess → Type 0
AreCosts span scenario targets ahead left costs =
    (place : ℕ) → place < length left
    → AreKept span scenario (with_next ahead left place) (slice_index_or left place 0) (cost_at costs place) targets

-- The target of the reason exceeds its limit at least by as much as its group costs, unless some search may stay open.
abbrev pub IsDear : Settings → Option ℕ → Scenario → List Target → Reason → Type 0
IsDear settings span scenario targets reason = IsAtMost reason.cost (excess_of_reason reason) ⊎ MayStayOpen settings span scenario targets

-- With the groups in that order the target keeps an excess that is at most that of each of these reasons.
pub record IsHeldBy (span : Option ℕ) (scenario : Scenario) (reasons : List Reason) (order : List ℕ) (target : Target) : Type 0 where
  pub excess : Excess
  pub kept : IsKeptIn span scenario order excess target
  pub within : All (IsAtMost excess) (map excess_of_reason reasons)

-- Each of these targets of which the group stands ahead does so, unless some search may stay open.
abbrev pub AreHeldBy : Settings → Option ℕ → Scenario → List Target → List Reason → List ℕ → List ℕ → Type 0
AreHeldBy settings span scenario targets reasons ahead left =
    All (λ target. Contains ahead target.group → IsHeldBy span scenario reasons (ahead ++ left) target) targets
    ⊎ MayStayOpen settings span scenario targets

-- what is at most the excess of each of the one reasons is at most that of each of the others
abbrev pub AreNoWeaker : List Reason → List Reason → Type 0
AreNoWeaker reasons others = (excess : Excess) → All (IsAtMost excess) (map excess_of_reason reasons) → All (IsAtMost excess) (map excess_of_reason others)
