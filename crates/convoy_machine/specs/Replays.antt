-- What holds in each state that lawful events lead to.
use Rattle.std.specs.Prelude.{◌≡◌, ◌⊎◌, ℕ, ◌≤◌, ◌==◌, Bool, false, not, IsTrue, if◌then◌else◌, List}
use Rattle.std.specs.List.{All, Any, count_by, sum_by}
use Rattle.convoy_scenario.specs.Scenario.{Scenario}
use Rattle.convoy_packets.specs.Assignment.{Schedule, IsAssignment}
use Rattle.convoy_sim.specs.Delivery.{latency_of}
use Rattle.convoy_sim.specs.Greatest.{IsGreatest}
use Rattle.convoy_sim.specs.Record.{IsAttained}
use Rattle.convoy_intervals.specs.Boxes.{IsIn}
use Rattle.convoy_machine.specs.declared.parts.Branch.{Branch}
use Rattle.convoy_machine.specs.declared.parts.BranchState.{BranchState}
use Rattle.convoy_machine.specs.declared.event.Event.{Event}
use Rattle.convoy_machine.specs.declared.event.Event.TheVariants.{Publish, Split, Close}
use Rattle.convoy_machine.specs.Machine.{Core, is_left, stands}

-- the record of an event is of the scenario
abbrev pub IsEventOf : Scenario → Event → Type 0
IsEventOf scenario (Publish worker found) = found.scenario ≡ scenario
IsEventOf scenario event = Unit {0}

-- the record of an event is attained, as each record is
abbrev pub IsFound : Event → Type 0
IsFound (Publish worker found) = IsAttained found
IsFound event = Unit {0}

-- how many branches are left to be searched: free, or taken by a worker
abbrev pub left_of : Core → ℕ
left_of core = count_by (λ branch. is_left branch.state) core.branches

-- the schedule is a member of a branch that is left
abbrev pub IsLeftIn : Schedule → List Branch → Type 0
IsLeftIn schedule branches = Any (λ branch. IsTrue (is_left branch.state) × IsIn branch.delay_box schedule) branches

-- whether a branch was split or closed
abbrev pub is_done : BranchState → Bool
is_done state = not (is_left state)

-- whether the event splits or closes the branch
abbrev pub ends : ℕ → Event → Bool
ends branch (Split worker split packet at) = split == branch
ends branch (Close worker closed) = closed == branch
ends branch event = false

-- the tickets that were drawn, and those that were spent
abbrev pub tickets_drawn : Core → ℕ
tickets_drawn core = sum_by (λ worker. worker.drawn) core.workers

abbrev pub tickets_spent : Core → ℕ
tickets_spent core = sum_by (λ worker. worker.spent) core.workers

-- The state that lawful events lead to.
pub record IsReplayed (scenario : Scenario) (events : List Event) (core : Core) : Type 0 where
  -- the best record is one of the scenario
  pub of_scenario : core.best.scenario ≡ scenario
  pub attained : IsAttained core.best
  -- no assignment is lost: it is in a branch that is left, or is no slower than the best record
  pub covered : (schedule : Schedule) → IsAssignment scenario schedule → (latency_of scenario schedule ≤ core.best.latency) ⊎ IsLeftIn schedule core.branches
  -- where no branch is left, the best latency is the greatest
  pub greatest : left_of core ≡ 0 → IsGreatest scenario core.best.latency
  -- each branch was split or closed once at most, and at the end of its search
  pub once : (branch : ℕ) → count_by (ends branch) events ≡ (if stands is_done core.branches branch then 1 else 0)
  -- a ticket was spent for each branch that was split or closed, and each worker spent its own
  pub spent : count_by (λ branch. is_done branch.state) core.branches ≡ tickets_spent core
  pub own : All (λ worker. worker.spent ≤ worker.drawn) core.workers
  pub drawn : tickets_spent core ≤ tickets_drawn core
