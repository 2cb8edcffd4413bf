-- What contracts see of a deque of branches: its owner's end, a thief's end, and the tasks.
use Rattle.std.specs.Prelude.{◌≡◌, ℕ, List, Some, length, slice_get, ◌==◌}
use Rattle.std.specs.List.{All, count_by}
use Rattle.std.specs.declared.alloc.Global.{Global}
use Rattle.atomic_blocks.specs.Lent.{RowsId}
use Rattle.convoy_shares.specs.Shares.{once_below}
use Rattle.convoy_scenario.specs.Scenario.{Scenario}
use Rattle.convoy_regions.specs.Regions.{Region}
use Rattle.convoy_share_deque.specs.declared.rule.View.{View}
use Rattle.convoy_share_deque.specs.declared.task.Task.{Task}

-- which deque it is
abbrev pub DequeId : Type 0
DequeId = RowsId × Global

-- the owner's end: its deque, the scenario of the branches, those that it put, by number, the tasks that it took, and its share
pub record OwnerEnd : Type 0 where
  pub deque : DequeId
  pub scenario : Scenario
  pub put : List Region
  pub taken : List Task
  pub share : ℕ

-- a thief's end: its deque, the scenario of the branches, and the tasks that it took
pub record ThiefEnd : Type 0 where
  pub deque : DequeId
  pub scenario : Scenario
  pub taken : List Task

-- the end of that deque of which the rule knows that view
abbrev pub owner_end : DequeId → View → OwnerEnd
owner_end deque view = record {
  deque = deque;
  scenario = view.scenario;
  put = view.put;
  taken = view.taken;
  share = view.share;
}

abbrev pub thief_end : DequeId → View → ThiefEnd
thief_end deque view = record { deque = deque; scenario = view.scenario; taken = view.taken }

abbrev pub list_length : List Region → ℕ
list_length regions = length regions

-- the share of an owner without thieves, and of an owner and all its thieves together
abbrev pub whole_share : ℕ
whole_share = 1024

-- the task's branch is of that scenario
abbrev pub IsOf : Scenario → Task → Type 0
IsOf scenario task = task.branch.scenario ≡ scenario

-- the task's branch is the one that was put under its number
abbrev pub IsPut : List Region → Task → Type 0
IsPut put task = slice_get put task.number ≡ Some task.branch.region

-- how many of the tasks have that number
abbrev pub tasks_at : ℕ → List Task → ℕ
tasks_at x tasks = count_by (λ task. task.number == x) tasks

-- each branch that was put was taken, once
pub record AreAllTaken (put : List Region) (taken : List Task) : Type 0 where
  pub once : (x : ℕ) → tasks_at x taken ≡ once_below x (length put)
  pub right : All (IsPut put) taken
