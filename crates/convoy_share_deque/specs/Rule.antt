-- The rule of the deque, which holds between any two steps, and what each step tells.
use Rattle.std.specs.Prelude.{◌≡◌, ℕ, ◌+◌, ◌-◌, ◌<◌, List, [], ◌∷◌, ◌++◌, true, false, length, None}
use Rattle.std.specs.List.{All, sum_by}
use mathlib.Core.Option.{some}
use lib.ListN.{get_elem?}
use Rattle.convoy_draft.specs.declared.time.Time.TheVariants.{Ticks}
use Rattle.convoy_shares.specs.Shares.{once_below}
use Rattle.convoy_scenario.specs.Scenario.{Scenario}
use Rattle.convoy_regions.specs.Regions.{Region}
use Rattle.convoy_share_deque.specs.declared.rule.View.{View}
use Rattle.convoy_share_deque.specs.declared.task.Task.{Task}
use Rattle.convoy_share_deque.specs.Tasks.{whole_share, tasks_at, AreAllTaken, IsOf, IsPut}

-- no scenario, until the first branch is put
abbrev pub no_scenario : Scenario
no_scenario = record { time = Ticks; tick = None; delay = 0; groups = []; places = []; links = []; multicasts = []; target_message = 0; target_group = 0 }

-- the view of the owner of a new deque
abbrev pub opener : View
opener = record { scenario = no_scenario; share = whole_share; owns = true; put = []; taken = [] }

-- what is left of the view of a thief that was joined
abbrev pub nobody : View
nobody = record { scenario = no_scenario; share = 0; owns = false; put = []; taken = [] }

-- what the owner keeps where a thief gets its share
abbrev pub kept_share : View → View
kept_share view = record view { share = view.share - 1 }

abbrev pub given_share : View → View
given_share view = record { scenario = view.scenario; share = 1; owns = false; put = []; taken = [] }

-- the owner with a thief joined
abbrev pub joined : View → View → View
joined view other = record view { share = view.share + other.share; taken = view.taken ++ other.taken }

abbrev pub after_put : View → Task → View
after_put view task = record view { scenario = task.branch.scenario; put = view.put ++ task.branch.region ∷ [] }

abbrev pub after_take : View → Task → View
after_take view task = record view { taken = view.taken ++ task ∷ [] }

-- of the view in a seat: it names the scenario, the owner is in its own seat and knows what was put, each task that was taken is right, and a view without a share has none
pub record IsRight (scenario : Scenario) (owner_seat : ℕ) (put : List Region) (seat : ℕ) (view : View) : Type 0 where
  pub named : 0 < view.share → view.scenario ≡ scenario
  pub owner : view.owns ≡ true → (seat ≡ owner_seat) × (view.put ≡ put)
  pub right : All (IsPut put) view.taken
  pub empty : view.share ≡ 0 → view.taken ≡ []

-- each branch that was put stands among the tasks of the deque or was taken by one of the views, once, and the shares of all views are the whole
pub record IsKept (scenario : Scenario) (owner_seat : ℕ) (put : List Region) (tasks : List Task) (views : List View) : Type 0 where
  pub once : (x : ℕ) → sum_by (λ view. tasks_at x view.taken) views + tasks_at x tasks ≡ once_below x (length put)
  pub right : All (IsPut put) tasks
  pub of_scenario : All (IsOf scenario) tasks
  pub shares : sum_by (λ view. view.share) views ≡ whole_share
  pub each : (seat : ℕ) (view : View) → get_elem? views seat ≡ some view → IsRight scenario owner_seat put seat view

abbrev pub Holds : List Task → List View → Type 0
Holds tasks views = (scenario : Scenario) × (owner_seat : ℕ) × (put : List Region) × IsKept scenario owner_seat put tasks views

-- the branch was put
abbrev pub HasPut : View → List Task → View → Type 0
HasPut before [] after = Unit {0}
HasPut before (task ∷ tasks) after = after ≡ after_put before task

-- a task was taken, of the scenario, and as the owner put it
abbrev pub HasTaken : View → List Task → View → Type 0
HasTaken before [] after = Unit {0}
HasTaken before (task ∷ tasks) after =
    (after ≡ after_take before task) × IsOf before.scenario task × (before.owns ≡ true → IsPut before.put task)

-- an owner with the whole share that finds none knows that all was taken
abbrev pub IsEmptied : View → Type 0
IsEmptied view = view.owns ≡ true → view.share ≡ whole_share → AreAllTaken view.put view.taken
