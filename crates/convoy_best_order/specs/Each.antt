-- What is answered for each target, and for each group that is left.
use Rattle.std.specs.Prelude.{◌≡◌, ℕ, ◌++◌, List, slice_get, IsTrue, All, Option, Some, Result, IfOk}
use Rattle.std.specs.declared.alloc.AllocError.{AllocError}
use Rattle.convoy_scenario.specs.Scenario.{Scenario}
use Rattle.convoy_branch.specs.Options.{Settings}
use Rattle.convoy_best_order.specs.declared.best.Reason.{Reason}
use Rattle.convoy_best_order.specs.declared.best.Row.{Row}
use Rattle.convoy_best_order.specs.declared.target.Target.{Target}
use Rattle.convoy_best_order.specs.Best.{IsReason, IsRow, group_of}
use Rattle.convoy_best_order.specs.Choices.{AreKept, IsDear, with_next}
use Rattle.convoy_best_order.specs.Orders.{IsOrder}
use Rattle.convoy_best_order.specs.Targets.{MayBeTarget, has_target}

-- The row is that of the target, and tells how late it is with the groups as they are, and with the groups in that order.
pub record IsRowOf (settings : Settings) (span : Option ℕ) (scenario : Scenario) (order : List ℕ) (target : Target) (row : Row) : Type 0 where
  pub of_target : row.target ≡ target
  pub told : IsRow settings span scenario order row

-- what may be answered for a target: its row, or that memory ran out
abbrev pub MayBeRow : Settings → Option ℕ → Scenario → List ℕ → Target → Result Row AllocError → Type 0
MayBeRow settings span scenario order target answer = IfOk answer (IsRowOf settings span scenario order target)

-- Those that stand ahead and those that are left are all groups, and at each that is left there is a target.
pub record MayBeNext (scenario : Scenario) (targets : List Target) (ahead left : List ℕ) : Type 0 where
  pub lawful : All (MayBeTarget scenario) targets
  pub order : IsOrder scenario (ahead ++ left)
  pub some : All (λ g. IsTrue (has_target targets g)) left

-- The reason is that of the group at this place of those that are left. Where the group is listed next each target at it keeps what it costs, and the reason is dear enough.
pub record IsReasonAt (settings : Settings) (span : Option ℕ) (scenario : Scenario) (targets : List Target) (ahead left : List ℕ) (place : ℕ) (reason : Reason) : Type 0 where
  pub at : slice_get left place ≡ Some (group_of reason)
  pub told : IsReason settings span scenario targets left reason
  pub kept : AreKept span scenario (with_next ahead left place) (group_of reason) reason.cost targets
  pub dear : IsDear settings span scenario targets reason

-- what may be answered for that group: its reason, or that memory ran out
abbrev pub MayBeReason : Settings → Option ℕ → Scenario → List Target → List ℕ → List ℕ → ℕ → Result Reason AllocError → Type 0
MayBeReason settings span scenario targets ahead left place answer = IfOk answer (IsReasonAt settings span scenario targets ahead left place)
