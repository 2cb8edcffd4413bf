-- Why no order of a scenario's groups is below an excess: a target at a group that is listed last, with a schedule in which it is so late.
use Rattle.std.specs.Prelude.{◌≡◌, ℕ, List, [], ◌∷◌, ◌++◌, Ok}
use Rattle.convoy_scenario.specs.Scenario.{Scenario}
use Rattle.convoy_sim.specs.Greatest.{IsReached}
use Rattle.convoy_best_order.specs.declared.excess.Excess.{Excess}
use Rattle.convoy_best_order.specs.declared.target.Target.{Target}
use Rattle.convoy_best_order.specs.Excesses.{IsAtMost}
use Rattle.convoy_best_order.specs.Orders.{IsOrder, listed}
use Rattle.convoy_best_order.specs.Targets.{asked_of, limit_of}

-- It is the scenario of which the latency of the target is asked, with the groups in some order in which that of the target stands last.
pub record IsLastListed (scenario : Scenario) (target : Target) (instance : Scenario) : Type 0 where
  pub ahead : List ℕ
  pub is : IsOrder scenario (ahead ++ target.group ∷ [])
  pub made : listed (asked_of scenario target) (ahead ++ target.group ∷ []) ≡ Ok instance

-- some schedule of that scenario exceeds the limit of the target by so much, or by more
abbrev pub IsPast : Scenario → Target → Excess → Type 0
IsPast instance target least =
    (latency : ℕ) × IsReached instance latency × IsAtMost least (record { latency = latency; limit = limit_of target })
