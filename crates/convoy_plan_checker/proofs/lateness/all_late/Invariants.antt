use Rattle.std.proofs.Common.{◌≡◌, drop}
use Rattle.std.specs.List.{list_all}
use Rattle.convoy_best_plan.specs.Floors.{excess_at}
use Rattle.convoy_plan_checker.specs.Lateness.{is_late}
use Rattle.convoy_plan_checker.proofs.lateness.all_late.Given as goal

-- all are late if those to come are
abbrev pub invariant-loop-witness : goal.invariant-loop-witness
invariant-loop-witness l =
    list_all (is_late l.scenario l.targets (excess_at l.floor l.total) l.groups) (drop l.witness-index l.witnesses)
    ≡ list_all (is_late l.scenario l.targets (excess_at l.floor l.total) l.groups) l.witnesses
