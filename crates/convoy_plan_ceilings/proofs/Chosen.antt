-- What is proved of the choice with the least ceilings.
use Rattle.std.proofs.Common.{ℕ, ◌<◌, List, [], ◌∷◌, length, Option, sym, ap, subst, ◌∙◌, arith}
use Rattle.std.proofs.lemmas.List.{length-map}
use Rattle.convoy_scenario.specs.Scenario.{Scenario}
use Rattle.convoy_scenario.specs.ScenarioLaws.{DraftsGiveScenarios}
use Rattle.convoy_sim.proofs.Membership.{contains-in, in-map, in_of_contains, in_of_map}
use Rattle.convoy_ceiling.specs.Ceiling.{CeilingHolds}
use Rattle.convoy_plans.specs.Plans.{Plan}
use Rattle.convoy_best_order.specs.declared.target.Target.{Target}
use Rattle.convoy_best_order.specs.declared.wanted.Wanted.{Wanted}
use Rattle.convoy_best_order.specs.Excesses.{IsAtMost}
use Rattle.convoy_best_order.specs.Targets.{many_targets, or_asked, targets_of}
use Rattle.convoy_best_order.proofs.Counting.{some_count}
use Rattle.convoy_best_plan.specs.declared.floor.Floor.{Floor}
use Rattle.convoy_best_plan.specs.BestPlans.{targets_by}
use Rattle.convoy_best_plan.specs.Floors.{excess_at}
use Rattle.convoy_best_plan.specs.Totals.{total_of}
use Rattle.convoy_best_plan.proofs.Agreeing.{well_made}
use Rattle.convoy_plan_ceilings.specs.CeilingChoiceLaws.{ChosenCeilingHolds, NoCeilingIsLess}
use Rattle.convoy_plan_ceilings.specs.LeastCeilings.{excess_of, row_at, rows_at, worst_of}
use Rattle.convoy_plan_ceilings.proofs.Worst.{reached_by, worst_most, worst_one}

-- ---- some target counts
asked_some : (deadlines : List (Option ℕ)) (scenario : Scenario) (targets : List Target) → 0 < length (or_asked deadlines scenario targets)
asked_some deadlines scenario [] = omega arith
asked_some deadlines scenario (target ∷ targets) = omega arith

some_row : (wanted : Wanted) (plan : Plan) (scenario : Scenario) → 0 < length (rows_at wanted plan scenario)
some_row wanted plan scenario =
    let some = some_count (targets_of wanted plan.deadlines scenario) (asked_some plan.deadlines scenario (many_targets wanted plan.deadlines scenario)) in
    let long = length-map (targets_by wanted plan scenario) (row_at scenario) in
    omega (arith, some, long)

pub no_ceiling_less : NoCeilingIsLess
no_ceiling_less wanted plan chosen placement scenario is placed made =
    let worst = worst_one (rows_at wanted plan scenario) (some_row wanted plan scenario) in
    let of = in_of_map (row_at scenario) worst.0 (targets_by wanted plan scenario) worst.1 in
    let reached = reached_by chosen.reach (worst_of (rows_at wanted plan scenario)) (total_of scenario) (is.none_better placement placed scenario made) in (
      of.0,
      contains-in of.0 (targets_by wanted plan scenario) of.1,
      subst (IsAtMost (excess_at chosen.reach (total_of scenario))) (worst.2 ∙ ap excess_of (sym of.2)) reached,
    )

pub chosen_holds : DraftsGiveScenarios → CeilingHolds → ChosenCeilingHolds
chosen_holds given holds wanted plan chosen target is of =
    let scenario : Scenario = chosen.scenario in
    let i = in-map (row_at scenario) target (targets_by wanted plan scenario) (in_of_contains target (targets_by wanted plan scenario) of) in (
      holds scenario (well_made plan chosen.placement.items scenario is.choice.made given) target.message target.group,
      subst (λ (reach : Floor). IsAtMost (excess_of (row_at scenario target)) reach.least) (sym is.choice.reach)
          (worst_most (rows_at wanted plan scenario) (row_at scenario target) i),
    )
