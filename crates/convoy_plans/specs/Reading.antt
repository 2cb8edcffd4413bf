-- The plan of a text.
use Rattle.std.specs.Prelude.{ℕ, if◌then◌else◌, List, map, slice_index_or, Option, Result, Ok, Err}
use Rattle.toml.specs.Data.{Members}
use Rattle.convoy_draft.specs.declared.duration.TimeUnit.{TimeUnit}
use Rattle.convoy_draft.specs.declared.fault.ScenarioFault.{ScenarioFault}
use Rattle.convoy_draft.specs.declared.fault.ScenarioFault.TheVariants as scenario
use Rattle.convoy_lines.specs.Results.{◌>>=◌}
use Rattle.convoy_scenario.specs.Scenario.{Scenario as AnyScenario}
use Rattle.convoy_toml.specs.declared.asked.Asked.{Asked}
use Rattle.convoy_toml.specs.Deadlines.{deadlines_of_written}
use Rattle.convoy_toml.specs.Reading.{table_of_text}
use Rattle.convoy_toml.specs.Shape.{unit_of_table}
use Rattle.convoy_toml.specs.Times.{bundles_of, draft_of_written, tick_of}
use Rattle.convoy_plans.specs.declared.fault.PlanFault.{PlanFault}
use Rattle.convoy_plans.specs.declared.fault.PlanFault.TheVariants.{Scenario, NoRange}
use Rattle.convoy_plans.specs.Checks.{checks, judge}
use Rattle.convoy_plans.specs.Numbering.{plan_in}
use Rattle.convoy_plans.specs.Placements.{scenario_at}
use Rattle.convoy_plans.specs.Plans.{Plan, WrittenPlan}
use Rattle.convoy_plans.specs.Shape.{of_scenario, plan_of_table}
use Rattle.convoy_plans.specs.Told.{is_told}

-- each group at the first of its sites
abbrev pub first_placement : Plan → List ℕ
first_placement plan = map (λ sites. slice_index_or sites 0 0) plan.housed

-- the fault of a scenario, but that a range is not written, which is asked of all placements
abbrev pub fault_of : Result AnyScenario ScenarioFault → Result (Unit {0}) PlanFault
fault_of (Ok made) = Ok tt
fault_of (Err scenario.NoRange) = Ok tt
fault_of (Err fault) = Err (Scenario fault)

-- ranges have to be written wherever a packet may travel
abbrev pub need_told : Plan → Result (Unit {0}) PlanFault
need_told plan = if is_told plan then Ok tt else Err NoRange

-- the plan with these numbers, if its scenarios have no fault
abbrev pub judged : Plan → Result Plan PlanFault
judged plan = do
  _ ← need_told plan
  _ ← fault_of (scenario_at plan (first_placement plan))
  Ok plan

-- the plan that is written so: its times in ticks first, then the rules, then its deadlines, and then what is faulty in its scenarios
abbrev pub plan_of_written : Asked → Option TimeUnit → WrittenPlan → Result Plan PlanFault
plan_of_written asked unit written = do
  draft ← of_scenario (draft_of_written written.scenario)
  tick ← of_scenario (tick_of written.scenario)
  bundles ← of_scenario (bundles_of tick written.scenario.links)
  _ ← judge (checks written draft)
  deadlines ← of_scenario (deadlines_of_written asked.at_most written.scenario)
  judged (plan_in written tick unit bundles deadlines)

-- what a table gives, where that is asked: its shape first, then what is said of that
abbrev pub plan_of_members : Asked → Members → Result Plan PlanFault
plan_of_members asked table = plan_of_table asked.target table >>= plan_of_written asked (unit_of_table table)

-- what a text gives, where that is asked
abbrev pub plan_of_text : Asked → List ℕ → Result Plan PlanFault
plan_of_text asked text = of_scenario (table_of_text text) >>= plan_of_members asked
