use Rattle.std.proofs.Common.{ℕ, List, ap, ap₂, sym, subst, ◌∙◌}
use Rattle.convoy_scenario.specs.Scenario.{Scenario}
use Rattle.convoy_packets.specs.Assignment.{Schedule}
use Rattle.convoy_finishes.specs.Finishes.{IsReachedUnder, finish_latency}
use Rattle.convoy_finishes.proofs.finish_run.finish_latency.Goals as goal

pub returns-clause-value : goal.returns-clause-value
returns-clause-value c =
    let run = c.in_ok-run.ensures in
    c.latency-latency.ensures
    ∙ ap (λ (s : Scenario). finish_latency s c.in_ok-run.run'.ways c.in_ok-run.run'.schedule) run.scenario
    ∙ ap₂ (λ (ways : List ℕ) (schedule : Schedule). finish_latency c.args.instance.now ways schedule) run.ways run.schedule

pub returns-clause-reached : goal.returns-clause-reached
returns-clause-reached c =
    let plan = c.args.instance.now in
    let schedule = c.args.schedule.now in
    let ways = c.args.ways.now in
    let reached = (c.latest_finishes.ensures plan schedule ways c.scenario-scenario.ensures.lawful).0 in
    (schedule, c.requires.assignment, subst (λ (latency : ℕ). IsReachedUnder plan schedule ways latency) (sym (returns-clause-value c)) reached)
