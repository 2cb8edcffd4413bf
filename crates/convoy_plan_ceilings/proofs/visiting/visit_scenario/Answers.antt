use Rattle.convoy_plan_ceilings.proofs.Passing.{after_found}
use Rattle.convoy_plan_ceilings.proofs.visiting.visit_scenario.Goals as goal

pub returns : goal.returns
returns c =
    let after =
    after_found c.args.wanted c.args.plan.now c.args.standing.chosen c.in_ok-found.found c.better_of.result c.args.placement.items c.args.scenario c.requires.made
    c.in_ok-found.ensures.scenario c.requires.standing.chosen c.in_ok-found.ensures.choice c.better_of.ensures in
    record {
      standing = record { chosen = after.chosen; leasts = c.learn.ensures };
      fallen = after.fallen;
      passed = after.passed;
    }
