use Rattle.std.proofs.Common.{◌∙◌, ap, refl, sym}
use Rattle.convoy_sim.specs.Times.{settle}
use Rattle.convoy_intervals.specs.Boxes.{greatest_of}
use Rattle.convoy_regions.specs.Stages.{moment_by}
use Rattle.convoy_regions.specs.Regions.{run_of}
use Rattle.convoy_regions.proofs.SameLatency.{same_settle}
use Rattle.convoy_regions.proofs.Walks.{group_known}
use Rattle.convoy_regions.proofs.ties.tick_of.Goals as goal

pub span-span-requires-clause-group : goal.span-span-requires-clause-group
span-span-requires-clause-group c =
    rw c.requires.of_scenario
    (group_known c.args.instance.now c.args.stage.message c.args.stage.group c.scenario-scenario.ensures.lawful c.requires.stage.goes)

pub returns-in-Commit : goal.returns-in-Commit
returns-in-Commit c before =
    let plan = c.args.instance.now in
    let ranges = c.args.tracked.now.delay_box in
    let m = c.args.stage.message in
    let g = c.args.stage.group in
    ap (λ span. span.settling.1) c.span-span.ensures
    ∙ ap (λ p. settle p (greatest_of ranges) m g) c.requires.of_scenario
    ∙ sym (same_settle plan (run_of plan (record { ranges = ranges; before = before })) (greatest_of ranges) refl m g)
    ∙ ap (λ kind. (moment_by kind plan (run_of plan (record { ranges = ranges; before = before })) m g).tick) (sym c.in-Commit.is)
