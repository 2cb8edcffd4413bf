use Rattle.convoy_sim.proofs.Addressed.{number_of_goes}
use Rattle.convoy_timeline.specs.Causes.{stamp_explained}
use Rattle.convoy_timeline.proofs.ExplanationTruth.{rises-true}
use Rattle.convoy_timeline.proofs.rises.explain_stamp.Goals as goal

pub returns : goal.returns
unfolding stamp_explained
returns c =
    let plan = c.args.instance.now in
    let well = c.group_count-groups.ensures.lawful in
    let known = number_of_goes plan plan.target_message plan.target_group well.addressed in
    let told = rw c.target_message.ensures.value at c.rises_to.ensures in
    rw (← rises-true plan c.args.schedule.now c.args.run.now c.requires c.final_stamp_is_local.ensures
    c.local_stamp_names_group.ensures well plan.target_message known) told
