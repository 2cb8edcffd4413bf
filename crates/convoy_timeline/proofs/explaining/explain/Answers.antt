use Rattle.convoy_timeline.proofs.ExplanationTruth.{explanation-true}
use Rattle.convoy_timeline.proofs.explaining.explain.Goals as goal

pub returns : goal.returns
returns c =
    rw (c.explain_told.ensures)
    (explanation-true c.args.instance.now c.args.schedule.now c.args.run.now c.final_stamp_is_local.ensures
    c.local_stamp_names_group.ensures c.holders_hold.ensures c.last_proposals_commit.ensures
    c.group_count-groups.ensures.lawful c.requires.run)
