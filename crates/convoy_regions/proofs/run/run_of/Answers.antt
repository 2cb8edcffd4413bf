use Rattle.std.proofs.Common.{◌≡◌, subst, sym}
use Rattle.std.proofs.lemmas.Result.{IfOk-weaker}
use Rattle.convoy_packets.specs.Assignment.{IsAssignment, Schedule}
use Rattle.convoy_intervals.specs.Boxes.{IsIn}
use Rattle.convoy_regions.specs.Regions.{Region, run_of}
use Rattle.convoy_regions.proofs.run.run_of.Goals as goal

pub returns-clause-inside : goal.returns-clause-inside
returns-clause-inside c =
    let plan = c.args.instance.now in
    let region : Region = record { ranges = c.args.delay_box.now; before = c.args.before.now } in
    let law = c.run_is_assignment.ensures plan region (record { inside = c.requires.inside; within = c.requires.within }) in
    IfOk-weaker c.run_by.result (λ (schedule : Schedule). schedule ≡ run_of plan region) (IsIn c.args.delay_box.now) (λ schedule is. subst (IsIn c.args.delay_box.now) (sym is) law.0) c.run_by.ensures

pub returns-clause-lawful : goal.returns-clause-lawful
returns-clause-lawful c =
    let plan = c.args.instance.now in
    let region : Region = record { ranges = c.args.delay_box.now; before = c.args.before.now } in
    let law = c.run_is_assignment.ensures plan region (record { inside = c.requires.inside; within = c.requires.within }) in
    IfOk-weaker c.run_by.result (λ (schedule : Schedule). schedule ≡ run_of plan region) (IsAssignment plan) (λ schedule is. subst (IsAssignment plan) (sym is) law.1) c.run_by.ensures
