use Rattle.std.proofs.Common.{◌≡◌, IfOk, subst, sym}
use Rattle.convoy_regions.specs.Regions.{Region}
use Rattle.convoy_checker.proofs.StepLimits.{lead_steps_of_itself}
use Rattle.convoy_checker.proofs.steps.moved_lead_steps.Goals as goal

pub returns-in-None : goal.returns-in-None
returns-in-None c =
    let scenario = c.args.origin.now in
    let region : Region = record { ranges = c.args.delay_box.now; before = c.args.before.now } in
    let none = c.in-None.ensures.none in
    let own = c.widened_region_is_itself.ensures scenario region none c.in-None.ensures.lawful (record { inside = c.requires.inside; within = c.requires.within }) in
    let same = lead_steps_of_itself scenario region c.args.latency (c.widened_is_itself.ensures scenario none) own in
    subst (λ count. IfOk c.lead_steps.result (λ steps. steps ≡ count)) (sym same) (rw c.instance.ensures.value at c.lead_steps.ensures)

pub returns-in_ok-wide-in-Some : goal.returns-in_ok-wide-in-Some
returns-in_ok-wide-in-Some c = rw (c.in-Some.ensures.some, c.in_ok-wide-in-Some.ensures.value) at c.lead_steps-in-Some.ensures
