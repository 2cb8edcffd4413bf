use Rattle.std.proofs.Common.{ap, ◌∙◌}
use Rattle.convoy_intervals.specs.Bounds.{plain_bound_over}
use Rattle.convoy_intervals.specs.Spans.{tables_in}
use Rattle.convoy_intervals.proofs.TrackedBoxes.{plain_bound-spans}
use Rattle.convoy_intervals.proofs.tracked.Tracked.of.Goals as goal

pub invariant_of-result : goal.invariant_of-result
invariant_of-result c =
    let plan = c.args.instance.now in
    let over = c.bound_over-bound.ensures ∙ ap (λ spans. plain_bound_over plan (tables_in plan spans)) c.deref.ensures.value in
    rw (c.of.ensures, c.scenario.ensures.value) (record {
      well = c.delay-delay.ensures.lawful;
      inside = c.requires.inside;
      kept = c.requires.spans;
      bounded = over ∙ plain_bound-spans plan c.args.delay_box c.args.spans.items c.delay-delay.ensures.lawful c.requires.spans;
    })
