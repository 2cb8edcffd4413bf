use Rattle.std.proofs.Common.{◌<◌, length, slice_index_or, ap, ap₂, ◌∙◌, arith}
use Rattle.convoy_scenario.specs.Scenario.{message_at}
use Rattle.convoy_intervals.specs.Spans.{tables_in, no_span, span_place}
use Rattle.convoy_intervals.proofs.Destinations.{group_of_goes}
use Rattle.convoy_intervals.proofs.Rivals.{passing_step, passing_end, plain_bound_over_told}
use Rattle.convoy_intervals.proofs.bounds.bound_over.Goals as goal
use Rattle.convoy_intervals.proofs.bounds.bound_over.Goals.{After-target_group-group, then-is_rival_by, else-is_rival_by}

target_known : (c : After-target_group-group) → c.target_group-group.result < length c.args.instance.now.groups
target_known c =
    let well = c.target_group-group.ensures.lawful in
    let known = group_of_goes c.args.instance.now well c.args.instance.now.target_message c.args.instance.now.target_group well.addressed in
    omega (arith, known, c.target_group-group.ensures.value)

pub place-requires-clause-group : goal.place-requires-clause-group
place-requires-clause-group c = target_known (goal.at.place-requires-clause-group c).After-target_group-group

pub place-requires-in-loop-message-clause-group : goal.place-requires-in-loop-message-clause-group
place-requires-in-loop-message-clause-group c =
    target_known (goal.at.place-requires-in-loop-message-clause-group c).After-target_group-group

pub loop-message-preserved : goal.loop-message-preserved
loop-message-preserved c =
    passing_step _ _ _ _ c.loop-message.last _ c.loop-message.message _ c.loop-message-test.true (elim c.if-is_rival_by.branch [ then-is_rival_by w ↦ grind arith | else-is_rival_by w ↦ grind arith ]) c.loop-message.invariant

pub returns : goal.returns
returns c =
    let plan = c.args.instance.now in
    let spans = c.args.spans.now in
    let target = c.target_message-target.ensures.value in
    let group = c.target_group-group.ensures.value in
    let first = ap (λ i. (slice_index_or spans i no_span).settling.1) (c.place.ensures.value ∙ ap₂ (span_place plan) target group) in
    let total = passing_end _ _ _ _ c.loop-message.last c.loop-message.message _ c.loop-message-test.false c.loop-message.invariant in
    plain_bound_over_told plan (tables_in plan spans) _ _ _ _ _ first total c.message_count-message-end.ensures.value (c.issue_tick.ensures.value ∙ ap (λ m. (message_at plan m).at) target) c.saturating_sub.ensures
