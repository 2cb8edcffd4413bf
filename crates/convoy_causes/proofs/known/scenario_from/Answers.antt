use Rattle.std.proofs.Common.{true, false, sym, ap₂, subst₂, ◌∙◌, arith}
use Rattle.std.proofs.lemmas.Bool.{and_from}
use Rattle.convoy_scenario.specs.Scenario.{GoesTo, Scenario}
use Rattle.convoy_scenario.specs.Targets.{may_be_target, with_target}
use Rattle.convoy_scenario.specs.Widened.{widened}
use Rattle.convoy_causes.proofs.MovedCauses.{addressed_told, count_told, known_told, none_behind, room_told_of}
use Rattle.convoy_causes.proofs.known.scenario_from.Goals as goal

pub with_target-requires-clause-room : goal.with_target-requires-clause-room
with_target-requires-clause-room c = c.may_be_target.ensures.room c.first_destination.result c.if-not-may_be_target.false

pub returns-then-not-may_be_target-2-clause-room :
    goal.returns-then-not-may_be_target-2-clause-room
returns-then-not-may_be_target-2-clause-room c =
    let plan : Scenario = c.args.scenario.now in
    none_behind (may_be_target plan c.args.message) (may_be_target (widened (with_target plan c.args.message plan.target_group)) plan.target_message)
    (room_told_of plan c.args.message c.first_destination.result c.in_ok-asked.asked c.in_ok-moved.moved c.in_ok-asked.ensures c.in_ok-moved.ensures
    c.target_message-target.result c.target_message-target.ensures.value false (sym c.may_be_target-2.ensures.value ∙ c.if-not-may_be_target-2.true))

pub with_target-requires-2-clause-known : goal.with_target-requires-2-clause-known
with_target-requires-2-clause-known c =
    let count = count_told c.args.scenario.now c.args.message c.first_destination.result c.in_ok-asked.asked c.in_ok-moved.moved c.in_ok-asked.ensures c.in_ok-moved.ensures in
    let target = c.target_message-target.ensures.value in
    let known = c.target_message-target.ensures.lawful.target in
    omega arith

pub with_target-requires-2-clause-addressed : goal.with_target-requires-2-clause-addressed
with_target-requires-2-clause-addressed c =
    let plan : Scenario = c.args.scenario.now in
    subst₂ (λ m g. GoesTo c.in_ok-moved.moved m g) (sym c.target_message-target.ensures.value) (sym c.target_group-group.ensures.value)
    (addressed_told plan c.args.message c.first_destination.result c.in_ok-asked.asked c.in_ok-moved.moved c.in_ok-asked.ensures c.in_ok-moved.ensures
    plan.target_message plan.target_group c.target_message-target.ensures.lawful.addressed)

pub with_target-requires-2-clause-room : goal.with_target-requires-2-clause-room
with_target-requires-2-clause-room c = c.may_be_target-2.ensures.room c.target_group-group.result c.if-not-may_be_target-2.false

pub returns-clause-some : goal.returns-clause-some
returns-clause-some c =
    c.in_ok-known.ensures
    ∙ ap₂ (λ m g. with_target c.in_ok-moved.moved m g) c.target_message-target.ensures.value c.target_group-group.ensures.value
    ∙ known_told c.args.scenario.now c.args.message c.first_destination.result c.in_ok-asked.asked c.in_ok-moved.moved c.in_ok-asked.ensures c.in_ok-moved.ensures

pub returns-clause-room : goal.returns-clause-room
returns-clause-room c =
    let plan : Scenario = c.args.scenario.now in
    sym (and_from (may_be_target plan c.args.message) (may_be_target (widened (with_target plan c.args.message plan.target_group)) plan.target_message)
    (sym c.may_be_target.ensures.value ∙ c.if-not-may_be_target.false)
    (room_told_of plan c.args.message c.first_destination.result c.in_ok-asked.asked c.in_ok-moved.moved c.in_ok-asked.ensures c.in_ok-moved.ensures
    c.target_message-target.result c.target_message-target.ensures.value true (sym c.may_be_target-2.ensures.value ∙ c.if-not-may_be_target-2.false)))
