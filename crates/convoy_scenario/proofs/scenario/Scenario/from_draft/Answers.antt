use Rattle.std.proofs.Common.{◌≡◌, Ok, inl, rules, ap, sym, subst, ◌∙◌}
use Rattle.convoy_draft.specs.declared.limits.TheConstants.{GREATEST_DELAY}
use Rattle.convoy_draft.specs.Checks.{ticks}
use Rattle.convoy_scenario.specs.Numbering.{scenario_of}
use Rattle.convoy_scenario.specs.Scenario.{Scenario}
use Rattle.convoy_scenario.specs.WellFormed.{IsScenario}
use Rattle.convoy_scenario.proofs.GivenScenarios.{given, refused, room_is}
use Rattle.convoy_scenario.proofs.NumberedLemmas.{parts_numbered, scenario_formed}
use Rattle.convoy_scenario.proofs.RoomLemmas.{room_told}
use Rattle.convoy_scenario.proofs.scenario.Scenario.from_draft.Goals as goal

pub invariant_of-result : goal.invariant_of-result
invariant_of-result c =
    let delay : c.delay_ticks-delay.result ≡ ticks GREATEST_DELAY c.draft.inside.delay = search rules in
    let numbered =
    parts_numbered c.args.draft _ _ _ _ _ _ _ _ _ c.draft.view_is delay c.deref-3.ensures.value c.deref-4.ensures.value c.deref-5.ensures.value c.in_ok-links.ensures
    c.deref-6.ensures.value c.deref-7.ensures.value c.in_ok-multicasts.ensures c.deref.ensures.value c.message_place-target_message.ensures c.deref-2.ensures.value c.place-target_group.ensures in
    let room = room_is _ c.args.draft _ c.has_room.result numbered c.deref-8.ensures.value c.has_room.ensures ∙ c.if-not-has_room.false in
    subst IsScenario (sym numbered) (scenario_formed c.args.draft (sym c.in_ok-check.ensures) (room_told (scenario_of c.args.draft) room))

pub returns-then-not-has_room : goal.returns-then-not-has_room
returns-then-not-has_room c =
    let delay : c.delay_ticks-delay.result ≡ ticks GREATEST_DELAY c.draft.inside.delay = search rules in
    let numbered =
    parts_numbered c.args.draft _ _ _ _ _ _ _ _ _ c.draft.view_is delay c.deref-3.ensures.value c.deref-4.ensures.value c.deref-5.ensures.value c.in_ok-links.ensures
    c.deref-6.ensures.value c.deref-7.ensures.value c.in_ok-multicasts.ensures c.deref.ensures.value c.message_place-target_message.ensures c.deref-2.ensures.value c.place-target_group.ensures in
    let none = room_is _ c.args.draft _ c.has_room.result numbered c.deref-8.ensures.value c.has_room.ensures ∙ c.if-not-has_room.true in
    inl (sym (refused c.args.draft (sym c.in_ok-check.ensures) none))

pub returns : goal.returns
returns c =
    let delay : c.delay_ticks-delay.result ≡ ticks GREATEST_DELAY c.draft.inside.delay = search rules in
    let numbered =
    parts_numbered c.args.draft _ _ _ _ _ _ _ _ _ c.draft.view_is delay c.deref-3.ensures.value c.deref-4.ensures.value c.deref-5.ensures.value c.in_ok-links.ensures
    c.deref-6.ensures.value c.deref-7.ensures.value c.in_ok-multicasts.ensures c.deref.ensures.value c.message_place-target_message.ensures c.deref-2.ensures.value c.place-target_group.ensures in
    let room = room_is _ c.args.draft _ c.has_room.result numbered c.deref-8.ensures.value c.has_room.ensures ∙ c.if-not-has_room.false in
    inl (sym (given c.args.draft (sym c.in_ok-check.ensures) room ∙ ap (λ (s : Scenario). Ok s) (sym numbered)))
