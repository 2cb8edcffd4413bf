use Rattle.std.proofs.Common.{List, ap, sym, ◌∙◌}
use Rattle.convoy_scenario.specs.Room.{has_room}
use Rattle.convoy_scenario.specs.Scenario.{Message, Scenario}
use Rattle.convoy_scenario.specs.Targets.{with_target}
use Rattle.convoy_scenario.proofs.RoomLemmas.{room_told}
use Rattle.convoy_scenario.proofs.scenario.Scenario.may_be_target.Goals as goal

pub returns-clause-value : goal.returns-clause-value
returns-clause-value c =
    let plan = with_target c.args.self.now c.args.message 0 in
    c.has_room.ensures plan
    ∙ ap (λ (ms : List Message). has_room (record plan { multicasts = ms })) (c.deref.ensures.value ∙ ap (λ (s : Scenario). s.multicasts) c.self.view_is)

pub returns-clause-room : goal.returns-clause-room
returns-clause-room c = λ g yes'.
    let plan = with_target c.args.self.now c.args.message g in
    let told = c.has_room.ensures plan
    ∙ ap (λ (ms : List Message). has_room (record plan { multicasts = ms })) (c.deref.ensures.value ∙ ap (λ (s : Scenario). s.multicasts) c.self.view_is) in
    room_told plan (sym told ∙ yes')
