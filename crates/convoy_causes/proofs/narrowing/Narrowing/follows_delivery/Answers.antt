use Rattle.std.proofs.Common.{subst}
use Rattle.convoy_scenario.specs.Room.{HasRoom}
use Rattle.convoy_scenario.specs.Scenario.{Scenario}
use Rattle.convoy_scenario.specs.Targets.{with_target}
use Rattle.convoy_causes.proofs.narrowing.Narrowing.follows_delivery.Goals as goal

pub returns-then-is_delivery-clause-room : goal.returns-then-is_delivery-clause-room
returns-then-is_delivery-clause-room c may =
    subst (λ (s : Scenario). HasRoom (with_target s c.args.cause.now.message c.args.cause.now.group)) c.scenario-scenario.ensures.value (c.may_be_target.ensures.room c.args.cause.now.group may)
