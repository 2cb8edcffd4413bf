use Rattle.std.proofs.Common.{◌<◌, length, subst, sym, ◌∙◌}
use Rattle.convoy_scenario.specs.Room.{HasRoom}
use Rattle.convoy_scenario.specs.Scenario.{GoesTo, Scenario}
use Rattle.convoy_scenario.specs.Targets.{with_target}
use Rattle.convoy_scenario.proofs.OtherTargets.{with_target_formed}
use Rattle.convoy_scenario.proofs.scenario.Scenario.with_target.Goals as goal

pub invariant_of-result : goal.invariant_of-result
invariant_of-result c =
    let same = sym (c.same.view_is ∙ c.in_ok-same.ensures) in
    with_target_formed _ c.args.message c.args.group c.same.invariant
    (subst (λ (s : Scenario). c.args.message < length s.multicasts) same c.requires.known)
    (subst (λ (s : Scenario). GoesTo s c.args.message c.args.group) same c.requires.addressed)
    (subst (λ (s : Scenario). HasRoom (with_target s c.args.message c.args.group)) same c.requires.room)
