use Rattle.std.proofs.Common.{sym, subst, ◌∙◌}
use Rattle.convoy_scenario.specs.WellFormed.{IsScenario}
use Rattle.convoy_scenario.proofs.WidenedLemmas.{made_widened, widened_formed}
use Rattle.convoy_scenario.proofs.scenario.Scenario.widened.Goals as goal

pub invariant_of-result : goal.invariant_of-result
invariant_of-result c =
    let same = c.same.view_is ∙ c.in_ok-same.ensures in
    let formed = subst IsScenario same c.same.invariant in
    subst IsScenario (sym (made_widened c.args.self.now _ _ same c.in_ok-multicasts.ensures)) (widened_formed c.args.self.now formed)

pub returns : goal.returns
returns c = made_widened c.args.self.now _ _ (c.same.view_is ∙ c.in_ok-same.ensures) c.in_ok-multicasts.ensures
