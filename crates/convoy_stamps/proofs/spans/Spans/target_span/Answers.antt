use Rattle.std.proofs.Common.{ap, arith}
use Rattle.convoy_scenario.specs.Scenario.{Scenario}
use Rattle.convoy_stamps.proofs.KnownPairs.{target_known}
use Rattle.convoy_stamps.proofs.spans.Spans.target_span.Goals as goal

pub span-requires-clause-group : goal.span-requires-clause-group
span-requires-clause-group c =
    let known = target_known c.args.self.now.scenario c.scenario.ensures.lawful in
    let group = ap (λ (s : Scenario). s.target_group) c.scenario.ensures.value in
    omega (arith, known, group, c.target_group.ensures.value)
