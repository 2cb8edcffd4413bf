use Rattle.convoy_stamps.proofs.KnownPairs.{group_known}
use Rattle.convoy_stamps.proofs.spans.Spans.may_precede.Goals as goal

pub span-requires-clause-group : goal.span-requires-clause-group
span-requires-clause-group c =
    group_known c.args.self.now.scenario c.scenario-scenario.ensures.lawful c.args.pair c.requires.pair
