use Rattle.convoy_sim.proofs.Destinations.{group_known}
use Rattle.std.proofs.Common.{◌<◌, subst}
use Rattle.convoy_sim.proofs.progress.told_at.Goals as goal

pub arrival-requires-clause-group : goal.arrival-requires-clause-group
arrival-requires-clause-group c =
    group_known c.args.times.now.scenario c.scenario-scenario.ensures.lawful c.args.message c.args.group
    (c.requires.told.goes c.args.message c.args.group c.requires.message c.requires.group (subst (λ t. 0 < t) c.time-stamp.ensures c.if-stamp-gt0.true))

pub settling-requires-clause-group : goal.settling-requires-clause-group
settling-requires-clause-group c =
    group_known c.args.times.now.scenario c.scenario-scenario.ensures.lawful c.args.message c.args.group
    (c.requires.told.goes c.args.message c.args.group c.requires.message c.requires.group (subst (λ t. 0 < t) c.time-stamp.ensures c.if-stamp-gt0.true))
