use Rattle.std.proofs.Common.{◌+◌, sym, ap₂, subst}
use Rattle.convoy_ceiling.proofs.SameKinds.{kinds_go}
use Rattle.convoy_outages.specs.OutageCeiling.{IsUpperThrough, worked_ceiling_at}
use Rattle.convoy_outages.proofs.computing.outage_ceiling.Goals as goal

pub returns-clause-value : goal.returns-clause-value
unfolding worked_ceiling_at
returns-clause-value c = ap₂ ◌+◌ (ap₂ ◌+◌ c.longest_to_commit.ensures.value c.slowest_to_commit.ensures.value) c.ticks.ensures.value

pub returns-clause-holds : goal.returns-clause-holds
returns-clause-holds c =
    subst (IsUpperThrough c.args.span c.args.scenario.now c.args.message c.args.group) (sym (returns-clause-value c))
    (c.outage_ceiling_holds.ensures c.args.span c.args.scenario.now (kinds_go c.args.scenario.now c.slowest_to_commit.ensures.lawful) c.args.message c.args.group)
