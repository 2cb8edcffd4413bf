use Rattle.std.proofs.Common.{◌+◌, sym, ap₂, subst}
use Rattle.convoy_ceiling.specs.Ceiling.{IsUpperInTraffic, ceiling_at}
use Rattle.convoy_ceiling.proofs.computing.ceiling.Goals as goal

pub returns-clause-value : goal.returns-clause-value
unfolding ceiling_at
returns-clause-value c = ap₂ ◌+◌ c.longest_to_commit.ensures.value c.longest_after.ensures.value

pub returns-clause-holds : goal.returns-clause-holds
returns-clause-holds c =
    subst (IsUpperInTraffic c.args.scenario.now c.args.message c.args.group) (sym (returns-clause-value c))
    (c.ceiling_holds.ensures c.args.scenario.now c.longest_after.ensures.lawful c.args.message c.args.group)
