use Rattle.std.proofs.Common.{ℕ}
use Rattle.convoy_branch.specs.Outcomes.{IsOutcome}
use Rattle.convoy_branch.specs.declared.outcome.Outcome.{Outcome}
use Rattle.convoy_branch.proofs.Withins.{returns_whole}
use Rattle.convoy_share.proofs.searching.search.Goals as goal

pub returns : goal.returns
returns g c =
    let IsAnswer : ℕ → Outcome → Type 0 = IsOutcome c.args.bounds c.args.instance.now c.args.workers in
    returns_whole c.search_from.result c.of-limit.result c.args.limit IsAnswer c.of-limit.ensures c.search_from.ensures.value
