use Rattle.std.proofs.Common.{◌∙◌}
use Rattle.convoy_branch.proofs.SearchOutcomes.{IsOpen-left}
use Rattle.convoy_branch.proofs.search.Search.into_open.Goals as goal

pub returns-clause-value : goal.returns-clause-value
returns-clause-value c =
    IsOpen-left c.args.bounds c.args.origin.now c.args.self.best c.args.self.work.items c.deref.result.now c.args.branch c.args.tried c.args.self.nodes.items c.args.self.tickets c.latency-seen.result c.in_ok-upper.upper c.in_ok-from_slice.field-0.items c.fronts_bound.ensures c.instance-instance.ensures.lawful c.latency-seen.ensures.attained c.requires.searching (c.deref.ensures.value ∙ c.in_ok-push.ensures.items) c.latency-seen.ensures.value c.in_ok-upper.ensures.value c.in_ok-from_slice.ensures.items
