use Rattle.std.proofs.Common.{◌∙◌}
use Rattle.convoy_branch.proofs.SearchOutcomes.{IsProved-done}
use Rattle.convoy_branch.proofs.search.Search.into_proved.Goals as goal

pub returns-clause-value : goal.returns-clause-value
returns-clause-value c limit few =
    IsProved-done c.args.bounds c.args.origin.now c.args.self.best c.args.self.nodes.items c.args.self.tickets limit c.latency-latency.result c.in_ok-schedule.schedule c.in_ok-copy.field-0 c.reverse.new.self.items c.new.result c.in_ok-from_slice.field-0.items c.trees_cover.ensures c.instance-instance.ensures.lawful c.schedule.ensures.attained c.requires c.new.ensures (c.in_ok-copy.ensures ∙ c.instance-instance.ensures.value) c.latency-latency.ensures.value (c.in_ok-schedule.ensures ∙ c.schedule.ensures.value) c.reverse.ensures.items c.in_ok-from_slice.ensures.items few
