use Rattle.std.proofs.Common.{rules}
use Rattle.convoy_checker.proofs.NextNode.{from_parts}
use Rattle.convoy_checker.proofs.checking.node_fault.Goals as goal

pub returns : goal.returns
returns c =
    let whole = from_parts c.args.region.now c.delay_box-delay_box.result.now c.before-before.result.now c.delay_box-delay_box.ensures c.before-before.ensures in
    search rules
