use Rattle.std.proofs.Common.{rules}
use Rattle.convoy_intervals.proofs.Members.{IsBox-table}
use Rattle.convoy_intervals.proofs.delay_box.DelayBox.root.Goals as goal

pub returns-clause-is_box : goal.returns-clause-is_box
returns-clause-is_box c =
    IsBox-table c.args.instance.now c.table.result.now c.in_ok-to_vec.field-0.items c.table.ensures.value c.ranges-2.ensures.lawful (search rules)
