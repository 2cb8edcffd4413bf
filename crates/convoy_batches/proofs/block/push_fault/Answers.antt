use Rattle.std.proofs.Common.{◌∙◌, ap, decimal}
use Rattle.convoy_batches.proofs.Blocks.{fault_pushed}
use Rattle.convoy_batches.proofs.block.push_fault.Goals as goal

pub returns : goal.returns
returns c =
    let row = c.fault_row-number.ensures in
    fault_pushed _ _ _ _ _ _ _ _ _ _ _ c.push.ensures c.push-2.ensures c.push-3.ensures (rw c.as_bytes-2.ensures.value at c.push-4.ensures)
    c.push_ending.ensures.text c.push-5.ensures (c.as_bytes.ensures.value ∙ c.format.ensures.text ∙ ap decimal row.number) row.text
