use Rattle.convoy_orders.proofs.Relisted.{drafts_renumbered}
use Rattle.convoy_orders.proofs.relisted_laws.relisted_drafts_are_renumbered.Goals as goal

pub returns : goal.returns
returns c = drafts_renumbered c.order_keeps_ranges.ensures c.order_keeps_what_takes_time.ensures
