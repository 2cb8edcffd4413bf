use Rattle.convoy_orders.proofs.NarrowerDrafts.{links_no_slower}
use Rattle.convoy_orders.proofs.range_laws.narrower_links_are_no_slower.Goals as goal

pub returns : goal.returns
returns c = links_no_slower c.order_keeps_ranges.ensures c.order_keeps_what_takes_time.ensures c.narrower_is_no_slower.ensures
