use Rattle.std.proofs.Common.{ℕ, ap}
use Rattle.convoy_packets.specs.Assignment.{Schedule}
use Rattle.convoy_branch.specs.Outcomes.{IsOutcome}
use Rattle.convoy_branch.specs.declared.outcome.Outcome.{Outcome}
use Rattle.convoy_branch.proofs.FixedOrders.{fixed_assigned}
use Rattle.convoy_branch.proofs.Withins.{returns_whole}
use Rattle.convoy_branch.proofs.search.search_alone.Goals as goal

pub of-opening-requires : goal.of-opening-requires
of-opening-requires c = record { assignment = fixed_assigned _ _ c.in_ok-schedule.schedule c.fixed_order_is_order.ensures c.table.ensures.value (ap (λ (s : Schedule). s.order) c.in_ok-schedule.ensures.value) c.in_ok-schedule.ensures.within }

pub returns : goal.returns
returns c =
    let IsAnswer : ℕ → Outcome → Type 0 = IsOutcome c.args.bounds c.args.instance.now 1 in
    returns_whole c.search_alone_from.result c.of-limit.result c.args.limit IsAnswer c.of-limit.ensures c.search_alone_from.ensures.value
