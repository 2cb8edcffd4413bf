use Rattle.std.proofs.Common.{sym}
use Rattle.convoy_seek.proofs.Schedules.{as_long, fixed_order, reordered}
use Rattle.convoy_seek.proofs.seeker.Seeker.climb.Goals as goal

pub weigh-requires-clause-seeking : goal.weigh-requires-clause-seeking
weigh-requires-clause-seeking c =
    let plan = c.args.instance.now in
    let order = fixed_order plan c.none.result c.fixed_order_is_order.ensures c.none.ensures in
    record {
      of_scenario = c.requires.seeking.of_scenario;
      kept = c.requires.seeking.kept;
      tried = reordered plan c.lay.new.schedule c.set_order.new.self c.none.result order c.set_order.ensures c.lay.ensures;
    }

pub copy_from-requires : goal.copy_from-requires
copy_from-requires c = as_long c.args.instance.now c.weigh.new.self c.in_ok-score.ensures.goes_on.seeking

pub copy_from-requires-in-loop-stale : goal.copy_from-requires-in-loop-stale
copy_from-requires-in-loop-stale c =
    sym (as_long c.args.instance.now c.loop-stale.self c.loop-stale.invariant.seeking)

pub copy_from-requires-then-ge : goal.copy_from-requires-then-ge
copy_from-requires-then-ge c =
    as_long c.args.instance.now c.weigh-in-loop-stale.new.self c.in_ok-next.ensures.goes_on.seeking
