use Rattle.std.proofs.Common.{arith}
use Rattle.convoy_regions.specs.Regions.{count_before}
use Rattle.convoy_regions.proofs.Walks.{sum_by_range_more}
use Rattle.convoy_regions.proofs.run.rank_by.Goals as goal

pub loop-message-preserved : goal.loop-message-preserved
loop-message-preserved c =
    let more = sum_by_range_more (count_before c.args.known.now c.args.stage) c.loop-message.message in
    record {
      so_far = omega (arith, more, c.loop-message.invariant.so_far, c.count_before-rank.ensures.value);
      few = omega (arith, c.loop-message.invariant.few, c.count_before-rank.ensures.few);
    }
