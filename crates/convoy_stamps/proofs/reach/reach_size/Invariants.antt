use Rattle.std.proofs.Common.{◌≡◌, suc, All}
use Rattle.convoy_stamps.specs.Closures.{reached_after}
use Rattle.convoy_stamps.specs.Reach.{pair_of, IsPair}
use Rattle.convoy_stamps.specs.Spans.{target_follows}
use Rattle.convoy_stamps.proofs.reach.reach_size.Given as goal

abbrev pub invariant-loop-round : goal.invariant-loop-round
invariant-loop-round l = record {
  so_far : l.reached.items ≡ reached_after (target_follows l.spans) l.pairs (pair_of l.message l.group) (suc l._round);
  pairs : All (IsPair l.spans.scenario) l.reached.items;
}
