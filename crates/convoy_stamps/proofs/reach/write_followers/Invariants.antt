use Rattle.std.proofs.Common.{◌≡◌, take, filter, All}
use Rattle.convoy_stamps.specs.Closures.{is_follower}
use Rattle.convoy_stamps.specs.Reach.{IsPair}
use Rattle.convoy_stamps.specs.Spans.{target_follows}
use Rattle.convoy_stamps.proofs.reach.write_followers.Given as goal

abbrev pub invariant-loop-pair : goal.invariant-loop-pair
invariant-loop-pair l = record {
  so_far : l.next.items ≡ filter (is_follower (target_follows l.spans) l.reached) (take l.pair-index l.pairs);
  pairs : All (IsPair l.spans.scenario) l.next.items;
}
