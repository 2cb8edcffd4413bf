use Rattle.std.proofs.Common.{◌≡◌, drop}
use Rattle.convoy_stamps.specs.Closures.{is_follower}
use Rattle.convoy_stamps.specs.Spans.{target_follows}
use Rattle.convoy_stamps.proofs.reach.is_follower.Given as goal

-- what is left to try decides
abbrev pub invariant-loop-pair : goal.invariant-loop-pair
invariant-loop-pair l =
    is_follower (target_follows l.spans) (drop l.pair-index l.reached) l.next ≡ is_follower (target_follows l.spans) l.reached l.next
