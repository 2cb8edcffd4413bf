use Rattle.std.proofs.Common.{◌≡◌, drop, []}
use Rattle.convoy_ranges.specs.Ranges.{pairs_from}
use Rattle.convoy_ranges.proofs.pairs.pairs_of.Given as goal

-- the pairs so far, and the round trips that are left
abbrev pub invariant-loop-sighting : goal.invariant-loop-sighting
invariant-loop-sighting l = pairs_from l.pairs.items (drop l.sighting-index l.seen) ≡ pairs_from [] l.seen
