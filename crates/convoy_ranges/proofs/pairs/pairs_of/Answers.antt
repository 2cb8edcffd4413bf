use Rattle.std.proofs.Common.{◌<◌, ◌≤◌, ap, arith, length}
use Rattle.convoy_ranges.specs.declared.fault.TheConstants.{MOST_PAIRS}
use Rattle.convoy_ranges.specs.Ranges.{with_seen}
use Rattle.convoy_ranges.proofs.Pairing.{pair_more, pair_stops, pairs_done}
use Rattle.convoy_ranges.proofs.pairs.pairs_of.Goals as goal

pub returns-then-len-gt-MOST_PAIRS : goal.returns-then-len-gt-MOST_PAIRS
returns-then-len-gt-MOST_PAIRS c =
    let many : MOST_PAIRS < length (with_seen c.loop-sighting.pairs.items c.sighting-item.result) = omega (arith, ap length c.in_ok-put.ensures) in
    let told = pair_stops c.loop-sighting.pairs.items c.args.seen.now c.sighting-item.result c.loop-sighting.sighting-index _ (omega arith) c.sighting-item.is
    c.loop-sighting.invariant many in
    rw (← c.sighting.view_is) at told

pub loop-sighting-preserved : goal.loop-sighting-preserved
loop-sighting-preserved c =
    let few : length (with_seen c.loop-sighting.pairs.items c.sighting-item.result) ≤ MOST_PAIRS = omega (arith, ap length c.in_ok-put.ensures) in
    rw c.in_ok-put.ensures
    (pair_more c.loop-sighting.pairs.items c.args.seen.now c.sighting-item.result c.loop-sighting.sighting-index _ (omega arith) c.sighting-item.is
    c.loop-sighting.invariant few)

pub returns : goal.returns
returns c = pairs_done c.loop-sighting.pairs.items c.args.seen.now c.loop-sighting.sighting-index _ (omega arith) c.loop-sighting.invariant
