-- Traffic whose delays are in their ranges, through outages and without any.
use Rattle.std.proofs.Common.{◌≤◌, not, arith}
use Rattle.std.proofs.lemmas.Bool.{and_parts}
use Rattle.convoy_packets.specs.Packets.{is_wait}
use Rattle.convoy_packets.specs.Assignment.{delay_of, in_fixed_order}
use Rattle.convoy_packets.specs.ScheduleLaws.{DelaysAreWithin, FixedOrderIsOrder, is_sent}
use Rattle.convoy_sim.specs.Delivery.{addressed_to}
use Rattle.convoy_sim.proofs.Membership.{in_greatest, greatest_most}
use Rattle.convoy_ceiling.specs.Ceiling.{CeilingHoldsForAnyKinds, ceiling_at, longest_after, longest_from_arrival, longest_to_commit}
use Rattle.convoy_outages.specs.Outages.{sent_at}
use Rattle.convoy_outages.specs.OutageCeiling.{slowest_to_commit, worked_ceiling_at}
use Rattle.convoy_outages.specs.OutageLaws.{OutageCeilingHoldsWithoutOutages, OutageCeilingIsNoLess, TrafficKeepsLinks}
use Rattle.convoy_outages.proofs.Worked.{worked_most}

-- delays are the same whatever the order of ties, so those of a packet that is sent are in its range, and no more of them is worked
pub keeps_links : DelaysAreWithin → FixedOrderIsOrder → TrafficKeepsLinks
unfolding delay_of
keeps_links law fixed down times scenario traffic schedule is within = record {
  groups = is.groups;
  homes = is.homes;
  kinds = is.kinds;
  most = λ packet moves.
      let sent = (and_parts (is_sent traffic packet) (not (is_wait packet)) moves).0 in
      let own = law traffic (in_fixed_order schedule.delays) packet (record { delays = within; order = fixed traffic }) sent in
      let work = worked_most down (sent_at traffic schedule packet) (delay_of traffic schedule packet) in
      let most = is.most packet moves in
      omega arith;
}

-- from its arrival on a message takes no longer than from its issue
pub no_less : OutageCeilingIsNoLess
unfolding ceiling_at worked_ceiling_at
no_less scenario m g =
    let after : longest_after scenario g ≤ slowest_to_commit scenario g =
    greatest_most (longest_from_arrival scenario g) (slowest_to_commit scenario g) (addressed_to scenario g)
    (λ n i. let most = in_greatest (λ j. longest_to_commit scenario j g) n (addressed_to scenario g) i in omega arith) in
    omega arith

pub holds_without : CeilingHoldsForAnyKinds → OutageCeilingHoldsWithoutOutages
holds_without ceiling scenario well n g traffic schedule is within m kind goes =
    let least = ceiling scenario well n g traffic schedule is within m kind goes in
    let more = no_less scenario n g in
    omega arith
