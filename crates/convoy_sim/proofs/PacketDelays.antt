-- The delays of packets in an assignment, and how far arrivals and commits are from the issue.
use Rattle.std.proofs.Common.{◌+◌, ◌*◌, refl, arith}
use Rattle.convoy_scenario.specs.Scenario.{message_at}
use Rattle.convoy_packets.specs.declared.packet.Packet.TheVariants.{Multicast, Propose}
use Rattle.convoy_packets.proofs.Ranges.{at_most}
use Rattle.convoy_sim.specs.Times.{issue, arrive, settle, propose_arrive}
use Rattle.convoy_sim.specs.ProtocolLaws.{ArrivesWithinOneDelay, CommittedWithinTwoDelays}
use Rattle.convoy_sim.proofs.Membership.{greatest_most}

pub arrives_within : ArrivesWithinOneDelay
unfolding arrive
arrives_within plan schedule well h m g = let come = at_most plan schedule (Multicast m g) well h refl in omega arith

pub committed_within : CommittedWithinTwoDelays
unfolding settle
committed_within plan schedule well h m g =
    greatest_most (propose_arrive plan schedule m g) (issue plan schedule m + 2 * plan.delay) (message_at plan m).destinations
    (λ k i.
    let first = arrives_within plan schedule well h m k in
    let second = at_most plan schedule (Propose m k g) well h refl in
    omega arith)
