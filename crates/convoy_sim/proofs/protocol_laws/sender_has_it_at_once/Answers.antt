use Rattle.std.proofs.Common.{◌≡◌, Bool, true, false, not, ◌&&◌, refl, arith}
use Rattle.convoy_scenario.specs.Scenario.{message_at, is_addressed, takes_time}
use Rattle.convoy_packets.specs.declared.packet.Packet.TheVariants.{Multicast}
use Rattle.convoy_packets.specs.Assignment.{delay_of}
use Rattle.convoy_sim.specs.Times.{arrive}
use Rattle.convoy_sim.proofs.protocol_laws.sender_has_it_at_once.Goals as goal

-- what takes no time is not sent
not_sent : (addressed takes : Bool) → takes ≡ false → not (addressed && takes) ≡ true
not_sent true false is = refl
not_sent false false is = refl
not_sent true true is = cc
not_sent false true is = cc

pub returns : goal.returns
unfolding arrive
returns c = λ plan schedule m g home.
    let none : delay_of plan schedule (Multicast m g) ≡ 0 =
    c.unsent_takes_no_time.ensures plan schedule (Multicast m g)
    (not_sent (is_addressed (message_at plan m) g) (takes_time plan (message_at plan m).sender g) home) in
    omega arith
