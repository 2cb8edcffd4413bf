-- When a message is issued.
use Rattle.std.proofs.Common.{◌≡◌, ℕ, true, not, refl, arith}
use Rattle.convoy_scenario.specs.Scenario.{Scenario, message_at, may_wait}
use Rattle.convoy_packets.specs.declared.packet.Packet.TheVariants.{Wait}
use Rattle.convoy_packets.specs.Assignment.{Schedule, delay_of}
use Rattle.convoy_packets.proofs.Ranges.{no_time_if_unsent, wait_at_most}
use Rattle.convoy_sim.specs.ProtocolLaws.{IssuedAtItsTick, IssuedFromItsTick, IssuedWithinItsWait}

pub from_its_tick : IssuedFromItsTick
from_its_tick plan schedule m = omega arith

pub within_its_wait : IssuedWithinItsWait
within_its_wait plan schedule is m = let wait = wait_at_most plan schedule m is in omega arith

-- a message that does not wait has no place in schedules
pub no_wait : (plan : Scenario) (schedule : Schedule) (m : ℕ) → (message_at plan m).longest_wait ≡ 0 → delay_of plan schedule (Wait m) ≡ 0
no_wait plan schedule m none =
    let unsent : not (may_wait (message_at plan m)) ≡ true = rw none refl in
    no_time_if_unsent plan schedule (Wait m) unsent

pub at_its_tick : IssuedAtItsTick
at_its_tick plan schedule m none = let wait = no_wait plan schedule m none in omega arith
