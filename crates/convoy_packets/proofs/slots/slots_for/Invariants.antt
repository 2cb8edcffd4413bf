use Rattle.std.proofs.Common.{take}
use Rattle.convoy_packets.specs.Slots.{HoldPlaces}
use Rattle.convoy_packets.proofs.slots.slots_for.Given as goal

abbrev pub invariant-loop-place : goal.invariant-loop-place
invariant-loop-place l = HoldPlaces l.slots.items (take l.place l.packets)
