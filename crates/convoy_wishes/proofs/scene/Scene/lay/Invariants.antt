use Rattle.std.proofs.Common.{◌≡◌}
use Rattle.convoy_packets.specs.Assignment.{AreWithin}
use Rattle.convoy_wishes.proofs.scene.Scene.lay.Given as goal

abbrev pub invariant-loop-at : goal.invariant-loop-at
invariant-loop-at l = record {
  within : AreWithin l.self.delay_box.now l.schedule.delays;
  order : l.schedule.order ≡ l.fn.schedule.order;
}
