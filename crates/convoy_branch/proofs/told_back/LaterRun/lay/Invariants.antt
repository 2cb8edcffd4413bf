use Rattle.convoy_packets.specs.Assignment.{AreWithin}
use Rattle.convoy_branch.proofs.told_back.LaterRun.lay.Given as goal

abbrev pub invariant-loop-place : goal.invariant-loop-place
invariant-loop-place l = AreWithin l.self.delay_box.now l.schedule.delays
