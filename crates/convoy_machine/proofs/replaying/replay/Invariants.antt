use Rattle.convoy_machine.proofs.EventLists.{IsReplaying}
use Rattle.convoy_machine.proofs.replaying.replay.Given as goal

abbrev pub invariant-loop-place : goal.invariant-loop-place
invariant-loop-place l = IsReplaying l.instance l.events l.place l.core
