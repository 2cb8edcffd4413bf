use Rattle.std.proofs.Common.{◌≡◌, length, vec_len}
use Rattle.convoy_workflows.specs.Windows.{messages_within}
use Rattle.convoy_workflows.proofs.windows.messages_within.Given as goal

abbrev pub invariant-loop-multicast : goal.invariant-loop-multicast
invariant-loop-multicast l = (l.within.items ≡ messages_within l.windows 0 l.yielded) × (vec_len l.within ≡ length l.yielded)
