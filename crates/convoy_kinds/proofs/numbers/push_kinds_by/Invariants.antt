use Rattle.std.proofs.Common.{◌≡◌, ◌++◌, take}
use Rattle.convoy_kinds.specs.Numbering.{kinds_by}
use Rattle.convoy_kinds.proofs.numbers.push_kinds_by.Given as goal

abbrev pub invariant-loop-sender : goal.invariant-loop-sender
invariant-loop-sender l = l.kinds.items ≡ l.initial.kinds.items ++ kinds_by l.number l.sets (take l.sender-index l.senders)
