use Rattle.std.proofs.Common.{◌≡◌, ◌++◌, take}
use Rattle.convoy_toml.specs.Ways.{ways_from_all}
use Rattle.convoy_toml.proofs.ways.push_from_all.Given as goal

abbrev pub invariant-loop-sender : goal.invariant-loop-sender
invariant-loop-sender l = l.ways.items ≡ l.initial.ways.items ++ ways_from_all l.groups (take l.sender-index l.senders)
