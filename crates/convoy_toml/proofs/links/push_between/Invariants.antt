use Rattle.std.proofs.Common.{◌≡◌, ◌++◌, take}
use Rattle.convoy_toml.specs.Links.{links_between}
use Rattle.convoy_toml.proofs.links.push_between.Given as goal

abbrev pub invariant-loop-sender : goal.invariant-loop-sender
invariant-loop-sender l = l.links.items ≡ l.initial.links.items ++ links_between l.bundle (take l.sender-index l.senders) l.to
