use Rattle.std.proofs.Common.{◌≡◌, ◌++◌, map}
use Rattle.convoy_toml.specs.Agreements.{lengthened}
use Rattle.convoy_toml.proofs.agreements.push_lengthened.Given as goal

abbrev pub invariant-loop-link : goal.invariant-loop-link
invariant-loop-link l = l.more.items ≡ l.initial.more.items ++ map (lengthened l.agreements) l.yielded
