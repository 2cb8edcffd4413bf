use Rattle.std.proofs.Common.{◌≡◌, drop}
use Rattle.convoy_toml.specs.Agreements.{greatest_of}
use Rattle.convoy_toml.proofs.agreements.greatest_of.Given as goal

abbrev pub invariant-loop-link : goal.invariant-loop-link
invariant-loop-link l = greatest_of l.greatest (drop l.link-index l.links) ≡ greatest_of l.delay l.links
