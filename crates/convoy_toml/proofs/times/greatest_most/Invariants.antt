use Rattle.std.proofs.Common.{◌≡◌, drop, pos}
use Rattle.convoy_toml.specs.Times.{greatest_most}
use Rattle.convoy_toml.proofs.times.greatest_most.Given as goal

abbrev pub invariant-loop-bundle : goal.invariant-loop-bundle
invariant-loop-bundle l = greatest_most l.greatest (drop l.bundle-index l.bundles) ≡ greatest_most (pos 0) l.bundles
