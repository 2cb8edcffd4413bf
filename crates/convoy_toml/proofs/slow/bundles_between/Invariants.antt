use Rattle.std.proofs.Common.{◌≡◌, map, take}
use Rattle.convoy_toml.specs.Slow.{bundle_between}
use Rattle.convoy_toml.proofs.slow.bundles_between.Given as goal

abbrev pub invariant-loop-link : goal.invariant-loop-link
invariant-loop-link l = l.bundles.items ≡ map (λ link. bundle_between link.ends) (take l.link-index l.links)
