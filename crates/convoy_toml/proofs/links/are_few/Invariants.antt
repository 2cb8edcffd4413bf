use Rattle.std.proofs.Common.{◌≡◌, ◌^◌, ◌-◌, min, take, sum_by}
use Rattle.convoy_toml.specs.Links.{count_of}
use Rattle.convoy_toml.proofs.links.are_few.Given as goal

abbrev pub invariant-loop-bundle : goal.invariant-loop-bundle
invariant-loop-bundle l = l.count ≡ min (sum_by count_of (take l.bundle-index l.bundles)) (2 ^ 64 - 1)
