use Rattle.std.proofs.Common.{◌≡◌, take, flat_map}
use Rattle.convoy_toml.specs.Links.{links_of_bundle}
use Rattle.convoy_toml.proofs.links.all_links.Given as goal

abbrev pub invariant-loop-bundle : goal.invariant-loop-bundle
invariant-loop-bundle l = l.links.items ≡ flat_map links_of_bundle (take l.bundle-index l.bundles)
