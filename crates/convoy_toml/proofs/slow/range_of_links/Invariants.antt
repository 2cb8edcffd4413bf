use Rattle.std.proofs.Common.{◌≡◌, drop}
use Rattle.convoy_toml.specs.Slow.{range_of_links}
use Rattle.convoy_toml.proofs.slow.range_of_links.Given as goal

abbrev pub invariant-loop-link : goal.invariant-loop-link
invariant-loop-link l = range_of_links l.links l.way ≡ range_of_links (drop l.link-index l.links) l.way
