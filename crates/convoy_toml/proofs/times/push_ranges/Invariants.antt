use Rattle.std.proofs.Common.{◌≡◌, ◌++◌, drop}
use Rattle.convoy_toml.specs.Times.{times_of_links}
use Rattle.convoy_toml.proofs.times.push_ranges.Given as goal

abbrev pub invariant-loop-link : goal.invariant-loop-link
invariant-loop-link l = l.times.items ++ times_of_links (drop l.link-index l.links) ≡ l.initial.times.items ++ times_of_links l.links
