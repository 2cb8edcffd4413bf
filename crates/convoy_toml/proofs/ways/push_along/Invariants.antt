use Rattle.std.proofs.Common.{◌≡◌, ◌++◌, map}
use Rattle.convoy_toml.specs.Ways.{link_along}
use Rattle.convoy_toml.proofs.ways.push_along.Given as goal

abbrev pub invariant-loop-way : goal.invariant-loop-way
invariant-loop-way l = l.links.items ≡ l.initial.links.items ++ map (link_along l.least l.delay) l.yielded
