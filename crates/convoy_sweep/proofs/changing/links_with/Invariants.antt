use Rattle.std.proofs.Common.{◌≡◌, map, take}
use Rattle.convoy_sweep.specs.Keys.{link_with}
use Rattle.convoy_sweep.proofs.changing.links_with.Given as goal

abbrev pub invariant-loop-link : goal.invariant-loop-link
invariant-loop-link l = l.changed.items ≡ map (link_with l.key l.given) (take l.link-index l.links)
