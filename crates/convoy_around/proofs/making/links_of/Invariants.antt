use Rattle.std.proofs.Common.{◌≡◌, map, take}
use Rattle.convoy_scenario.specs.Naming.{draft_link}
use Rattle.convoy_around.proofs.making.links_of.Given as goal

abbrev pub invariant-loop-link : goal.invariant-loop-link
invariant-loop-link l = l.links.items ≡ map (draft_link l.scenario) (take l.link-index l.scenario.links)
