use Rattle.std.proofs.Common.{◌≡◌, map, take}
use Rattle.convoy_scenario.specs.Naming.{draft_link}
use Rattle.convoy_best_order.proofs.listing.links_of.Given as goal

-- the links so far by names
abbrev pub invariant-loop-link : goal.invariant-loop-link
invariant-loop-link l = l.links.items ≡ map (draft_link l.scenario) (take l.link-index l.scenario.links)
