use Rattle.std.proofs.Common.{◌≡◌, take}
use Rattle.std.specs.List.{flat_map}
use Rattle.convoy_what_if.specs.Changes.{links_left}
use Rattle.convoy_what_if.proofs.drafting.links_of.Given as goal

-- the links so far that stay as they are
abbrev pub invariant-loop-link : goal.invariant-loop-link
invariant-loop-link l = l.links.items ≡ flat_map (links_left l.scenario l.change) (take l.link-index l.scenario.links)
