use Rattle.std.proofs.Common.{◌≡◌, map, take}
use Rattle.convoy_budget.specs.Ranges.{link_on}
use Rattle.convoy_budget.proofs.drafting.links_of.Given as goal

-- the links of the ways so far
abbrev pub invariant-loop-other : goal.invariant-loop-other
invariant-loop-other l = l.links.items ≡ map (link_on l.scenario l.way l.range) (take l.other-index l.other-items)
