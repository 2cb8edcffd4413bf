use Rattle.convoy_plan_ceilings.specs.Standings.{HasFallen, IsStanding}
use Rattle.convoy_plan_ceilings.proofs.Passing.{PassedUpTo}
use Rattle.convoy_plan_ceilings.proofs.searching.+search_below.Given as goal

-- all placements are passed that have the group at one of the sites so far
abbrev pub invariant-loop-site : goal.invariant-loop-site
invariant-loop-site l = record {
  standing : IsStanding l.wanted l.plan l.standing;
  fallen : HasFallen l.fn.standing.chosen l.standing.chosen;
  passed : PassedUpTo l.wanted l.plan l.standing.chosen l.sites l.group l.site-index;
}

abbrev pub decreases-search_below : goal.decreases-search_below
decreases-search_below l = l.left
