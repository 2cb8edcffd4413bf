use Rattle.convoy_best_plan.specs.Standings.{HasFallen, IsStanding}
use Rattle.convoy_best_plan.proofs.Passing.{PassedUpTo}
use Rattle.convoy_best_plan.proofs.searching.+search_below.Given as goal

-- all placements are passed that have the group at one of the sites so far
abbrev pub invariant-loop-site : goal.invariant-loop-site
invariant-loop-site g l = record {
  standing : IsStanding l.options l.wanted l.plan l.told l.standing.chosen;
  fallen : HasFallen l.fn.standing.chosen l.standing.chosen;
  passed : PassedUpTo l.wanted l.plan l.told l.standing.chosen l.sites l.group l.site-index;
}

abbrev pub decreases-search_below : goal.decreases-search_below
decreases-search_below g l = l.left
