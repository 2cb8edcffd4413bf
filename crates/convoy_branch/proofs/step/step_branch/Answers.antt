use Rattle.convoy_branch.specs.Steps.{known_after}
use Rattle.convoy_branch.proofs.Tries.{open_without, turn_of_leaf}
use Rattle.convoy_branch.proofs.step.step_branch.Goals as goal
use Rattle.convoy_branch.proofs.step.step_branch.Goals.{in-Some, in-None+in_ok-turn-in-None}

pub returns-clause-value : goal.returns-clause-value
returns-clause-value c =
    let bounds = c.args.bounds in
    let plan = c.args.origin.now in
    let region = c.args.branch.region in
    let look = c.in-Ok.look in
    let shows = c.in-Ok.ensures.value in
    let known = known_after c.args.seen look.found in
    let least = c.stamp_at_most_plain_from_origin.ensures plan region.ranges in
    record {
      found = shows.found;
      turn = elim c.match-leaf.branch [
        | in-Some w ↦ rw w.turn-is (turn_of_leaf bounds plan region known look.asked.leaf w.in-Some.leaf shows.named least shows.asked.leaf w.in-Some.is)
        | in-None+in_ok-turn-in-None w ↦ rw w.turn-is (w.in_ok-turn-in-None.ensures.value bounds known (record { not_closed = open_without bounds plan region known look.asked.leaf shows.named least shows.asked.leaf w.in-None.is; tried = shows.tried w.in-None.is }))
      ];
    }
