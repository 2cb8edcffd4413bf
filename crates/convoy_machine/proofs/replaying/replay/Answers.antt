use Rattle.std.proofs.Common.{sym, ◌∙◌}
use Rattle.convoy_machine.proofs.CoreSteps.{Grounds}
use Rattle.convoy_machine.proofs.EventLists.{IsReplaying-after, IsReplaying-start, IsReplayed-end}
use Rattle.convoy_machine.proofs.replaying.replay.Goals as goal

pub loop-place-init : goal.loop-place-init
loop-place-init c =
    let grounds : Grounds = record { root = c.root_is_box.ensures; all = c.root_holds_all.ensures; halves = c.halves_are_boxes.ensures; part = c.halves_partition.ensures; leaves = record { bound = c.leaves_cover.ensures.bound; point = c.leaves_cover.ensures.point; stamp = c.leaves_cover.ensures.stamp; lead = c.leaves_cover.ensures.lead } } in
    IsReplaying-start c.args.instance.now c.args.events.now c.in_ok-core.core grounds c.in_ok-core.ensures.value c.in_ok-core.ensures.attained

pub loop-place-preserved : goal.loop-place-preserved
loop-place-preserved c =
    let grounds : Grounds = record { root = c.root_is_box.ensures; all = c.root_holds_all.ensures; halves = c.halves_are_boxes.ensures; part = c.halves_partition.ensures; leaves = record { bound = c.leaves_cover.ensures.bound; point = c.leaves_cover.ensures.point; stamp = c.leaves_cover.ensures.stamp; lead = c.leaves_cover.ensures.lead } } in
    IsReplaying-after c.args.instance.now c.args.events.now c.loop-place.place c.loop-place.core c.follow.new.self c.index-events-place.result grounds c.requires.records c.loop-place-test.true c.index-events-place.is c.in_ok-follow.ensures.found (rw c.in_ok-origin.ensures at (sym c.in_ok-is_lawful.ensures ∙ c.if-not-branch.false)) c.in_ok-follow.ensures.after c.loop-place.invariant

pub returns-clause-state : goal.returns-clause-state
returns-clause-state c =
    IsReplayed-end c.args.instance.now c.args.events.now c.loop-place.place c.loop-place.core c.loop-place-test.false c.loop-place.invariant.reached
