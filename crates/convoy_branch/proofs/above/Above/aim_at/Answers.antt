use Rattle.convoy_branch.proofs.Aims.{all_popped}
use Rattle.convoy_branch.proofs.above.Above.aim_at.Goals as goal

pub take_up-requires-clause-branch : goal.take_up-requires-clause-branch
take_up-requires-clause-branch g c =
    (all_popped c.args.self.now.origin.now c.loop.self.origin.now c.loop.work.items c.pop.new.self.items c.in-Some.branch c.loop.invariant.risen.origin_is c.in-Some.ensures.items c.loop.invariant.work).1

pub take_up-requires-clause-work : goal.take_up-requires-clause-work
take_up-requires-clause-work g c =
    (all_popped c.args.self.now.origin.now c.loop.self.origin.now c.loop.work.items c.pop.new.self.items c.in-Some.branch c.loop.invariant.risen.origin_is c.in-Some.ensures.items c.loop.invariant.work).0
