use Rattle.convoy_branch.proofs.Aims.{found_pushed}
use Rattle.convoy_branch.proofs.above.Above.take_up.Goals as goal

pub returns-clause-work : goal.returns-clause-work
returns-clause-work c =
    found_pushed c.args.self.now.origin.now c.args.work.now.items c.push.new.self.items c.push-2.new.self.items c.in-Some-halves.first c.in-Some-halves.second c.in_ok-halves.halves c.in_ok-push.ensures.items c.in_ok-push-2.ensures.items c.in-Some-halves.is c.in_ok-halves.ensures c.requires.work
