use Rattle.convoy_share.specs.Common.{common_of}
use Rattle.convoy_share.specs.Opening.{AreOpened}
use Rattle.convoy_share.proofs.opening.open_workers.Given as goal

abbrev pub invariant-loop-number : goal.invariant-loop-number
invariant-loop-number l = AreOpened (common_of l.shared) l.shared.workers l.fn.hand.seen l.number l.owner l.thieves.items
