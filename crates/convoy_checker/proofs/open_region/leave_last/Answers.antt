use Rattle.std.proofs.Common.{rules}
use Rattle.convoy_checker.proofs.OpenRegions.{left_last}
use Rattle.convoy_checker.proofs.open_region.leave_last.Goals as goal

pub returns : goal.returns
returns c = left_last c.args.before.now.items _ _ (search rules) c.pop.ensures.rest
