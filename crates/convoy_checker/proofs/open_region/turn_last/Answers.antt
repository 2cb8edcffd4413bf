use Rattle.std.proofs.Common.{rules}
use Rattle.convoy_checker.proofs.OpenRegions.{turned_round}
use Rattle.convoy_checker.proofs.open_region.turn_last.Goals as goal

pub returns-then-count-gt0 : goal.returns-then-count-gt0
returns-then-count-gt0 c = turned_round c.args.before.now.items _ c.index.result.now (search rules) c.index.ensures
