use Rattle.convoy_finish_checker.proofs.Greatest.{valid_is_greatest}
use Rattle.convoy_finish_checker.proofs.finish_check_laws.valid_finish_is_greatest.Goals as goal

pub returns : goal.returns
returns c = valid_is_greatest c.closed_finishing.ensures c.met_upper_is_greatest.ensures
