use Rattle.convoy_text_answers.proofs.Yeses.{yes_is_greatest}
use Rattle.convoy_text_answers.proofs.check_laws.yes_is_greatest.Goals as goal

pub returns : goal.returns
returns c = yes_is_greatest
