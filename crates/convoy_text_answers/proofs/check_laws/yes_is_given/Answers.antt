use Rattle.convoy_text_answers.proofs.Yeses.{yes_is_given}
use Rattle.convoy_text_answers.proofs.check_laws.yes_is_given.Goals as goal

pub returns : goal.returns
returns c = yes_is_given c.texts_differ.ensures
