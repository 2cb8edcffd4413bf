use Rattle.convoy_text_answers.proofs.Yeses.{other_about, yes_about}
use Rattle.convoy_text_answers.proofs.checking.answer_to_yes.Goals as goal

pub returns-in_ok-differs_line-in-Some : goal.returns-in_ok-differs_line-in-Some
returns-in_ok-differs_line-in-Some c text accepted =
    other_about _ c.in-Some.part text c.args.line.items _ c.args.certificate.now
    accepted (rw c.scenario.ensures at c.in-Some.ensures) c.in_ok-differs_line-in-Some.ensures

pub returns-in_ok-accepted_text-in-None : goal.returns-in_ok-accepted_text-in-None
returns-in_ok-accepted_text-in-None c text accepted =
    yes_about _ c.args.tells c.args.unit text c.args.line.items _ c.args.certificate.now
    accepted (rw c.scenario.ensures at c.in-None.ensures) c.in_ok-accepted_text-in-None.ensures
