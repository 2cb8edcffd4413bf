use Rattle.convoy_text_answers.proofs.Withins.{answered_within, others_within}
use Rattle.convoy_text_answers.proofs.checking.about_certificate.Goals as goal

pub returns-in_ok-answer_to_yes-in-Fine : goal.returns-in_ok-answer_to_yes-in-Fine
returns-in_ok-answer_to_yes-in-Fine c text lawful found spelled =
    answered_within c.texts_differ.ensures c.args.limit _ c.args.tells c.args.unit text _ c.args.certificate.now _ lawful spelled
    (rw c.in-Fine.is at (c.in_ok-answer.ensures text lawful found spelled))
    (λ accepted. c.in_ok-answer_to_yes-in-Fine.ensures text accepted)

pub returns-in_default : goal.returns-in_default
returns-in_default c text lawful found spelled =
    others_within c.args.limit _ c.args.tells c.args.unit text _ _ c.in_default.not-Fine (c.in_ok-answer.ensures text lawful found spelled)
