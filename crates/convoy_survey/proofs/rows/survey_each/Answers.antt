use Rattle.convoy_survey.proofs.rows.survey_each.Goals as goal

pub returns : goal.returns
returns g c = record {
  targets = c.in_ok-rows.ensures.targets;
  told = λ k d small. let is = c.in_ok-rows.ensures.told k d small in record { answer = is.answer; given = is.given.answered; told = is.told };
}
