use Rattle.convoy_case_survey.specs.Surveying.{AreSurveyedCases}
use Rattle.convoy_case_survey.proofs.answering.survey_all.Given as goal

abbrev pub invariant-loop-number : goal.invariant-loop-number
invariant-loop-number g l = AreSurveyedCases l.format l.asked l.number l.options l.text l.cases.items
