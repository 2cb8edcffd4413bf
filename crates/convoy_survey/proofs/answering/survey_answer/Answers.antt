use Rattle.std.proofs.Common.{ℕ, Option, inl, refl, subst}
use Rattle.convoy_survey.specs.Surveys.{AreSurveyed}
use Rattle.convoy_survey.proofs.answering.survey_answer.Goals as goal

pub returns : goal.returns
returns g c =
    inl
    (record {
      scenario = c.in_ok-input.input.scenario;
      rows = c.in_ok-rows.rows.items;
      read = c.in_ok-input.ensures.read;
      lawful = c.message_count-count.ensures.lawful;
      surveyed =
          subst (λ (span : Option ℕ). AreSurveyed c.args.options.now span c.in_ok-input.input.scenario c.in_ok-rows.rows.items) c.span_of-span.ensures.value
          c.in_ok-rows.ensures;
      written =
          rw (c.about.ensures.text, c.in_ok-text.ensures, c.deref.ensures.value, c.of-times.ensures, c.of.ensures, c.unit.ensures, c.in_ok-input.ensures.unit, c.as_slice-deadlines.ensures.value, c.in_ok-input.ensures.deadlines)
          refl;
      ends = rw (c.about.ensures.done, c.end_of-done.ensures, c.deref-2.ensures.value, c.as_slice-deadlines.ensures.value, c.in_ok-input.ensures.deadlines) refl;
    })
