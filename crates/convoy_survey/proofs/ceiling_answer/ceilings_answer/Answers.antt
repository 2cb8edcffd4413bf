use Rattle.std.proofs.Common.{inl, refl, rules}
use Rattle.convoy_survey.proofs.ceiling_answer.ceilings_answer.Goals as goal

pub returns : goal.returns
returns g c =
    inl
    (record {
      scenario = c.in_ok-input.input.scenario;
      span = c.in_ok-span.span;
      rows = c.in_ok-rows.rows.items;
      read = c.in_ok-input.ensures.read;
      lawful = c.message_count-count.ensures.lawful;
      named = search rules;
      asked_for = search rules;
      ceiled = c.in_ok-rows.ensures;
      written =
          rw (c.about.ensures.text, c.in_ok-text.ensures, c.deref.ensures.value, c.is_at_all_groups.ensures, c.is_some.ensures, c.of-times.ensures, c.of.ensures, c.in_ok-input.ensures.unit, c.as_slice-deadlines.ensures.value, c.in_ok-input.ensures.deadlines)
          refl;
      ends = rw (c.about.ensures.done, c.end_of-done.ensures, c.deref-2.ensures.value, c.as_slice-deadlines.ensures.value, c.in_ok-input.ensures.deadlines) refl;
    })
