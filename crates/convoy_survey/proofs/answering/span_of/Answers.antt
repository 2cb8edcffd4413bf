use Rattle.std.proofs.Common.{ℕ, Option, IfSome, IsTrue, subst, sym}
use Rattle.convoy_around.specs.Around.{is_span}
use Rattle.convoy_survey.proofs.AroundRows.{short_span}
use Rattle.convoy_survey.proofs.answering.span_of.Goals as goal

pub returns-clause-short : goal.returns-clause-short
returns-clause-short c =
    subst (λ (span : Option ℕ). IfSome span (λ n. IsTrue (is_span n))) (sym c.span_asked.ensures)
    (short_span c.texts_have_spans.ensures c.args.asked.now c.args._text.now c.args.scenario.now c.requires)
