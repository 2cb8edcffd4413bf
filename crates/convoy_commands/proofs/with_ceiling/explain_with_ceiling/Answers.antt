use Rattle.convoy_commands.specs.declared.asking.Asking.TheVariants.{Explain}
use Rattle.convoy_commands.specs.WithCeilings.{ExplainWithCeilingSays}
use Rattle.convoy_commands.proofs.CeilingWithins.{as_explained}
use Rattle.convoy_commands.proofs.WithinTexts.{refused_as_asked, refused_within}
use Rattle.convoy_commands.proofs.with_ceiling.explain_with_ceiling.Goals as goal

pub returns-in-Err : goal.returns-in-Err
returns-in-Err c =
    refused_as_asked c.args.limit (Explain c.args.unit) (ExplainWithCeilingSays c.args.unit) c.args.text.now c.in-Err.fault _ (as_explained c.args.unit) c.answer_to_fault.ensures
    (refused_within c.texts_are_read.ensures c.checked_is_valid.ensures c.args.limit (Explain c.args.unit) c.args.text.now c.in-Err.fault _
    c.in-Err.ensures.exact c.answer_to_fault.ensures)
