use Rattle.convoy_commands.specs.declared.asking.Asking.TheVariants.{Check}
use Rattle.convoy_commands.proofs.WithinTexts.{refused_within}
use Rattle.convoy_text_answers.proofs.Withins.{refused_about}
use Rattle.convoy_text_answers.proofs.checking.answer_about.Goals as goal

pub returns-in-Err : goal.returns-in-Err
returns-in-Err c =
    refused_about c.args.limit _ c.args.tells c.args.unit c.args.text.now c.in-Err.fault _ c.answer_to_fault.ensures
    (refused_within c.texts_are_read.ensures c.checked_is_valid.ensures c.args.limit Check c.args.text.now c.in-Err.fault _
    c.in-Err.ensures.exact c.answer_to_fault.ensures)
