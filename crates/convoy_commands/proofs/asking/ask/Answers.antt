use Rattle.convoy_commands.proofs.WithinTexts.{refused_within}
use Rattle.convoy_commands.proofs.asking.ask.Goals as goal

pub returns-in-Err : goal.returns-in-Err
returns-in-Err c =
    refused_within c.texts_are_read.ensures c.checked_is_valid.ensures c.args.limit c.args.asking c.args.text.now c.in-Err.fault _
    c.in-Err.ensures.exact c.answer_to_fault.ensures
