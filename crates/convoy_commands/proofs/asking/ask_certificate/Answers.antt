use Rattle.std.proofs.Common.{refl, Ok, Err}
use Rattle.convoy_commands.proofs.WithinTexts.{checked_within_asked, said_so}
use Rattle.convoy_commands.proofs.asking.ask_certificate.Goals as goal

pub returns-in-Ok-Some : goal.returns-in-Ok-Some
returns-in-Ok-Some c text lawful found spelled =
    checked_within_asked c.texts_are_read.ensures c.checked_is_valid.ensures c.args.limit c.args.asking text c.args.certificate.now
    (Ok c.in-Ok-Some.field-0) (Ok c.in-Ok-Some.accepted) _
    lawful spelled found (said_so c.in-Ok-Some.field-0 c.in-Ok-Some.accepted c.in-Ok-Some.field-0-is)
    c.in-Ok-Some.ensures.valid c.in-Ok-Some.ensures.greatest c.in-Ok-Some.ensures.exact c.answer_to_check.ensures

pub returns-in-Err : goal.returns-in-Err
returns-in-Err c text lawful found spelled =
    checked_within_asked c.texts_are_read.ensures c.checked_is_valid.ensures c.args.limit c.args.asking text c.args.certificate.now
    (Err c.in-Err.refused) (Err c.in-Err.refused) _
    lawful spelled found refl
    c.in-Err.ensures.valid c.in-Err.ensures.greatest c.in-Err.ensures.exact c.answer_to_check-in-Err.ensures
