use Rattle.convoy_commands.proofs.WrittenTexts.{written_told}
use Rattle.convoy_commands.proofs.command_laws.written_texts_are_told.Goals as goal

pub returns : goal.returns
returns c = written_told c.texts_are_read.ensures c.schedules_are_given.ensures
