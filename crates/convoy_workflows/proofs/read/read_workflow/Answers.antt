use Rattle.convoy_workflows.proofs.Lawful.{lawful_read}
use Rattle.convoy_workflows.proofs.read.read_workflow.Goals as goal

pub returns-clause-lawful : goal.returns-clause-lawful
returns-clause-lawful c = lawful_read c.args.asked.now c.args.text.now c.read_text.result c.read_text.ensures.value
