use Rattle.std.proofs.Common.{rules}
use Rattle.convoy_finish_replies.proofs.Explained.{explained_so}
use Rattle.convoy_finish_replies.proofs.explaining.explanation.Goals as goal

pub returns : goal.returns
returns c =
    explained_so c.args.unit c.args.certificate.now c.of-2.result c.scenario-scenario.result.now c.in_ok-run.run'.ways c.in_ok-run.run'.schedule c.latency.result
    c.in_ok-text.text.items c.in_ok-text.ensures (search rules) (search rules) (search rules) (search rules) c.latency.ensures
