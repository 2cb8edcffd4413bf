use Rattle.std.proofs.Common.{rules}
use Rattle.convoy_finish_checker.specs.FinishTexts.{ways_line}
use Rattle.convoy_finish_checker.proofs.Lines.{more_lines}
use Rattle.convoy_finish_checker.proofs.writing.push_ways.Goals as goal

pub loop-message-preserved : goal.loop-message-preserved
loop-message-preserved c =
    more_lines (ways_line c.args.certificate.now) c.loop-message.message c.args.text.now.items _ _ c.loop-message.invariant (search rules)
