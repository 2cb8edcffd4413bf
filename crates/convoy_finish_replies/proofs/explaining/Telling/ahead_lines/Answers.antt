use Rattle.std.proofs.Common.{rules}
use Rattle.convoy_finish_replies.specs.FinishExplanations.{ahead_line}
use Rattle.convoy_finish_replies.proofs.InTurn.{more_lines}
use Rattle.convoy_finish_replies.proofs.explaining.Telling.ahead_lines.Goals as goal

pub loop-message-preserved : goal.loop-message-preserved
loop-message-preserved c =
    more_lines (ahead_line c.args.self.now.scenario.now c.args.self.now.run.now.ways c.args.self.now.run.now.schedule) c.loop-message.message _ _ _
    c.in_ok-push_str.ensures.bytes (search rules) c.loop-message.invariant
