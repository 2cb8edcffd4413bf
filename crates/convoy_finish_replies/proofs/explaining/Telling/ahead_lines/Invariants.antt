use Rattle.std.proofs.Common.{◌≡◌}
use Rattle.std.specs.Prelude.{string_bytes}
use Rattle.std.specs.List.{flat_map, range_with_len}
use Rattle.convoy_finish_replies.specs.FinishExplanations.{ahead_line}
use Rattle.convoy_finish_replies.proofs.explaining.Telling.ahead_lines.Given as goal

abbrev pub invariant-loop-message : goal.invariant-loop-message
invariant-loop-message l =
    string_bytes l.lines ≡ flat_map (ahead_line l.self.scenario.now l.self.run.now.ways l.self.run.now.schedule) (range_with_len 0 l.message)
