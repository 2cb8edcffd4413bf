use Rattle.std.proofs.Common.{◌≡◌, ◌++◌, drop}
use Rattle.std.specs.Prelude.{string_bytes}
use Rattle.std.specs.List.{flat_map}
use Rattle.convoy_workflow_replies.specs.WorkflowExplanations.{following_text}
use Rattle.convoy_workflow_replies.proofs.explaining.Telling.following_lines.Given as goal

-- the lines so far and those of the causes that are left are all lines
abbrev pub invariant-loop-cause : goal.invariant-loop-cause
invariant-loop-cause l =
    string_bytes l.lines ++ flat_map (following_text l.self.measure l.self.scenario.now l.self.run.now.schedule) (drop l.cause-index l.causes)
    ≡ flat_map (following_text l.self.measure l.self.scenario.now l.self.run.now.schedule) l.causes
