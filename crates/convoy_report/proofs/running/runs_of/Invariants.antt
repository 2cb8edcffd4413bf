use Rattle.std.proofs.Common.{take}
use Rattle.convoy_report.specs.Reports.{AreRunsOf}
use Rattle.convoy_report.proofs.running.runs_of.Given as goal

-- the runs of the targets so far
abbrev pub invariant-loop-target : goal.invariant-loop-target
invariant-loop-target g l = AreRunsOf l.asked l.options l.text l.scenario (take l.target-index l.targets) l.runs.items
