use Rattle.std.proofs.Common.{◌≡◌, ◌++◌, take}
use Rattle.std.specs.List.{flat_map}
use Rattle.convoy_report.specs.Pages.{run_text}
use Rattle.convoy_report.proofs.sections.push_runs.Given as goal

-- the sections of the runs so far
abbrev pub invariant-loop-run : goal.invariant-loop-run
invariant-loop-run l = l.out.items ≡ l.initial.out.items ++ flat_map (run_text l.scenario) (take l.run-index l.runs)
