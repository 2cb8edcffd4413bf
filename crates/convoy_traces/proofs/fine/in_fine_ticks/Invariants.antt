use Rattle.std.proofs.Common.{◌≡◌, drop, []}
use Rattle.convoy_traces.specs.Traces.{fine_from}
use Rattle.convoy_traces.proofs.fine.in_fine_ticks.Given as goal

-- what is told so far, and by the entries that are left
abbrev pub invariant-loop-one : goal.invariant-loop-one
invariant-loop-one l = fine_from l.tick l.factor l.told.items (drop l.one-index l.entries) ≡ fine_from l.tick l.factor [] l.entries
