use Rattle.std.proofs.Common.{◌≡◌, ◌+◌, ◌-◌}
use Rattle.convoy_traces.specs.Traces.{first_factor}
use Rattle.convoy_traces.proofs.fine.first_factor.Given as goal

-- the factor is the first among those that are left
abbrev pub invariant-loop-before : goal.invariant-loop-before
invariant-loop-before l = first_factor l.tick l.entries (l.most - l.before) (l.before + 1) ≡ first_factor l.tick l.entries l.most 1
