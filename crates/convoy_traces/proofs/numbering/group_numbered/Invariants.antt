use Rattle.std.proofs.Common.{◌≡◌, drop}
use Rattle.convoy_traces.specs.Rows.{numbered}
use Rattle.convoy_traces.proofs.numbering.group_numbered.Given as goal

-- the number is that of the first among the groups that are left
abbrev pub invariant-loop-group : goal.invariant-loop-group
invariant-loop-group l = numbered l.group (drop l.group l.scenario.groups) l.word ≡ numbered 0 l.scenario.groups l.word
