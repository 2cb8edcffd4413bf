use Rattle.std.proofs.Common.{◌≡◌, drop}
use Rattle.std.specs.List.{list_all}
use Rattle.convoy_traces.specs.Traces.{is_whole}
use Rattle.convoy_traces.proofs.fine.are_whole.Given as goal

-- all are whole if those are that are left
abbrev pub invariant-loop-one : goal.invariant-loop-one
invariant-loop-one l = list_all (is_whole l.tick l.factor) (drop l.one-index l.entries) ≡ list_all (is_whole l.tick l.factor) l.entries
