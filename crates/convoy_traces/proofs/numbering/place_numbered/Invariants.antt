use Rattle.std.proofs.Common.{◌≡◌, ◌+◌, drop}
use Rattle.convoy_traces.specs.Rows.{numbered}
use Rattle.convoy_traces.proofs.numbering.place_numbered.Given as goal

-- the number is that of the first among the places that are left
abbrev pub invariant-loop-place : goal.invariant-loop-place
invariant-loop-place l = numbered (l.place + 1) (drop l.place l.scenario.places) l.word ≡ numbered 1 l.scenario.places l.word
