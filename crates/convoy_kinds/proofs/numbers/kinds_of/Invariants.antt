use Rattle.std.proofs.Common.{◌≡◌, ◌++◌, drop}
use Rattle.convoy_kinds.specs.Numbering.{kinds_from}
use Rattle.convoy_kinds.proofs.numbers.kinds_of.Given as goal

abbrev pub invariant-loop-number : goal.invariant-loop-number
invariant-loop-number l = l.kinds.items ++ kinds_from l.number l.groups l.places (drop l.number l.tables) ≡ kinds_from 0 l.groups l.places l.tables
