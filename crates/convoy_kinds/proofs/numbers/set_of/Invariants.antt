use Rattle.std.proofs.Common.{◌≡◌, filter}
use Rattle.std.specs.List.{range_with_len}
use Rattle.convoy_kinds.specs.Numbering.{is_in_set}
use Rattle.convoy_kinds.proofs.numbers.set_of.Given as goal

abbrev pub invariant-loop-group : goal.invariant-loop-group
invariant-loop-group l = l.members.items ≡ filter (is_in_set l.groups l.number) (range_with_len 0 l.group)
