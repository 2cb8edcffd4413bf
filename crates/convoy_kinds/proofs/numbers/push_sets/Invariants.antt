use Rattle.std.proofs.Common.{◌≡◌, ◌==◌, ◌++◌, filter, length, map}
use Rattle.std.specs.List.{range_with_len}
use Rattle.convoy_kinds.specs.Numbering.{set_of}
use Rattle.convoy_kinds.proofs.numbers.push_sets.Given as goal

abbrev pub invariant-loop-number : goal.invariant-loop-number
invariant-loop-number l =
    l.sets.items ≡ l.initial.sets.items ++ filter (λ set. length set == l.size) (map (set_of l.groups) (range_with_len 0 l.number))
