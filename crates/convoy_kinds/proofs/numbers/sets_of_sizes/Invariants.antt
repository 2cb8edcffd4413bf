use Rattle.std.proofs.Common.{◌≡◌, flat_map, take}
use Rattle.convoy_draft.specs.Checks.{ticks}
use Rattle.convoy_kinds.specs.Numbering.{sets_of_size}
use Rattle.convoy_kinds.proofs.numbers.sets_of_sizes.Given as goal

abbrev pub invariant-loop-size : goal.invariant-loop-size
invariant-loop-size l = l.sets.items ≡ flat_map (λ size. sets_of_size l.groups (ticks 8 size)) (take l.size-index l.sizes)
