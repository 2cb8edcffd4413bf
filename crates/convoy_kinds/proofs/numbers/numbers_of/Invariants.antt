use Rattle.std.proofs.Common.{◌≡◌, [], filter, get_or}
use Rattle.std.specs.List.{range_with_len}
use Rattle.convoy_draft.specs.Checks.{is_among}
use Rattle.convoy_kinds.proofs.numbers.numbers_of.Given as goal

abbrev pub invariant-loop-g : goal.invariant-loop-g
invariant-loop-g l = l.numbers.items ≡ filter (λ g. is_among (get_or l.groups g []) l.named) (range_with_len 0 l.g)
