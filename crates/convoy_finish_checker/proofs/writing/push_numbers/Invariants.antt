use Rattle.std.proofs.Common.{◌≡◌, ◌++◌, flat_map, decimal}
use Rattle.std.specs.List.{range_with_len}
use Rattle.convoy_lines.specs.Texts.{spaced}
use Rattle.convoy_finishes.specs.Finishes.{way_at}
use Rattle.convoy_finish_checker.proofs.writing.push_numbers.Given as goal

abbrev pub invariant-loop-group : goal.invariant-loop-group
invariant-loop-group l = l.text.items ≡ l.initial.text.items ++ flat_map (λ k. spaced (decimal (way_at l.ways l.message k))) (range_with_len 0 l.group)
