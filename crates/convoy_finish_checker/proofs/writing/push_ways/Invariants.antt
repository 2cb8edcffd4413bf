use Rattle.std.proofs.Common.{◌≡◌, ◌++◌, flat_map}
use Rattle.std.specs.List.{range_with_len}
use Rattle.convoy_finish_checker.specs.FinishTexts.{ways_line}
use Rattle.convoy_finish_checker.proofs.writing.push_ways.Given as goal

abbrev pub invariant-loop-message : goal.invariant-loop-message
invariant-loop-message l = l.text.items ≡ l.initial.text.items ++ flat_map (ways_line l.certificate) (range_with_len 0 l.message)
