use Rattle.std.proofs.Common.{◌≡◌, ◌++◌, map, take}
use Rattle.std.specs.List.{flat_map}
use Rattle.convoy_lines.specs.Texts.{spaced}
use Rattle.convoy_times.specs.Measures.{told_ticks}
use Rattle.convoy_times.proofs.measure.Measure.push_words.Given as goal

-- so many numbers are told
abbrev pub invariant-loop-number : goal.invariant-loop-number
invariant-loop-number l = l.out.items ≡ l.fn.out.items ++ flat_map spaced (map (told_ticks l.self) (take l.number-index l.ticks))
