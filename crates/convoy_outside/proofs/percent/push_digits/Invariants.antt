use Rattle.std.proofs.Common.{◌≡◌, ◌<◌, ◌++◌, ◌-◌}
use Rattle.convoy_times.specs.Measures.{fraction_digits}
use Rattle.convoy_outside.proofs.percent.push_digits.Given as goal

-- what is left is less than one, and its digits are still to come
abbrev pub invariant-loop : goal.invariant-loop
invariant-loop l = record {
  part : l.left < 1000000;
  told : l.out.items ++ fraction_digits (9 - l.counter) 1000000 l.left ≡ l.fn.out.items ++ fraction_digits 9 1000000 l.fn.millionths;
}
