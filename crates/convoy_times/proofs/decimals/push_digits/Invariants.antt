use Rattle.std.proofs.Common.{◌≡◌, ◌<◌, ◌≤◌, ◌++◌, ◌-◌}
use Rattle.convoy_times.specs.declared.decimals.TheConstants.{MOST_DIGITS}
use Rattle.convoy_times.specs.Measures.{fraction_digits}
use Rattle.convoy_times.proofs.decimals.push_digits.Given as goal

-- what is left is less than one, and its digits are still to come
abbrev pub invariant-loop : goal.invariant-loop
invariant-loop l = record {
  one : l.one ≤ 1000000000;
  part : l.left < l.one;
  told : l.out.items ++ fraction_digits (MOST_DIGITS - l.counter) l.one l.left ≡ l.fn.out.items ++ fraction_digits MOST_DIGITS l.one l.fn.rest;
}
