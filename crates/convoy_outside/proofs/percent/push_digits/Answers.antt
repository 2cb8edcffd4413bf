use Rattle.std.proofs.Common.{◌-◌, arith}
use Rattle.convoy_times.proofs.Fractions.{all_told, digit_small, digit_told, left_small, nothing_left}
use Rattle.convoy_outside.proofs.percent.push_digits.Goals as goal

pub overflow_cast-left : goal.overflow_cast-left
overflow_cast-left c = omega (arith, digit_small 1000000 c.loop.left c.loop.invariant.part)

pub overflow_add-left : goal.overflow_add-left
overflow_add-left c = omega (arith, digit_small 1000000 c.loop.left c.loop.invariant.part)

pub loop-preserved : goal.loop-preserved
loop-preserved c = record {
  part = left_small 1000000 c.loop.left c.loop.invariant.part;
  told = digit_told c.loop.counter 1000000 c.loop.left _ _ _ c.loop-test.true c.if-left-eq0.false c.in_ok-push.ensures.items c.loop.invariant.told;
}

pub returns-then-left-eq0 : goal.returns-then-left-eq0
returns-then-left-eq0 c = nothing_left (9 - c.loop.counter) 1000000 c.loop.left _ _ c.if-left-eq0.true c.loop.invariant.told

pub returns-after-loop : goal.returns-after-loop
returns-after-loop c = all_told c.loop.counter 1000000 c.loop.left _ _ c.loop-test.false c.loop.invariant.told
