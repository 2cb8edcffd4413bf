use Rattle.std.proofs.Common.{arith, mod-lt}
use Rattle.std.proofs.lemmas.Nat.Gcd.{IsGcd-from_zero, IsGcd-from_mod, same_from_IsGcd}
use Rattle.convoy_toml.proofs.Divisors.{below, is_common_divisor}
use Rattle.convoy_toml.proofs.divisor.common_divisor.Goals as goal

pub loop-rest-preserved : goal.loop-rest-preserved
loop-rest-preserved c =
    let less = mod-lt c.loop-rest.divisor (below c.loop-rest.rest c.loop-rest-test.true) in
    let bound = c.loop-rest.invariant.2 in
    (λ g h. c.loop-rest.invariant.0 g (IsGcd-from_mod _ _ g h), bound, omega (arith, less, bound))

pub returns-clause-divisor : goal.returns-clause-divisor
returns-clause-divisor c = same_from_IsGcd _ _ _ _ (c.loop-rest.invariant.0 _ (IsGcd-from_zero _ _ (omega arith))) (is_common_divisor c.args.a c.args.b)
