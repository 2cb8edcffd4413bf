use Rattle.std.proofs.Common.{◌≡◌, arith, rules}
use Rattle.std.proofs.lemmas.List.Elements.{All-from_get_or}
use Rattle.convoy_branch.proofs.step.middle_of_widest.Goals as goal

pub returns-then-width-eq0-clause-point : goal.returns-then-width-eq0-clause-point
returns-then-width-eq0-clause-point c =
    (λ none. All-from_get_or (λ range. range.0 ≡ range.1) c.args.branch.now (0, 0) (λ k below. let passed = c.loop-packet.invariant.passed k (omega arith) in omega (arith, passed)), search rules)
