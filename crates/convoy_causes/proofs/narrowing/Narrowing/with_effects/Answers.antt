use Rattle.std.proofs.Common.{ℕ, arith}
use Rattle.convoy_sure.specs.Windows.{Windows}
use Rattle.convoy_causes.specs.declared.cause.Cause.{Cause}
use Rattle.convoy_causes.specs.CauseWindows.{with_effect_within}
use Rattle.convoy_causes.proofs.Effects.{zip_end, zip_turn}
use Rattle.convoy_causes.proofs.narrowing.Narrowing.with_effects.Goals as goal

pub loop-place-preserved : goal.loop-place-preserved
loop-place-preserved c =
    let scenario = c.args.self.now.cutting.instance.now in
    let causes = c.args.self.now.causes.now in
    zip_turn (λ (narrower : Windows) (step : Cause × ℕ). with_effect_within scenario causes narrower step.0 step.1) c.args.windows c.loop-place.cut causes c.args.within.now c.in_ok-cut.cut
    c.loop-place.place _ _ (omega (arith, c.loop-place-test.true, c.min-place-end.ensures)) c.in_ok-cut.ensures c.loop-place.invariant

pub returns : goal.returns
returns c =
    let scenario = c.args.self.now.cutting.instance.now in
    let causes = c.args.self.now.causes.now in
    zip_end (λ (narrower : Windows) (step : Cause × ℕ). with_effect_within scenario causes narrower step.0 step.1) c.args.windows c.loop-place.cut causes c.args.within.now
    c.loop-place.place (omega (arith, c.loop-place-test.false, c.min-place-end.ensures)) c.loop-place.invariant
