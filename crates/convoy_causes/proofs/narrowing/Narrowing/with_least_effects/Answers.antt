use Rattle.std.proofs.Common.{ℕ, ap, length}
use Rattle.convoy_sure.specs.Windows.{Windows}
use Rattle.convoy_causes.specs.declared.cause.Cause.{Cause}
use Rattle.convoy_causes.specs.CauseWindows.{with_effect_within}
use Rattle.convoy_causes.proofs.Effects.{found_next, found_none}
use Rattle.convoy_causes.proofs.narrowing.Narrowing.with_least_effects.Goals as goal

pub loop-place-init : goal.loop-place-init
loop-place-init c =
    let scenario = c.args.self.now.cutting.instance.now in
    let causes = c.args.self.now.causes.now in
    record {
      windows = found_none (λ (narrower : Windows) (step : Cause × ℕ). with_effect_within scenario causes narrower step.0 step.1) c.args.windows causes _ c.new-within.ensures.items;
      each = ap length c.new-within.ensures.items;
    }

pub loop-place-preserved : goal.loop-place-preserved
loop-place-preserved c =
    let scenario = c.args.self.now.cutting.instance.now in
    let causes = c.args.self.now.causes.now in
    let turn =
    found_next (λ (narrower : Windows) (step : Cause × ℕ). with_effect_within scenario causes narrower step.0 step.1) c.args.windows c.loop-place.cut c.in_ok-cut.cut causes c.loop-place.within.items
    _ _ c.in_ok-ticks.ticks c.loop-place.place c.loop-place-test.true c.loop-place.invariant.each c.in_ok-cut.ensures c.in_ok-push.ensures.items c.loop-place.invariant.windows
    in record { windows = turn.0; each = turn.1 }
