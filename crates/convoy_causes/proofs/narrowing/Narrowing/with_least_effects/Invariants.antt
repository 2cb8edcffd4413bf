use Rattle.std.proofs.Common.{◌≡◌, ℕ, fold, length, zip}
use Rattle.convoy_sure.specs.Windows.{Windows}
use Rattle.convoy_causes.specs.declared.cause.Cause.{Cause}
use Rattle.convoy_causes.specs.CauseWindows.{with_effect_within}
use Rattle.convoy_causes.proofs.narrowing.Narrowing.with_least_effects.Given as goal

abbrev pub invariant-loop-place : goal.invariant-loop-place
invariant-loop-place l =
    let scenario = l.self.cutting.instance.now in
    let causes = l.self.causes.now in
    record {
      windows : l.cut ≡ fold (λ (narrower : Windows) (step : Cause × ℕ). with_effect_within scenario causes narrower step.0 step.1) l.fn.windows (zip causes l.within.items);
      each : length l.within.items ≡ l.place;
    }
