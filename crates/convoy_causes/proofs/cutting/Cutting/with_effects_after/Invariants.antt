use Rattle.std.proofs.Common.{◌≡◌, fold, drop}
use Rattle.convoy_sure.specs.Windows.{Windows}
use Rattle.convoy_causes.specs.CauseWindows.{with_effect_after}
use Rattle.convoy_causes.proofs.cutting.Cutting.with_effects_after.Given as goal

abbrev pub invariant-loop-cause : goal.invariant-loop-cause
invariant-loop-cause l =
    let scenario = l.self.instance.now in
    fold (λ (narrower : Windows) cause. with_effect_after scenario cause narrower) l.cut (drop l.cause-index l.causes)
    ≡ fold (λ (narrower : Windows) cause. with_effect_after scenario cause narrower) l.fn.windows l.causes
