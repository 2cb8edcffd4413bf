use Rattle.convoy_causes.proofs.Effects.{narrowed_told}
use Rattle.convoy_causes.proofs.narrowing.narrow_windows.Goals as goal

pub returns : goal.returns
returns c =
    narrowed_told c.in_ok-narrowing.narrowing.cutting.instance.now c.args.instance.now c.in_ok-narrowing.narrowing.causes.now c.args.causes.now c.args.within.now c.in_ok-first.first
    c.in_ok-narrower.narrower c.in_ok-cut.cut c.in_ok-narrowing.ensures.instance c.in_ok-narrowing.ensures.causes c.in_ok-first.ensures c.in_ok-narrower.ensures c.in_ok-cut.ensures
