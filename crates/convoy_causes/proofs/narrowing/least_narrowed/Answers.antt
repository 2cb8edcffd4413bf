use Rattle.convoy_causes.proofs.Effects.{narrowed_told}
use Rattle.convoy_causes.proofs.narrowing.least_narrowed.Goals as goal

pub returns-clause-windows : goal.returns-clause-windows
returns-clause-windows c =
    narrowed_told c.in_ok-narrowing.narrowing.cutting.instance.now c.args.instance.now c.in_ok-narrowing.narrowing.causes.now c.args.causes.now c.in_ok-found.found.within.items c.in_ok-first.first
    c.in_ok-found.found.windows c.in_ok-windows.windows c.in_ok-narrowing.ensures.instance c.in_ok-narrowing.ensures.causes c.in_ok-first.ensures c.in_ok-found.ensures.windows
    c.in_ok-windows.ensures
