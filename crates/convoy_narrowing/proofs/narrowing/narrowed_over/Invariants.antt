use Rattle.std.proofs.Common.{◌≡◌, fold, take}
use Rattle.convoy_narrowing.specs.Narrowing.{narrowed_by}
use Rattle.convoy_narrowing.proofs.narrowing.narrowed_over.Given as goal

abbrev pub invariant-loop-pair : goal.invariant-loop-pair
invariant-loop-pair l = l.narrower ≡ fold (narrowed_by l.scenario) l.initial.narrower (take l.pair-index l.before)
