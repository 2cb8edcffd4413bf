use Rattle.std.proofs.Common.{◌≡◌, ◌+◌, fold, drop}
use Rattle.convoy_sure.specs.Windows.{Windows, with_arrival}
use Rattle.convoy_causes.specs.CauseWindows.{least_way}
use Rattle.convoy_causes.proofs.cutting.Cutting.with_issue_since.Given as goal

abbrev pub invariant-loop-to : goal.invariant-loop-to
invariant-loop-to l =
    let scenario = l.self.instance.now in
    fold (λ (cut : Windows) g. with_arrival scenario cut l.message g (l.from + least_way scenario l.message g)) l.cut (drop l.to-index l.to-items)
    ≡ fold (λ (cut : Windows) g. with_arrival scenario cut l.message g (l.from + least_way scenario l.message g)) l.fn.windows l.to-items
