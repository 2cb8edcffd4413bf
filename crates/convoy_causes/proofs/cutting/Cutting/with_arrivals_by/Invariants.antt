use Rattle.std.proofs.Common.{◌≡◌, ◌+◌, fold, drop}
use Rattle.convoy_sure.specs.Windows.{Windows, tables_by, with_arrival_by}
use Rattle.convoy_causes.proofs.cutting.Cutting.with_arrivals_by.Given as goal

abbrev pub invariant-loop-to : goal.invariant-loop-to
invariant-loop-to l =
    let scenario = l.self.instance.now in
    fold (λ (cut : Windows) g. with_arrival_by scenario cut l.message g (l.by + (tables_by cut).greatest_multicast l.message g)) l.cut (drop l.to-index l.to-items)
    ≡ fold (λ (cut : Windows) g. with_arrival_by scenario cut l.message g (l.by + (tables_by cut).greatest_multicast l.message g)) l.fn.windows l.to-items
