use Rattle.std.proofs.Common.{◌≡◌, fold, drop}
use Rattle.convoy_sure.specs.Windows.{Windows, with_commit_by}
use Rattle.convoy_causes.specs.CauseWindows.{latest_commit}
use Rattle.convoy_causes.proofs.cutting.Cutting.with_latest_commits.Given as goal

abbrev pub invariant-loop-to : goal.invariant-loop-to
invariant-loop-to l =
    let scenario = l.self.instance.now in
    fold (λ (cut : Windows) g. with_commit_by scenario cut l.message g (latest_commit scenario cut l.message g)) l.cut (drop l.to-index l.to-items)
    ≡ fold (λ (cut : Windows) g. with_commit_by scenario cut l.message g (latest_commit scenario cut l.message g)) l.fn.windows l.to-items
