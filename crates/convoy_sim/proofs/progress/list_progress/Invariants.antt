use Rattle.std.proofs.Common.{◌≡◌, ◌/◌, ◌%◌, map}
use Rattle.std.specs.List.{range_with_len}
use Rattle.convoy_draft.specs.declared.limits.TheConstants.{MOST_GROUPS}
use Rattle.convoy_sim.specs.Progress.{progress_told}
use Rattle.convoy_sim.proofs.progress.list_progress.Given as goal

-- the entries so far
abbrev pub invariant-loop-at : goal.invariant-loop-at
invariant-loop-at l =
    l.progress.items
    ≡ map (λ at. progress_told l.times.scenario l.times.schedule l.stamps (at / MOST_GROUPS) (at % MOST_GROUPS)) (range_with_len 0 l.at)
