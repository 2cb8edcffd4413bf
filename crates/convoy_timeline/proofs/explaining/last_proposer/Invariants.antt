use Rattle.std.proofs.Common.{◌≡◌, ◌==◌, find, drop}
use Rattle.convoy_timeline.specs.ExplanationWords.{propose_told}
use Rattle.convoy_timeline.specs.RunWords.{committed_told}
use Rattle.convoy_timeline.proofs.explaining.last_proposer.Given as goal

-- the first of those that are left is the first of all
abbrev pub invariant-loop-from : goal.invariant-loop-from
invariant-loop-from l =
    find (λ h. propose_told l.table.packets l.schedule l.run l.message l.group h == committed_told l.run l.message l.group) (drop l.from-index l.from-items)
    ≡ find (λ h. propose_told l.table.packets l.schedule l.run l.message l.group h == committed_told l.run l.message l.group) l.from-items
